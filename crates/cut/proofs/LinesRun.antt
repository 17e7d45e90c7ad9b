-- Running lines: one pass of the loop over plain variables, and a refusal told from others. Assumes nothing.
use Prim.Native.Nat.{ℕ, ◌+◌, ◌-◌, ◌≤◌, ◌<◌}
use native.Mathlib.Numerals.{add-one}
use native.Mathlib.Omega.{arith}
use mathlib.Core.Path.{◌≡◌, refl, sym, ap, subst, ◌∙◌}
use mathlib.Core.Bool.{Bool, true, false, ◌||◌, true≢false}
use mathlib.Core.List.{List, [], ◌∷◌, ◌++◌, map}
use lib.ListN.{length, drop, get_or, take, length-drop, drop_of_length-le}
use lib.Seq.{drop-cons, drop-drop}
use Rattle.std.specs.Prelude.{Ok, Err}
use Rattle.region.specs.Refusal.{Checked}
use Rattle.region.specs.Inner.{Within}
use Rattle.region.specs.declared.frame.Frame.{Frame}
use Rattle.region.specs.declared.place.Place.TheVariants.{ListReadRoot, ReadRoot}
use Rattle.region.specs.declared.record.Item.{Item}
use Rattle.permission.specs.Permit.{PermitSetIn}
use Rattle.begin.specs.Begin.{PutBegunIn, TakeBegunIn}
use Rattle.run.specs.Run.{turns_from}
use Rattle.script.specs.Inner.{CallMade, Ready}
use Rattle.script.specs.Script.{call_outcome, done_or}
use Rattle.script.specs.declared.printing.Outcome.{Outcome}
use Rattle.script.specs.declared.printing.Outcome.TheVariants.{Begun, Set}
use Rattle.script.specs.declared.reading.What.TheVariants.{Permit, Put, Take, TakeList}
use Rattle.script.proofs.LineCalls.{list_made, permit_made, put_made, ready_within, take_made}
use Rattle.cut.specs.Shown.{is_refusal}
use Rattle.cut.specs.Inner.{CallReady, CallShown, Gathered, LinesRan, TurnsShown, calls_of, calls_show, lines_region, lines_show, no_line, refused_with, region_after, turn_call}
use Rattle.cut.specs.declared.lines.Call.{Call}
use Rattle.cut.specs.declared.lines.Line.{Line}
use Rattle.cut.proofs.Slots.{to_end}
use Rattle.cut.proofs.Groups.{calls_both, calls_ready, regions_both, turns_then}

or-false : (q : Bool) → (q || false) ≡ q
or-false true = refl
or-false false = refl

-- The outcome of a call that is done or refused.
shows_so : (n : ℕ) (r : Checked) (o : Outcome) → is_refusal n o ≡ false → refused_with n r ≡ is_refusal n (done_or o r)
unfolding refused_with
shows_so n (Ok x) o e = sym e
shows_so n (Err y) o e = refl

-- A line's call.
module _ (n : ℕ) (f : Frame) (b b' : List ℕ) (c : Call) (h : CallReady f b c) (r : Checked) (q : Bool) (eq : q ≡ refused_with n r) where
  shown_by : (o : Outcome) → is_refusal n o ≡ false → CallMade b b' c.what c.thread (done_or o r) → CallShown n b b' c q
  shown_by o e m = record { shown = eq ∙ shows_so n r o e ∙ ap (is_refusal n) m.outcome; bytes = m.bytes }

  pub put_shown : (i : Item) → c.what ≡ Put i → PutBegunIn f b b' c.thread i r → CallShown n b b' c q
  put_shown i e p = shown_by Begun refl (put_made f b b' h.ready c.what c.thread i e r p (done_or Begun r) refl)

  pub take_shown : c.what ≡ Take → TakeBegunIn f b b' c.thread ReadRoot r → CallShown n b b' c q
  take_shown e p = shown_by Begun refl (take_made f b b' h.ready c.what c.thread e r p (done_or Begun r) refl)

  pub list_shown : c.what ≡ TakeList → TakeBegunIn f b b' c.thread ListReadRoot r → CallShown n b b' c q
  list_shown e p = shown_by Begun refl (list_made f b b' h.ready c.what c.thread e r p (done_or Begun r) refl)

  pub permit_shown : (x : ℕ) → c.what ≡ Permit x → PermitSetIn f b b' c.thread x r → CallShown n b b' c q
  permit_shown x e p = shown_by Set refl (permit_made f b b' h.ready c.what c.thread x e r p (done_or Set r) refl)

pub call_within : (f : Frame) (b : List ℕ) (c : Call) → CallReady f b c → Within f (length b)
call_within f b c h = ready_within f b h.ready

-- The loop: the lines that are left, from here, show the number where all do, and leave the region that all leave.
pub record Trying (n : ℕ) (f : Frame) (ls : List Line) (b₀ b s : List ℕ) (k : ℕ) : Type 0 where
  pub ready : Ready f b
  pub same : length b ≡ length b₀
  pub room : length s ≡ 128
  pub shown : lines_show n b (drop k ls) ≡ lines_show n b₀ ls
  pub region : lines_region (drop k ls) b ≡ lines_region ls b₀

module _ {n : ℕ} {f : Frame} {ls : List Line} {b₀ b s : List ℕ} {k : ℕ} (e : Trying n f ls b₀ b s k) where
  pub try_end : length ls ≤ k → LinesRan n ls b₀ b false
  unfolding calls_show region_after
  try_end h =
      let none : drop k ls ≡ [] = drop_of_length-le ls h in
      record {
        shown = ap (lines_show n b) (sym none) ∙ e.shown;
        region = λ g. ap (λ l. lines_region l b) (sym none) ∙ e.region;
      }

  -- calls cs and then lines from j on: what is left after them
  module _ (cs : List Call) (j : ℕ) (split : calls_of (drop k ls) ≡ cs ++ calls_of (drop j ls))
      (b' : List ℕ) (eb : b' ≡ region_after cs b) (q : Bool) (eq : q ≡ calls_show n cs b) where
    left_shown : lines_show n b (drop k ls) ≡ (q || lines_show n b' (drop j ls))
    left_shown =
        ap (λ l. calls_show n l b) split
        ∙ calls_both n cs (calls_of (drop j ls)) b
        ∙ ap (λ p. p || lines_show n (region_after cs b) (drop j ls)) (sym eq)
        ∙ ap (λ y. q || lines_show n y (drop j ls)) (sym eb)

    left_region : lines_region (drop k ls) b ≡ lines_region (drop j ls) b'
    left_region =
        ap (λ l. region_after l b) split
        ∙ regions_both cs (calls_of (drop j ls)) b
        ∙ ap (lines_region (drop j ls)) (sym eb)

    calls_shown : q ≡ true → LinesRan n ls b₀ b' true
    calls_shown g =
        record {
          shown = ap (λ p. p || lines_show n b' (drop j ls)) (sym g) ∙ sym left_shown ∙ e.shown;
          region = λ w. absurd (true≢false w);
        }

    calls_more : q ≡ false → length b' ≡ length b → (s' : List ℕ) → length s' ≡ 128 → Trying n f ls b₀ b' s' j
    calls_more g z s' zs =
        record {
          ready = subst (Ready f) (sym eb) (calls_ready f cs b e.ready);
          same = z ∙ e.same;
          room = zs;
          shown = ap (λ p. p || lines_show n b' (drop j ls)) (sym g) ∙ sym left_shown ∙ e.shown;
          region = sym left_region ∙ e.region;
        }

  module _ (h : k < length ls) where
    first_line : drop k ls ≡ get_or ls k no_line ∷ drop (k + 1) ls
    first_line = drop-cons ls k no_line h ∙ ap (λ j. get_or ls k no_line ∷ drop j ls) (sym (add-one k))

    module _ (s' : List ℕ) (turns : ℕ) (g₀ : Gathered (take (length ls - k) (drop k ls)) s' turns) where
      g : Gathered (drop k ls) s' turns
      g = subst (λ l. Gathered l s' turns) (to_end k ls) g₀

      -- a call that is not a turn
      module _ (c : Call) (ec : c ≡ (get_or ls k no_line).call) where
        module _ (b' : List ℕ) (q : Bool) (m : CallShown n b b' c q) where
          first : calls_of (drop k ls) ≡ (c ∷ []) ++ calls_of (drop (k + 1) ls)
          first = ap calls_of first_line ∙ ap (λ x. x ∷ calls_of (drop (k + 1) ls)) (sym ec)

          leaves : b' ≡ region_after (c ∷ []) b
          unfolding region_after
          leaves = m.bytes

          shows : q ≡ calls_show n (c ∷ []) b
          unfolding calls_show
          shows = m.shown ∙ sym (or-false (is_refusal n (call_outcome b c.what c.thread)))

          pub try_shown : q ≡ true → LinesRan n ls b₀ b' true
          try_shown = calls_shown (c ∷ []) (k + 1) first b' leaves q shows

          pub try_more : q ≡ false → length b' ≡ length b → Trying n f ls b₀ b' s' (k + 1)
          try_more w z = calls_more (c ∷ []) (k + 1) first b' leaves q shows w z s' g.room

      few_left : k + turns ≤ length ls
      few_left = omega (arith, g.before, length-drop k ls)

      then : calls_of (drop k ls) ≡ map turn_call (turns_from s' 0 turns) ++ calls_of (drop (k + turns) ls)
      then =
          turns_then (drop k ls) s' turns g
          ∙ ap (λ l. map turn_call (turns_from s' 0 turns) ++ calls_of l) (drop-drop turns k ls)

      module _ (b' : List ℕ) (q : Bool) (m : TurnsShown n (turns_from s' 0 turns) b b' q) where
        pub group_shown : q ≡ true → LinesRan n ls b₀ b' true
        group_shown = calls_shown (map turn_call (turns_from s' 0 turns)) (k + turns) then b' m.bytes q m.shown

        pub group_more : q ≡ false → length b' ≡ length b → Trying n f ls b₀ b' s' (k + turns)
        group_more w z =
            calls_more (map turn_call (turns_from s' 0 turns)) (k + turns) then b' m.bytes q m.shown w z s' g.room
