-- A cut from beginning to end: each way out of the functions, over plain variables. Assumes nothing.
use Prim.Native.Nat.{ℕ, suc, ◌+◌, ◌-◌, ◌≤◌, ◌<◌}
use native.Mathlib.Nat.{zero-add}
use native.Mathlib.Omega.{arith}
use mathlib.Core.Path.{◌≡◌, refl, sym, ap, subst, ◌∙◌}
use mathlib.Core.Bool.{Bool, true, false, not, ◌||◌}
use mathlib.Core.List.{List, [], ◌∷◌, ◌++◌, append-nil, Sublistᴰ}
use borrow.Author.Tests.{eq-eqb, le-leb, lt-leb, ne_eqb, not-false, not-true}
use lib.Dec.{eqb}
use lib.ListN.{length, take, drop, replicate, length-append, length-map, length-replicate, length-take}
use lib.Seq.{length-take-le}
use Rattle.std.specs.Prelude.{Option, Some, None, Ok, Err}
use Rattle.region.specs.Refusal.{Checked, code_of, done, number_of}
use Rattle.region.specs.declared.refusal.Refusal.{Refusal}
use Rattle.region.specs.declared.refusal.Refusal.TheVariants.{BadLength, NotShown}
use Rattle.region.specs.Pick.{pick}
use Rattle.region.proofs.Refusals.{is_granted, number_not_done}
use Rattle.script.specs.Inner.{Appends, Wrote}
use Rattle.script.specs.Reading.{read_opening}
use Rattle.script.specs.Script.{call_bytes, call_outcome, laid_region, setup_check, setup_refusal}
use Rattle.script.specs.declared.reading.Setup.{Setup}
use Rattle.script.specs.declared.text.Text.{Text}
use Rattle.script.proofs.Texts.{appends_length, appends_more, from_start, written}
use Rattle.cut.specs.Whole.{Entry, Script, entries_from, read_script, script_bytes, texts, with_opening}
use Rattle.cut.specs.Shown.{any_refusal, is_refusal, lines_printed, printed_by, shows}
use Rattle.cut.specs.Cut.{cut_check, cut_lines, cut_of, cut_refusal, cut_script, passes}
use Rattle.cut.specs.Promises.{CutDown}
use Rattle.cut.specs.Inner.{CutRoom, IsTrial, Laid, LinesCut, LinesRead, LinesReady, Placed, ReadWhole, WriteRoom, calls_show, count_of, entries_in, entry_in, lines_show, no_line}
use Rattle.cut.specs.declared.lines.Line.{Line}
use Rattle.cut.specs.declared.passes.Trial.{Trial}
use Rattle.cut.proofs.CutIsRight.{NotRefused, cut_written, is_not_refused}
use Rattle.cut.proofs.LinesRead.{placed_blank, placed_part, placed_take}
use Rattle.cut.proofs.ReadAgain.{opening_read, opening_some}
use Rattle.cut.proofs.ScriptsRead.{is_opening, opening_is, script_read}
use Rattle.cut.proofs.Slots.{to_end}
use Rattle.cut.proofs.StaysReadable.{no_longer}
use Rattle.cut.proofs.TextsRead.{reads_within}
use Rattle.cut.proofs.Tried.{map-passes, passes_all, passes_part, same_passes}

-- A call that is refused leaves the slice alone.
module _ (s : List ℕ) (n : ℕ) (out : List ℕ) where
  refused_so : (r : Refusal) → Err r ≡ cut_check s n (length out) → CutDown s n out out (number_of r) 0
  unfolding cut_refusal cut_script pick
  refused_so r e =
      let nothing : cut_script s n (length out) ≡ [] = rw (← e, number_not_done r) refl in
      record { refused = ap code_of e; count = ap length (sym nothing); bytes = rw nothing refl }

  pub too_short : length out < length s → CutDown s n out out 2 0
  unfolding pick
  too_short h = refused_so BadLength (rw (lt-leb (length s) (length out) h) refl)

  module _ (fits : length s ≤ length out) where
    not_shown_lem : (o : Option Script) → read_script s ≡ o → ((x : Script) → o ≡ Some x → shows n x.setup x.lines ≡ false)
        → CutDown s n out out 16 0
    unfolding pick
    not_shown_lem None e h = refused_so NotShown (rw (le-leb (length s) (length out) fits, e) refl)
    not_shown_lem (Some x) e h = refused_so NotShown (rw (le-leb (length s) (length out) fits, e, h x refl) refl)

    -- a script that cannot be read
    unread : read_script s ≡ None → CutDown s n out out 16 0
    unread e = not_shown_lem None e (λ x g. let w : ◌≡◌ {A = ℕ} 0 1 = cc in absurd (omega arith))

    module _ (o : Option Setup) (eo : o ≡ read_opening s) where
      pub no_opening : o ≡ None → CutDown s n out out 16 0
      unfolding read_script
      no_opening g = unread (rw (← eo, g) refl)

      module _ (u : Setup) (g : o ≡ Some u) (ls : List Line) (l : Option ℕ) (el : LinesRead s u.next ls l) where
        -- what was read
        read_so : (es : Option (List Entry)) → entries_from (length s) s u.next ≡ es → read_script s ≡ with_opening s u es
        unfolding read_script
        read_so es e = rw (← eo, g, e) refl

        pub no_lines : l ≡ None → CutDown s n out out 16 0
        no_lines h = ways (entries_from (length s) s u.next) refl (sym el.count ∙ h)
          where
            ways : (es : Option (List Entry)) → entries_from (length s) s u.next ≡ es → count_of es ≡ None → CutDown s n out out 16 0
            ways None e h = unread (read_so None e)
            ways (Some es) e h = let w : ◌≡◌ {A = ℕ} 0 1 = cc in absurd (omega arith)

        pub read_whole : length ls ≡ 6000 → (count : ℕ) → l ≡ Some count → ReadWhole s u (take count ls) out
        read_whole z count h = ways (entries_from (length s) s u.next) refl (sym el.count ∙ h)
          where
            ways : (es : Option (List Entry)) → entries_from (length s) s u.next ≡ es → count_of es ≡ Some count
                → ReadWhole s u (take count ls) out
            ways None e c = let w : ◌≡◌ {A = ℕ} 0 1 = cc in absurd (omega arith)
            ways (Some es) e c =
                let many : length es ≡ count = cc in
                let lines : es ≡ entries_in s (take count ls) = el.entries es e ∙ ap (λ k. entries_in s (take k ls)) many in
                record {
                  read = read_so (Some es) e ∙ ap (λ x. with_opening s u (Some x)) lines;
                  few = omega (arith, el.few count h, length-take count ls);
                  placed = placed_take s count ls el.placed;
                  room = fits;
                }

-- The lines of a script whose opening was read have room where no line was read yet.
pub lines_ready : (s : List ℕ) (o : Option Setup) → o ≡ read_opening s → (u : Setup) → o ≡ Some u → LinesReady s (replicate 6000 no_line)
lines_ready s o eo u g =
    let opened = opening_is s u (sym eo ∙ g) in
    let long = opening_some s 0 u opened.read in
    let within = reads_within (opening_read s 0 u opened.read) (omega arith) in
    record {
      some = omega arith;
      short = opened.short;
      room = length-replicate {A = Line} 6000 no_line;
      placed = placed_blank s 6000;
    }

-- An opening that was read ends within the script.
opening_within : (s : List ℕ) (u : Setup) → read_opening s ≡ Some u → u.next ≤ length s
opening_within s u e =
    let opened = opening_is s u e in
    reads_within (opening_read s 0 u opened.read) (omega (arith, opening_some s 0 u opened.read))

-- The script as it was read: its parts lie in s, and it shows what its ls show.
abbrev script_of : List ℕ → Setup → List Entry → Script
script_of s u es = record { setup = u; opening = take u.next s; lines = es }

module _ (s : List ℕ) (u : Setup) (es : List Entry) (e : read_script s ≡ Some (script_of s u es)) where
  pub opening_there : u.next ≤ length s
  opening_there =
      let r = script_read s (script_of s u es) e in
      opening_within s u (is_opening s u r.opening)

  pub opening_long : u.next ≡ length (take u.next s)
  opening_long = sym (length-take-le u.next s opening_there)

  pub opening_room : (out : List ℕ) → length s ≤ length out → CutRoom out s u.next []
  unfolding texts
  opening_room out h = record { placed = placed_blank s 0; within = opening_there; room = omega (arith, opening_there) }

  -- A refused layout shows its number whatever its lines are, and no other.
  module _ (n : ℕ) (out : List ℕ) (fits : length s ≤ length out) {c : Checked} (ec : c ≡ setup_check u) {y : Refusal} (ey : c ≡ Err y) (m : ℕ) (em : m ≡ number_of y) where
    layout_shows : (xs : List Entry) → shows n u xs ≡ (eqb m n || false)
    unfolding shows printed_by any_refusal
    layout_shows xs = rw (← ec, ey, em) refl

    pub layout_other : (m ≡ n → ⊥) → CutDown s n out out 16 0
    layout_other g =
        not_shown_lem s n out fits (Some (script_of s u es)) e
        (λ x w. let same : script_of s u es ≡ x = cc in
        ap (λ y. shows n y.setup y.lines) (sym same) ∙ layout_shows es ∙ rw (ne_eqb m n g) refl)

    pub layout_cut : m ≡ n → (out' : List ℕ) (k : ℕ) → Wrote out out' 0 k (take u.next s ++ texts []) → CutDown s n out out' 0 k
    unfolding cut_of script_bytes texts
    layout_cut g out' k v =
        let w : Wrote out out' 0 k (take u.next s) = subst (Wrote out out' 0 k) (append-nil (take u.next s)) v in
        let all : (xs : List Entry) → shows n u xs ≡ true = λ xs. layout_shows xs ∙ rw (eq-eqb m n g) refl in
        let right : NotRefused s n (length out) (script_of s u es) = record { fits = fits; read = e; shown = all es } in
        let none_left : cut_script s n (length out) ≡ take u.next s =
        cut_written right
        ∙ ap (λ xs. take u.next s ++ texts xs) (passes_all (shows n u) all es)
        ∙ append-nil (take u.next s) in
        record {
          refused = sym (is_not_refused right);
          count = w.next ∙ zero-add (length (take u.next s)) ∙ ap length (sym none_left);
          bytes = written out out' k (take u.next s) w ∙ ap (λ x. x ++ drop k out) (sym none_left);
        }

-- What lines show is what the script's lines show.
module _ (s : List ℕ) (n : ℕ) where
  shown_lines : (ls : List Line) (line : ℕ) (b : List ℕ) → any_refusal n (lines_printed line (entries_in s ls) b) ≡ lines_show n b ls
  unfolding any_refusal lines_printed calls_show
  shown_lines [] line b = refl
  shown_lines (l ∷ ls) line b =
      ap (λ q. is_refusal n (call_outcome b l.call.what l.call.thread) || q)
      (shown_lines ls (suc line) (call_bytes b l.call.what l.call.thread))

  shows_lines : (u : Setup) → setup_refusal u ≡ done → (ls : List Line) → shows n u (entries_in s ls) ≡ lines_show n (laid_region u) ls
  unfolding shows printed_by setup_refusal
  shows_lines u a ls = rw (is_granted (setup_check u) a) (shown_lines ls 1 (laid_region u))

  -- and so is what passes leave of them
  pub cut_is : (u : Setup) → setup_refusal u ≡ done → (ls : List Line)
      → entries_in s (passes (length ls) (lines_show n (laid_region u)) ls) ≡ cut_lines n u (entries_in s ls)
  unfolding cut_lines
  cut_is u a ls =
      ap (entries_in s) (same_passes (lines_show n (laid_region u)) (λ xs. shows n u (entries_in s xs)) (λ xs. sym (shows_lines u a xs)) (length ls) ls)
      ∙ map-passes (entry_in s) (shows n u) (length ls) ls
      ∙ ap (λ k. passes k (shows n u) (entries_in s ls)) (sym (length-map ls (entry_in s)))

-- A script whose layout is accepted.
module _ {s : List ℕ} {u : Setup} {ls : List Line} {out : List ℕ} (h : Laid s u ls out) (n : ℕ) (trial : Trial) (it : IsTrial u n trial) where
  module _ (q : Bool) (eq : q ≡ lines_show trial.number (laid_region trial.setup) ls) where
    shown_is : shows n u (entries_in s ls) ≡ q
    shown_is =
        shows_lines s n u h.accepted ls
        ∙ ap (λ m. lines_show m (laid_region u) ls) (sym it.number_same)
        ∙ ap (λ v. lines_show trial.number (laid_region v) ls) (sym it.setup_same)
        ∙ sym eq

    pub laid_not_shown : not q ≡ true → CutDown s n out out 16 0
    laid_not_shown g =
        not_shown_lem s n out h.whole.room (Some (script_of s u (entries_in s ls))) h.whole.read
        (λ x w. let same : script_of s u (entries_in s ls) ≡ x = cc in
        ap (λ y. shows n y.setup y.lines) (sym same) ∙ shown_is ∙ not-true q g)

  module _ (ls' : List Line) (first : ℕ) (e : LinesCut trial.number (laid_region trial.setup) ls ls' first) where
    abbrev x : Script
    x = script_of s u (entries_in s ls)

    left_is : entries_in s (drop first ls') ≡ cut_lines n u (entries_in s ls)
    left_is =
        ap (entries_in s) (e.left
        ∙ ap (λ v. passes (length ls) (lines_show trial.number (laid_region v)) ls) it.setup_same
        ∙ ap (λ m. passes (length ls) (lines_show m (laid_region u)) ls) it.number_same)
        ∙ cut_is s n u h.accepted ls

    left_part : Sublistᴰ (entries_in s (drop first ls')) (entries_in s ls)
    unfolding cut_lines
    left_part =
        subst (λ ys. Sublistᴰ ys (entries_in s ls)) (sym left_is) (passes_part (shows n u) (length (entries_in s ls)) (entries_in s ls))

    left_placed : Placed s (drop first ls')
    left_placed =
        placed_part s
        (subst (λ ys. Sublistᴰ ys ls) (sym e.left) (passes_part (lines_show trial.number (laid_region trial.setup)) (length ls) ls))
        h.whole.placed

    pub cut_room : CutRoom out s u.next (take (length ls' - first) (drop first ls'))
    unfolding script_bytes
    cut_room =
        subst (CutRoom out s u.next) (sym (to_end first ls'))
        (record {
          placed = left_placed;
          within = opening_there s u (entries_in s ls) h.whole.read;
          room =
              omega (
                arith,
                no_longer s x h.whole.read (entries_in s (drop first ls')) left_part,
                length-append (take u.next s) (texts (entries_in s (drop first ls'))),
                opening_long s u (entries_in s ls) h.whole.read,
                h.whole.room,
              );
        })

    pub laid_cut : (q : Bool) → q ≡ lines_show trial.number (laid_region trial.setup) ls → not q ≡ false → (out' : List ℕ) (k : ℕ)
        → Wrote out out' 0 k (take u.next s ++ texts (entries_in s (take (length ls' - first) (drop first ls')))) → CutDown s n out out' 0 k
    unfolding cut_of script_bytes
    laid_cut q eq g out' k v =
        let c : NotRefused s n (length out) x = record { fits = h.whole.room; read = h.whole.read; shown = shown_is q eq ∙ not-false q g } in
        let whole : take u.next s ++ texts (entries_in s (take (length ls' - first) (drop first ls'))) ≡ cut_script s n (length out) =
        ap (λ ys. take u.next s ++ texts ys) (ap (entries_in s) (to_end first ls') ∙ left_is) ∙ sym (cut_written c) in
        let all : Wrote out out' 0 k (cut_script s n (length out)) = subst (Wrote out out' 0 k) whole v in
        record {
          refused = sym (is_not_refused c);
          count = all.next ∙ zero-add (length (cut_script s n (length out)));
          bytes = written out out' k (cut_script s n (length out)) all;
        }

-- The opening stands at the start, and behind it the lines have room.
module _ {out s : List ℕ} {opening : ℕ} {ls : List Line} (h : CutRoom out s opening ls) (t₀ : Text) (z : t₀.len ≡ 0) (e : t₀.out.now ≡ out) where
  pub opening_fits : t₀.len + length (take opening s) ≤ length t₀.out.now
  opening_fits = omega (arith, h.room, length-take-le opening s h.within, ap length e)

  module _ {t₁ : Text} (w : Appends t₀ t₁ (take opening s)) where
    pub lines_fit : WriteRoom t₁ s ls
    lines_fit =
        record {
          placed = h.placed;
          room = omega (arith, h.room, length-take-le opening s h.within, ap length e, w.wrote.next, appends_length w);
        }

    pub cut_wrote : {t₂ : Text} {out' : List ℕ} → Appends t₁ t₂ (texts (entries_in s ls)) → out' ≡ t₂.out.now
        → Wrote out out' 0 t₂.len (take opening s ++ texts (entries_in s ls))
    cut_wrote v x = from_start z e (appends_more w v) x

pub is_laid : {s : List ℕ} {u : Setup} {ls : List Line} {out : List ℕ} → ReadWhole s u ls out → {c : Checked} → c ≡ setup_check u
    → {x : Unit {0}} → c ≡ Ok x → Laid s u ls out
unfolding setup_refusal
is_laid h ec d = record { accepted = ap code_of (sym ec ∙ d); whole = h }
