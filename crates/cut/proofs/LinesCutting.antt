-- Passes on a laid-out region: the region in the last slot of the states, a pass, and the loop over passes. Assumes nothing.
use Prim.Native.Nat.{ℕ, suc, ◌+◌, ◌-◌, ◌≤◌, ◌<◌}
use native.Mathlib.Omega.{arith}
use mathlib.Core.Path.{◌≡◌, refl, sym, ap, subst, ◌∙◌}
use mathlib.Core.Bool.{Bool}
use mathlib.Core.List.{List, [], ◌++◌, append_assoc}
use mir.Syntax.{w64}
use mir.Val.{Fits}
use borrow.Author.Tests.{ne_eqb}
use lib.ListN.{length, take, drop, length-append, length-drop, drop_of_length-le}
use lib.Seq.{drop_at, drop-length, length-take-le, take_at}
use Rattle.region.specs.Pick.{pick}
use Rattle.script.specs.Inner.{Ready}
use Rattle.script.specs.Script.{laid_region, region_length}
use Rattle.script.specs.declared.reading.Setup.{Setup}
use Rattle.script.proofs.Regions.{laid_ready}
use Rattle.script.proofs.Setups.{fine_length, laid_length}
use Rattle.cut.specs.Cut.{pass, passes}
use Rattle.cut.specs.Inner.{Cuttable, LastLaid, LastReady, LinesCut, LinesRan, LinesTriable, LinesTried, lines_show, region_in, slot_of, tried_on}
use Rattle.cut.specs.declared.lines.Line.{Line}
use Rattle.cut.specs.declared.passes.Trial.{Trial}
use Rattle.cut.proofs.PassesEnd.{passes_end}
use Rattle.cut.proofs.LinesTrying.{slice_to_end}
use Rattle.cut.proofs.Sublists.{part_same}
use Rattle.cut.proofs.Tried.{pass_part, passes_same}
use Rattle.cut.proofs.TriedOn.{pass_is}

-- The region laid out in the last slot.
module _ {u : Setup} {l : List ℕ} (h : LastReady u l) where
  part_long : length (take (208712 - 193856) (drop 193856 l)) ≡ 14856
  part_long = length-take-le 14856 (drop 193856 l) (omega (arith, length-drop 193856 l, h.room))

  pub last_laid : (g : List ℕ) → g ≡ laid_region u ++ drop (region_length u) (take (208712 - 193856) (drop 193856 l))
      → length g ≡ length (take (208712 - 193856) (drop 193856 l))
      → LastLaid u (take 193856 l ++ (g ++ drop (208712 - 193856) (drop 193856 l)))
  unfolding region_in slot_of
  last_laid g laid z =
      let rest : List ℕ = drop (208712 - 193856) (drop 193856 l) in
      let front : length (take 193856 l) ≡ 193856 = length-take-le 193856 l (omega (arith, h.room)) in
      let at : length (take 193856 l ++ (g ++ rest)) - 14912 ≡ 193856 =
      omega (
        arith,
        length-append (take 193856 l) (g ++ rest),
        length-append g rest,
        length-drop (208712 - 193856) (drop 193856 l),
        length-drop 193856 l,
        front,
        part_long,
        h.room,
      ) in
      record {
        laid =
            ap (λ k. take (region_length u) (drop k (take 193856 l ++ (g ++ rest)))) at
            ∙ ap (take (region_length u)) (drop_at (take 193856 l) (g ++ rest) 193856 front)
            ∙ ap (λ x. take (region_length u) (x ++ rest)) laid
            ∙ ap (take (region_length u)) (append_assoc (laid_region u) (drop (region_length u) (take (208712 - 193856) (drop 193856 l))) rest)
            ∙ take_at (laid_region u) (drop (region_length u) (take (208712 - 193856) (drop 193856 l)) ++ rest) (region_length u)
            (laid_length u h.accepted);
      }

module _ {trial : Trial} {ls : List Line} {l : List ℕ} (h : Cuttable trial ls l) where
  abbrev u : Setup
  u = trial.setup

  pub run_fits : Fits w64 (193856 + trial.size)
  run_fits = record { fits = omega (arith, fine_length u h.accepted, h.trial_of.size_same) }

  module _ (l₁ : List ℕ) (e : LastLaid u l₁) (same : length l₁ ≡ length l) where
    region_there : region_in trial.size l₁ ≡ laid_region u
    region_there = ap (λ k. region_in k l₁) h.trial_of.size_same ∙ e.laid

    small : trial.size ≤ 14856
    small = omega (arith, fine_length u h.accepted, h.trial_of.size_same)

    ready : Ready trial.frame (region_in trial.size l₁)
    ready =
        subst (Ready trial.frame) (sym region_there)
        (subst (λ f. Ready f (laid_region u)) (sym h.trial_of.frame_same) (laid_ready u h.accepted))

    pub pass_able : (first : ℕ) → first < length ls → LinesTriable trial ls first (length ls) (length ls) l₁
    pass_able first some =
        record {
          able = record { ready = ready; some = some; before = omega arith; within = omega arith };
          small = small;
          room = record { halvings = 13; few = omega (arith, h.few); fit = omega (arith, same, h.room) };
        }

    pub run_ends : 193856 + trial.size ≤ length l₁
    run_ends = omega (arith, small, same, h.room)

    module _ (end : ℕ) (ee : end ≡ 193856 + trial.size) where
      part_is : take (end - 193856) (drop 193856 l₁) ≡ laid_region u
      unfolding region_in slot_of
      part_is =
          let k : end - 193856 ≡ trial.size = omega arith in
          let at : 193856 ≡ length l₁ - 14912 = omega (arith, same, h.room) in
          ap (λ j. take j (drop 193856 l₁)) k ∙ ap (λ j. take trial.size (drop j l₁)) at ∙ region_there

      pub run_ready : Ready trial.frame (take (end - 193856) (drop 193856 l₁))
      run_ready =
          subst (Ready trial.frame) (sym part_is)
          (subst (λ f. Ready f (laid_region u)) (sym h.trial_of.frame_same) (laid_ready u h.accepted))

      pub all_shown : (b' : List ℕ) (q : Bool) → LinesRan trial.number ls (take (end - 193856) (drop 193856 l₁)) b' q
          → q ≡ lines_show trial.number (laid_region u) ls
      all_shown b' q e = e.shown ∙ ap (λ b. lines_show trial.number b ls) part_is

-- The loop over passes: what passes leave of the lines that are left, from here, is what they leave of all.
pub record Cutting (trial : Trial) (ls₀ : List Line) (l₀ : List ℕ) (ls : List Line) (l : List ℕ) (first : ℕ) : Type 0 where
  pub able : Cuttable trial ls l
  pub same : length ls ≡ length ls₀
  pub same_states : length l ≡ length l₀
  pub within : first ≤ length ls
  pub left : passes (length (drop first ls)) (lines_show trial.number (laid_region trial.setup)) (drop first ls)
      ≡ passes (length ls₀) (lines_show trial.number (laid_region trial.setup)) ls₀

module _ {trial : Trial} {ls₀ : List Line} {l₀ : List ℕ} {ls : List Line} {l : List ℕ} {first : ℕ} (e : Cutting trial ls₀ l₀ ls l first) where
  abbrev shown : List Line → Bool
  shown = lines_show trial.number (laid_region trial.setup)

  abbrev here : List Line
  here = drop first ls

  pub cut_end : length ls ≤ first → LinesCut trial.number (laid_region trial.setup) ls₀ ls first
  unfolding passes
  cut_end h =
      let none : here ≡ [] = drop_of_length-le ls h in
      record {
        within = omega (arith, e.within, e.same);
        left = none ∙ ap (λ x. passes (length x) shown x) (sym none) ∙ e.left;
      }

  module _ (h : first < length ls) where
    module _ (ls' : List Line) (kept : ℕ)
        (d : LinesTried trial.number ls ls' first (length ls) (length ls) (laid_region trial.setup) kept) (z : length ls' ≡ length ls) where
      passed : drop kept ls' ≡ pass shown here
      passed =
          d.left
          ∙ ap (λ x. tried_on trial.number (laid_region trial.setup) x (drop (length ls) ls)) (slice_to_end first ls)
          ∙ ap (tried_on trial.number (laid_region trial.setup) here) (drop-length ls)
          ∙ sym (pass_is trial.number (laid_region trial.setup) here)

      long : length (pass shown here) ≡ length ls - kept
      long = ap length (sym passed) ∙ length-drop kept ls' ∙ ap (λ k. k - kept) z

      pub cut_done : kept ≡ first → LinesCut trial.number (laid_region trial.setup) ls₀ ls' first
      cut_done k =
          let none_gone : pass shown here ≡ here =
          part_same (pass_part shown here) (omega (arith, long, length-drop first ls)) in
          record {
            within = omega (arith, e.same);
            left =
                ap (λ j. drop j ls') (sym k)
                ∙ passed
                ∙ none_gone
                ∙ sym (passes_same shown (length here) here none_gone)
                ∙ e.left;
          }

      module _ (k : kept ≡ first → ⊥) where
        -- a pass that removed lines, and the passes behind it
        step : passes (length here) shown here ≡ passes (length (pass shown here)) shown (pass shown here)
        unfolding passes pick
        step =
            let some : length here ≡ suc (length ls - suc first) = omega (arith, length-drop first ls) in
            let fewer : length (pass shown here) ≡ length here → ⊥ = λ w. omega (arith, long, length-drop first ls, d.least) in
            ap (λ n. passes n shown here) some
            ∙ rw (ne_eqb (length (pass shown here)) (length here) fewer) refl
            ∙ passes_end.enough (length ls - suc first) shown (pass shown here) (omega (arith, long, d.least))

        pub cut_more : (l' : List ℕ) → length l' ≡ length l → Cutting trial ls₀ l₀ ls' l' kept
        cut_more l' y =
            record {
              able =
                  record {
                    accepted = e.able.accepted;
                    trial_of = e.able.trial_of;
                    few = omega (arith, z, e.able.few);
                    room = y ∙ e.able.room;
                  };
              same = z ∙ e.same;
              same_states = y ∙ e.same_states;
              within = omega (arith, d.most, z);
              left = ap (λ x. passes (length x) shown x) passed ∙ sym step ∙ e.left;
            }
