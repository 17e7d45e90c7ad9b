-- The return from mending, case by case over plain variables: where it goes, the record afterwards, and the answer. Assumes nothing.
use Prim.Native.Nat.{ℕ, ◌≤◌, ◌<◌, ◌^◌}
use native.Mathlib.Omega.{arith}
use mathlib.Core.Path.{◌≡◌, ap, ◌∙◌}
use Rattle.region.specs.Level.{level, mark}
use Rattle.region.specs.declared.thread.Thread.{Thread}
use Rattle.region.proofs.Levels.{level_holds, level_most}

module _ (t r : Thread) (w : ℕ) where
  module _ (nw : w ≡ 0 → ⊥) (fits : w < 2 ^ 32) (l : ℕ) (el : l ≡ level w) where
    pub some_level : 1 ≤ l
    some_level = omega (arith, (level_holds w (omega arith) fits).some)

    pub few_levels : l ≤ 32
    few_levels = omega (arith, level_most w)

    pub mark_within : (m : ℕ) → m ≡ mark l → m ≤ w
    mark_within m em =
        let h = (level_holds w (omega arith) fits).least in
        omega (arith, h, em ∙ ap mark el)
