-- One pass of each loop and each way out of the functions, over plain variables. Assumes nothing.
use Prim.Native.Nat.{ℕ, suc, ◌+◌, ◌-◌, ◌*◌, ◌≤◌, ◌<◌}
use native.Mathlib.Numerals.{add-one}
use native.Mathlib.Omega.{arith}
use mathlib.Core.Path.{◌≡◌, refl, sym, ap, ◌∙◌}
use mathlib.Core.Bool.{Bool, true, false, ◌&&◌}
use mathlib.Core.List.{List, [], ◌∷◌}
use borrow.Author.Tests.{eq-eqb, ne_eqb, eqb-true}
use lib.Dec.{eqb, leb}
use Rattle.std.specs.Prelude.{nat_le, Ok}
use Rattle.std.specs.List.{list_all}
use lib.ListN.{length}
use Rattle.words.specs.Word.{set_word, set_words}
use Rattle.words.proofs.Laws.{length-set_word}
use Rattle.region.specs.Refusal.{Checked, code_of, done, granted, ◌unless◌otherwise◌}
use Rattle.region.specs.declared.refusal.Refusal.TheVariants.{BadShape, BadLength}
use Rattle.region.specs.Frame.{frame_of, frame_of_width}
use Rattle.region.specs.Pick.{pick}
use Rattle.region.specs.Record.{counter_size}
use Rattle.region.specs.Shape.{shape_fits, region_words, region_words_of_width}
use Rattle.region.specs.Thread.{thread_size, greatest_permission}
use Rattle.region.specs.declared.frame.Frame.{Frame}
use Rattle.region.specs.declared.shape.Shape.{Shape}
use Rattle.region.proofs.Shapes.{in_range}
use Rattle.layout.specs.Layout.{at_most, permissions_fit, layout_check, layout_refusal, laid_word, laid_words, layout_bytes}
use Rattle.layout.specs.Inner.{Accepted, Laying}

-- A list of permissions.
pub at_most_is : (m : ℕ) (xs : List ℕ) → at_most m xs ≡ list_all (λ x. nat_le x m) xs
unfolding at_most
at_most_is m [] = refl
at_most_is m (x ∷ xs) = ap (λ q. leb x m && q) (at_most_is m xs)

-- The words from the threads' first on are theirs.
pub in_threads : {f : Frame} {ps : List ℕ} {k : ℕ} → Laying f ps k → f.threads ≤ k → k - f.threads < thread_size counter_size * length ps
unfolding region_words_of_width frame_of_width
in_threads {f} {ps} {k} g h = omega (arith, g.within, ap (λ x. x.threads) g.frame, g.permissions)

-- Filling: storing the words from word k on gives the whole region.
pub record Filled (s : Shape) (ps b₀ b : List ℕ) (k : ℕ) : Type 0 where
  pub call : Accepted s ps (length b₀)
  pub within : k ≤ region_words s
  pub same : length b ≡ length b₀
  pub left : set_words b k (laid_words s ps k (region_words s - k)) ≡ set_words b₀ 0 (laid_words s ps 0 (region_words s))

pub fill_start : (s : Shape) (ps b : List ℕ) → Accepted s ps (length b) → Filled s ps b b 0
fill_start s ps b a =
    record {
      call = a;
      within = omega arith;
      same = refl;
      left = ap (λ m. set_words b 0 (laid_words s ps 0 m)) (omega arith);
    }

module _ {s : Shape} {ps b₀ b : List ℕ} {k n : ℕ} (e : Filled s ps b₀ b k) (en : n ≡ region_words s) where
  module _ {f : Frame} (ef : f ≡ frame_of s) (h : k < n) where
    pub fill_laying : Laying f ps k
    unfolding frame_of_width
    fill_laying =
        rw ef (record { frame = refl; shape = e.call.shape; permissions = e.call.permissions; within = omega (arith, en) })

    pub fill_more : {b' : List ℕ} (w : ℕ) → w ≡ laid_word f.shape ps k → b' ≡ set_word b k w → Filled s ps b₀ b' (k + 1)
    unfolding laid_words frame_of_width
    fill_more {b'} w ew eb =
        let m : region_words s - k ≡ suc (region_words s - (k + 1)) = omega (arith, en) in
        record {
          call = e.call;
          within = omega (arith, en);
          same = ap length eb ∙ length-set_word b k w ∙ e.same;
          left =
              ap (λ l. set_words l (k + 1) (laid_words s ps (k + 1) (region_words s - (k + 1))))
              (eb ∙ ap (set_word b k) (ew ∙ ap (λ g. laid_word g.shape ps k) ef))
              ∙ ap (λ j. set_words (set_word b k (laid_word s ps k)) j (laid_words s ps j (region_words s - (k + 1)))) (add-one k)
              ∙ ap (λ j. set_words b k (laid_words s ps k j)) (sym m)
              ∙ e.left;
        }

  pub fill_end : n ≤ k → b ≡ set_words b₀ 0 (laid_words s ps 0 (region_words s))
  unfolding laid_words
  fill_end h =
      let m : 0 ≡ region_words s - k = omega (arith, en) in
      ap (λ j. set_words b k (laid_words s ps k j)) m ∙ e.left

-- The whole call.
module _ (s : Shape) (ps : List ℕ) (l : ℕ) where
  -- what holds of a layout that is not refused
  no_refusals : (q p a m : Bool) → shape_fits s ≡ q → eqb (length ps) s.threads ≡ p → at_most greatest_permission ps ≡ a
      → eqb l (4 * region_words s) ≡ m → code_of (BadShape unless q && (p && a) otherwise BadLength unless m otherwise granted) ≡ done
      → Accepted s ps l × (at_most greatest_permission ps ≡ true)
  unfolding pick
  no_refusals true true true true eq ep ea em z = (
    record {
      shape = in_range s eq;
      permissions = eqb-true (length ps) s.threads ep;
      exact = eqb-true l (4 * region_words s) em;
    },
    ea,
  )
  no_refusals true true true false eq ep ea em z = absurd (omega arith)
  no_refusals true true false m eq ep ea em z = absurd (omega arith)
  no_refusals true false a m eq ep ea em z = absurd (omega arith)
  no_refusals false p a m eq ep ea em z = absurd (omega arith)

  not_refused : (r : ℕ) → r ≡ layout_refusal s ps l → r ≡ done → Accepted s ps l × (at_most greatest_permission ps ≡ true)
  unfolding layout_refusal permissions_fit pick
  not_refused r e d =
      no_refusals (shape_fits s) (eqb (length ps) s.threads) (at_most greatest_permission ps) (eqb l (4 * region_words s)) refl refl refl refl
      (sym e ∙ d)

  pub is_accepted : (r : Checked) (u : Unit {0}) → r ≡ layout_check s ps l → r ≡ Ok u → Accepted s ps l
  unfolding layout_refusal
  is_accepted r u e d = (not_refused (code_of r) (ap code_of e) (ap code_of d)).0

  pub accepted : (r : ℕ) → r ≡ layout_refusal s ps l → r ≡ done → Accepted s ps l
  accepted r e d = (not_refused r e d).0

  pub permitted : (r : ℕ) → r ≡ layout_refusal s ps l → r ≡ done → at_most greatest_permission ps ≡ true
  permitted r e d = (not_refused r e d).1
