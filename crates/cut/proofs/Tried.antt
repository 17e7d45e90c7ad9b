-- Lines tried for removal, in one pass and pass after pass: what is left is part of the lines, still shows what they showed, and, where a
-- pass removes none, needs each of its lines; it is the same for lines in another form. Assumes nothing.
use Prim.Native.Nat.{ℕ, zero, suc}
use native.Mathlib.Omega.{arith}
use mathlib.Core.Path.{◌≡◌, refl, sym, ap, fun_ext, ◌∙◌}
use mathlib.Core.Bool.{Bool, true, false}
use mathlib.Core.List.Sublistᴰ
use mathlib.Core.List.{List, [], ◌∷◌, ◌++◌, append-nil, map, Sublistᴰ}
use borrow.Author.Tests.{eq-eqb, ne_eqb}
use lib.Dec.{eqb}
use lib.ListN.{length, length-map}
use lib.Seq.{append_snoc}
use Rattle.region.specs.Pick.{pick}
use Rattle.region.proofs.Picks.{pick_good}
use Rattle.cut.specs.Cut.{left_out, pass, passes, tried}
use Rattle.cut.proofs.Sublists.{part_length}

module _ {A : Type 0} (shown : List A → Bool) where
  -- What is left is part of the lines.
  tried_part : (front es rest : List A) → Sublistᴰ (tried shown front es rest) (es ++ rest)
  unfolding tried
  tried_part front [] rest = Sublistᴰ.refl rest
  tried_part front (e ∷ es) rest =
      let part = tried_part (front ++ (e ∷ [])) es rest in
      pick_good (λ xs. Sublistᴰ xs (e ∷ (es ++ rest))) (shown (front ++ tried shown (front ++ (e ∷ [])) es rest)) (λ q. Sublistᴰ.cons part)
      (λ q. Sublistᴰ.cons-cons refl part)

  pub pass_part : (es : List A) → Sublistᴰ (pass shown es) es
  unfolding pass
  pass_part es = rw append-nil at (tried_part [] es [])

  pub passes_part : (n : ℕ) (es : List A) → Sublistᴰ (passes n shown es) es
  unfolding passes
  passes_part zero es = Sublistᴰ.refl es
  passes_part (suc n) es =
      let part = Sublistᴰ.trans (passes_part n (pass shown es)) (pass_part es) in
      pick_good (λ xs. Sublistᴰ xs es) (eqb (length (pass shown es)) (length es)) (λ q. Sublistᴰ.refl es) (λ q. part)

  -- It shows what was shown.
  tried_shows : (front es rest : List A) → shown (front ++ (es ++ rest)) ≡ true → shown (front ++ tried shown front es rest) ≡ true
  unfolding tried
  tried_shows front [] rest h = h
  tried_shows front (e ∷ es) rest h =
      let left = tried shown (front ++ (e ∷ [])) es rest in
      let kept : shown (front ++ (e ∷ left)) ≡ true =
      rw append_snoc at (tried_shows (front ++ (e ∷ [])) es rest (rw append_snoc h)) in
      pick_good (λ xs. shown (front ++ xs) ≡ true) (shown (front ++ left)) (λ q. q) (λ q. kept)

  pub pass_shows : (es : List A) → shown es ≡ true → shown (pass shown es) ≡ true
  unfolding pass
  pass_shows es h = tried_shows [] es [] (rw append-nil h)

  pub passes_shows : (n : ℕ) (es : List A) → shown es ≡ true → shown (passes n shown es) ≡ true
  unfolding passes
  passes_shows zero es h = h
  passes_shows (suc n) es h =
      let left = passes_shows n (pass shown es) (pass_shows es h) in
      pick_good (λ xs. shown xs ≡ true) (eqb (length (pass shown es)) (length es)) (λ q. h) (λ q. left)

  -- Of no lines none is left,
  pub passes_none : (n : ℕ) → passes n shown [] ≡ []
  unfolding passes tried pick
  passes_none zero = refl
  passes_none (suc n) = refl

  -- all are where a pass removes none,
  pub passes_same : (n : ℕ) (es : List A) → pass shown es ≡ es → passes n shown es ≡ es
  unfolding passes pick
  passes_same zero es h = refl
  passes_same (suc n) es h = rw (eq-eqb (length (pass shown es)) (length es) (ap length h)) refl

  -- and none where any lines do.
  module _ (all : (xs : List A) → shown xs ≡ true) where
    tried_all : (front es rest : List A) → tried shown front es rest ≡ rest
    unfolding tried pick
    tried_all front [] rest = refl
    tried_all front (e ∷ es) rest = rw (tried_all (front ++ (e ∷ [])) es rest, all (front ++ rest)) refl

    pub pass_all : (es : List A) → pass shown es ≡ []
    unfolding pass
    pass_all es = tried_all [] es []

    pub passes_all : (es : List A) → passes (length es) shown es ≡ []
    unfolding passes pick
    passes_all [] = refl
    passes_all (e ∷ es) = rw (pass_all (e ∷ es), ne_eqb 0 (suc (length es)) (omega arith)) (passes_none (length es))

  -- A pass that removes none tried each line in vain.
  record Kept (front : List A) (e : A) (es rest : List A) : Type 0 where
    lost : shown (front ++ (es ++ rest)) ≡ false
    others : tried shown (front ++ (e ∷ [])) es rest ≡ es ++ rest

  first_kept : (front : List A) (e : A) (es rest : List A) → tried shown front (e ∷ es) rest ≡ e ∷ (es ++ rest) → Kept front e es rest
  unfolding tried pick
  first_kept front e es rest =
      let left = tried shown (front ++ (e ∷ [])) es rest in
      pick_good (λ xs. xs ≡ e ∷ (es ++ rest) → Kept front e es rest) (shown (front ++ left))
      (λ q h. absurd (omega (arith, part_length (tried_part (front ++ (e ∷ [])) es rest), ap length h)))
      (λ q h. let same : left ≡ es ++ rest = cc in record { lost = ap (λ xs. shown (front ++ xs)) (sym same) ∙ q; others = same })

  tried_kept : (behind front : List A) (e : A) (back rest : List A)
      → tried shown behind (front ++ (e ∷ back)) rest ≡ (front ++ (e ∷ back)) ++ rest → shown (behind ++ ((front ++ back) ++ rest)) ≡ false
  tried_kept behind [] e back rest h = (first_kept behind e back rest h).lost
  tried_kept behind (x ∷ front) e back rest h =
      rw append_snoc
      at
      (tried_kept (behind ++ (x ∷ [])) front e back rest (first_kept behind x (front ++ (e ∷ back)) rest h).others)

  pub needs_each : (es : List A) → pass shown es ≡ es → (front : List A) (e : A) (back : List A) → es ≡ front ++ (e ∷ back)
      → shown (front ++ back) ≡ false
  unfolding pass
  needs_each es h front e back s =
      let none_gone : tried shown [] (front ++ (e ∷ back)) [] ≡ (front ++ (e ∷ back)) ++ [] = rw (append-nil, ← s) h in
      rw append-nil at (tried_kept [] front e back [] none_gone)

-- What is left depends on what is shown alone,
pub same_passes : {A : Type 0} (shown₁ shown₂ : List A → Bool) → ((xs : List A) → shown₁ xs ≡ shown₂ xs) → (n : ℕ) (es : List A)
    → passes n shown₁ es ≡ passes n shown₂ es
same_passes shown₁ shown₂ h n es = ap (λ shown. passes n shown es) (fun_ext h)

-- and is the same for lines in another form, g of a line being its other form.
module _ {A B : Type 0} (g : A → B) (shown : List B → Bool) where
  abbrev shown_of : List A → Bool
  shown_of xs = shown (map g xs)

  map-append : (xs ys : List A) → map g (xs ++ ys) ≡ map g xs ++ map g ys
  map-append [] ys = refl
  map-append (x ∷ xs) ys = ap (λ zs. g x ∷ zs) (map-append xs ys)

  map-pick : (q : Bool) (xs ys : List A) → map g (pick q xs ys) ≡ pick q (map g xs) (map g ys)
  unfolding pick
  map-pick true xs ys = refl
  map-pick false xs ys = refl

  map-tried : (front es rest : List A) → map g (tried shown_of front es rest) ≡ tried shown (map g front) (map g es) (map g rest)
  unfolding tried
  map-tried front [] rest = refl
  map-tried front (e ∷ es) rest =
      let left = tried shown_of (front ++ (e ∷ [])) es rest in
      let same : map g left ≡ tried shown (map g front ++ (g e ∷ [])) (map g es) (map g rest) =
      map-tried (front ++ (e ∷ [])) es rest ∙ ap (λ xs. tried shown xs (map g es) (map g rest)) (map-append front (e ∷ [])) in
      map-pick (shown_of (front ++ left)) left (e ∷ left)
      ∙ ap (λ xs. pick (shown xs) (map g left) (g e ∷ map g left)) (map-append front left)
      ∙ ap (left_out shown (map g front) (g e)) same

  pub map-pass : (es : List A) → map g (pass shown_of es) ≡ pass shown (map g es)
  unfolding pass
  map-pass es = map-tried [] es []

  pub map-passes : (n : ℕ) (es : List A) → map g (passes n shown_of es) ≡ passes n shown (map g es)
  unfolding passes
  map-passes zero es = refl
  map-passes (suc n) es =
      let left = pass shown_of es in
      let long : length left ≡ length (pass shown (map g es)) = sym (length-map left g) ∙ ap length (map-pass es) in
      map-pick (eqb (length left) (length es)) es (passes n shown_of left)
      ∙ ap (λ xs. pick (eqb (length left) (length es)) (map g es) xs) (map-passes n left ∙ ap (passes n shown) (map-pass es))
      ∙ ap (λ k. pick (eqb k (length es)) (map g es) (passes n shown (pass shown (map g es)))) long
      ∙ ap (λ k. pick (eqb (length (pass shown (map g es))) k) (map g es) (passes n shown (pass shown (map g es)))) (sym (length-map es g))
