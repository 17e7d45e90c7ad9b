-- Lines tried on the region as the lines before them leave it: halves one after the other are the whole, and it is what the definition of a
-- pass says. Assumes nothing.
use Prim.Native.Nat.{ℕ}
use mathlib.Core.Path.{◌≡◌, refl, sym, ap, ◌∙◌}
use mathlib.Core.Bool.{Bool, true, false, ◌||◌}
use mathlib.Core.List.{List, [], ◌∷◌, ◌++◌}
use Rattle.region.specs.Pick.{pick}
use Rattle.script.specs.Script.{call_bytes, call_outcome}
use Rattle.cut.specs.Shown.{is_refusal}
use Rattle.cut.specs.Cut.{left_out, pass, tried}
use Rattle.cut.specs.Inner.{calls_show, left_on, lines_region, lines_show, region_after, tried_on}
use Rattle.cut.specs.declared.lines.Call.{Call}
use Rattle.cut.specs.declared.lines.Line.{Line}

-- Calls one after the other.
pub or_assoc : (p q r : Bool) → (p || (q || r)) ≡ ((p || q) || r)
or_assoc true q r = refl
or_assoc false q r = refl

pub shows_both : (n : ℕ) (xs ys : List Line) (b : List ℕ) → lines_show n b (xs ++ ys) ≡ (lines_show n b xs || lines_show n (lines_region xs b) ys)
unfolding calls_show region_after
shows_both n [] ys b = refl
shows_both n (x ∷ xs) ys b =
    let c : Call = x.call in
    let now : Bool = is_refusal n (call_outcome b c.what c.thread) in
    let b' : List ℕ = call_bytes b c.what c.thread in
    ap (λ q. now || q) (shows_both n xs ys b') ∙ or_assoc now (lines_show n b' xs) (lines_show n (lines_region xs b') ys)

pub region_both : (xs ys : List Line) (b : List ℕ) → lines_region (xs ++ ys) b ≡ lines_region ys (lines_region xs b)
unfolding region_after
region_both [] ys b = refl
region_both (x ∷ xs) ys b = region_both xs ys (call_bytes b x.call.what x.call.thread)

pick_same : {A : Type 0} (q : Bool) (x : A) → pick q x x ≡ x
unfolding pick
pick_same true x = refl
pick_same false x = refl

module _ (n : ℕ) where
  -- what is left behind lines xs: nothing of ys where xs show the number
  abbrev behind : List ℕ → List Line → List Line → List Line → List Line
  behind b xs ys rest = pick (lines_show n b xs) rest (tried_on n (lines_region xs b) ys rest)

  -- One line.
  pub tried_one : (b : List ℕ) (l : Line) (rest : List Line) → tried_on n b (l ∷ []) rest ≡ left_on n b l rest
  unfolding tried_on
  tried_one b l rest = ap (left_on n b l) (pick_same (lines_show n b (l ∷ [])) rest)

  -- Two halves: the second is tried first, unless the first shows the number.
  pub tried_both : (xs ys : List Line) (b : List ℕ) (rest : List Line) → tried_on n b (xs ++ ys) rest ≡ tried_on n b xs (behind b xs ys rest)
  unfolding tried_on calls_show region_after pick
  tried_both [] ys b rest = refl
  tried_both (x ∷ xs) ys b rest =
      ap (left_on n b x)
      (ways (lines_show n b (x ∷ [])) refl (lines_show n b (x ∷ xs)) (shows_both n (x ∷ []) xs b) (tried_both xs ys b' rest))
    where
      b' : List ℕ
      b' = lines_region (x ∷ []) b

      ways : (p : Bool) → lines_show n b (x ∷ []) ≡ p → (q : Bool) → q ≡ (lines_show n b (x ∷ []) || lines_show n b' xs)
          → tried_on n b' (xs ++ ys) rest ≡ tried_on n b' xs (behind b' xs ys rest)
          → pick (lines_show n b (x ∷ [])) rest (tried_on n b' (xs ++ ys) rest)
          ≡ pick (lines_show n b (x ∷ []))
          (pick q rest (tried_on n (lines_region xs b') ys rest))
          (tried_on n b' xs (pick q rest (tried_on n (lines_region xs b') ys rest)))
      ways true e q g ih = rw (g, e) refl
      ways false e q g ih = rw (g, e) ih

  -- The definition of a pass, from lines front on.
  module _ (b : List ℕ) where
    pub tried_is : (front ls rest : List Line)
        → tried (lines_show n b) front ls rest ≡ pick (lines_show n b front) rest (tried_on n (lines_region front b) ls rest)
    unfolding tried tried_on pick
    tried_is front [] rest = sym (pick_same (lines_show n b front) rest)
    tried_is front (l ∷ ls) rest =
        ap (left_out (lines_show n b) front l)
        (tried_is (front ++ (l ∷ [])) ls rest
        ∙ ap (λ q. pick q rest (tried_on n (lines_region (front ++ (l ∷ [])) b) ls rest)) (shows_both n front (l ∷ []) b)
        ∙ ap (λ y. pick (lines_show n b front || lines_show n here (l ∷ [])) rest (tried_on n y ls rest)) (region_both front (l ∷ []) b))
        ∙ ways (lines_show n b front) refl
      where
        here : List ℕ
        here = lines_region front b

        later : List Line
        later = tried_on n (lines_region (l ∷ []) here) ls rest

        ways : (p : Bool) → lines_show n b front ≡ p
            → left_out (lines_show n b) front l (pick (lines_show n b front || lines_show n here (l ∷ [])) rest later)
            ≡ pick (lines_show n b front) rest (left_on n here l (pick (lines_show n here (l ∷ [])) rest later))
        ways true e = rw (e, shows_both n front rest b, e) refl
        ways false e =
            let kept : List Line = pick (lines_show n here (l ∷ [])) rest later in
            rw (e, shows_both n front kept b, e) refl

    pub pass_is : (ls : List Line) → pass (lines_show n b) ls ≡ tried_on n b ls []
    unfolding pass calls_show region_after pick
    pass_is ls = tried_is [] ls []
