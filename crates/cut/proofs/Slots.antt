-- Regions in slots: the copy from a slot to the one before it, and what is stored in one slot leaves of the others. Assumes nothing.
use Prim.Native.Nat.{ℕ, ◌+◌, ◌-◌, ◌≤◌}
use native.Mathlib.Omega.{arith}
use mathlib.Core.Path.{◌≡◌, sym, ap, ◌∙◌}
use mathlib.Core.List.{List, [], ◌++◌, append-nil}
use lib.ListN.{length, take, drop, length-append, length-drop, drop_of_length-le}
use lib.Seq.{drop-append-add, drop_at, drop-drop, length-take-le, take_all, take-append-add, take_at, take-take}
use Rattle.cut.specs.Inner.{copied_down, region_in, slot_of}

-- The part from a position on, as the code has it.
pub to_end : {A : Type 0} (k : ℕ) (l : List A) → take (length l - k) (drop k l) ≡ drop k l
to_end k l = take_all (length l - k) (drop k l) (omega (arith, length-drop k l))

-- What lies behind what was stored at the start is as it was.
pub drop_over : (n : ℕ) (xs zs : List ℕ) → length xs ≤ n → drop n (xs ++ drop (length xs) zs) ≡ drop n zs
drop_over n xs zs h =
    let all : length xs + (n - length xs) ≡ n = omega arith in
    ap (λ k. drop k (xs ++ drop (length xs) zs)) (sym all)
    ∙ drop-append-add xs (drop (length xs) zs) (n - length xs)
    ∙ drop-drop (n - length xs) (length xs) zs
    ∙ ap (λ k. drop k zs) all

pub region_long : (size : ℕ) (l : List ℕ) → size ≤ 14912 → 14912 ≤ length l → length (region_in size l) ≡ size
unfolding region_in slot_of
region_long size l h room =
    length-take-le size (drop (length l - 14912) l) (omega (arith, length-drop (length l - 14912) l))

-- Two last slots, the second copied to the first, and then the region b' stored there.
module _ (size : ℕ) (small : size ≤ 14856) (l : List ℕ) (room : 29824 ≤ length l) where
  abbrev w : ℕ
  w = length l - 29824

  pair_is : take (length l - w) (drop w l) ≡ drop w l
  pair_is = to_end w l

  pub pair_room : 14912 + size ≤ length (take (length l - w) (drop w l))
  pair_room = omega (arith, ap length pair_is, length-drop w l)

  second_is : drop 14912 (drop w l) ≡ slot_of l
  unfolding slot_of
  second_is =
      let at : w + 14912 ≡ length l - 14912 = omega arith in
      drop-drop 14912 w l ∙ ap (λ n. drop n l) at

  module _ (p' : List ℕ) (copied : p' ≡ copied_down (take (length l - w) (drop w l)) size) where
    abbrev l₁ : List ℕ
    l₁ = take w l ++ (p' ++ drop (length l - w) (drop w l))

    first_bytes : List ℕ
    first_bytes = take size (drop 14912 (drop w l))

    first_long : length first_bytes ≡ size
    unfolding first_bytes
    first_long = length-take-le size (drop 14912 (drop w l)) (omega (arith, length-drop 14912 (drop w l), length-drop w l))

    p_is : p' ≡ first_bytes ++ drop (length first_bytes) (drop w l)
    unfolding first_bytes copied_down
    p_is =
        copied
        ∙ ap (λ x. take size (drop 14912 x) ++ drop size x) pair_is
        ∙ ap (λ n. first_bytes ++ drop n (drop w l)) (sym first_long)

    behind : drop w l₁ ≡ p'
    behind =
        let nothing : drop (length l - w) (drop w l) ≡ [] = drop_of_length-le (drop w l) {i = length l - w} (omega (arith, length-drop w l)) in
        drop_at (take w l) (p' ++ drop (length l - w) (drop w l)) w (length-take-le w l (omega arith))
        ∙ ap (λ x. p' ++ x) nothing
        ∙ append-nil p'

    pub slots_long : length l₁ ≡ length l
    slots_long =
        omega (
          arith,
          length-append (take w l) (p' ++ drop (length l - w) (drop w l)),
          length-append p' (drop (length l - w) (drop w l)),
          length-take-le w l (omega arith),
          length-drop (length l - w) (drop w l),
          length-drop w l,
          ap length p_is,
          length-append first_bytes (drop (length first_bytes) (drop w l)),
          length-drop (length first_bytes) (drop w l),
          first_long,
        )

    pub copy_is : (end : ℕ) → end ≡ w + size → take (end - w) (drop w l₁) ≡ region_in size l
    unfolding region_in first_bytes
    copy_is end ee =
        let k : end - w ≡ size = omega arith in
        ap (λ n. take n (drop w l₁)) k
        ∙ ap (take size) (behind ∙ p_is)
        ∙ take_at first_bytes (drop (length first_bytes) (drop w l)) size first_long
        ∙ ap (take size) second_is

    module _ (end : ℕ) (ee : end ≡ w + size) (b' : List ℕ) (same : length b' ≡ size) where
      rest : List ℕ
      rest = drop (end - w) (drop w l₁)

      rest_is : b' ++ rest ≡ b' ++ drop (length b') (drop w l₁)
      unfolding rest
      rest_is =
          let k : end - w ≡ length b' = omega arith in
          ap (λ n. b' ++ drop n (drop w l₁)) k

      front_long : length (take w l₁) ≡ w
      front_long = length-take-le w l₁ (omega (arith, slots_long))

      pub stored_long : length (take w l₁ ++ (b' ++ drop (end - w) (drop w l₁))) ≡ length l
      stored_long =
          omega (
            arith,
            length-append (take w l₁) (b' ++ drop (end - w) (drop w l₁)),
            length-append b' (drop (end - w) (drop w l₁)),
            length-drop (end - w) (drop w l₁),
            length-drop w l₁,
            front_long,
            slots_long,
          )

      pub slot_kept : slot_of (take w l₁ ++ (b' ++ drop (end - w) (drop w l₁))) ≡ slot_of l
      unfolding slot_of rest
      slot_kept =
          let at : length (take w l₁ ++ (b' ++ drop (end - w) (drop w l₁))) - 14912 ≡ length (take w l₁) + 14912 =
          omega (arith, stored_long, front_long) in
          ap (λ n. drop n (take w l₁ ++ (b' ++ rest))) at
          ∙ drop-append-add (take w l₁) (b' ++ rest) 14912
          ∙ ap (drop 14912) rest_is
          ∙ drop_over 14912 b' (drop w l₁) (omega arith)
          ∙ ap (drop 14912) (behind ∙ p_is)
          ∙ drop_over 14912 first_bytes (drop w l) (omega (arith, first_long))
          ∙ second_is

      pub slot_before : region_in size (take (length l - 14912) (take w l₁ ++ (b' ++ drop (end - w) (drop w l₁)))) ≡ b'
      unfolding region_in slot_of rest
      slot_before =
          let u : ℕ = length l - 14912 in
          let l₂ : List ℕ = take w l₁ ++ (b' ++ rest) in
          let cut : u ≡ length (take w l₁) + 14912 = omega (arith, front_long) in
          let shorter : take u l₂ ≡ take w l₁ ++ take 14912 (b' ++ rest) =
          ap (λ n. take n l₂) cut ∙ take-append-add (take w l₁) (b' ++ rest) 14912 in
          let at : length (take u l₂) - 14912 ≡ w = omega (arith, length-take-le u l₂ (omega (arith, stored_long))) in
          ap (λ n. take size (drop n (take u l₂))) at
          ∙ ap (λ x. take size (drop w x)) shorter
          ∙ ap (take size) (drop_at (take w l₁) (take 14912 (b' ++ rest)) w front_long)
          ∙ take-take size 14912 (b' ++ rest) (omega arith)
          ∙ take_at b' rest size same

-- The slots before the last one, whatever becomes of them.
module _ (l x : List ℕ) (room : 14912 ≤ length l) (same : length x ≡ length (take (length l - 14912) l)) where
  before_long : length x ≡ length l - 14912
  before_long = same ∙ length-take-le (length l - 14912) l (omega arith)

  pub last_long : length (x ++ drop (length l - 14912) l) ≡ length l
  last_long = omega (arith, length-append x (drop (length l - 14912) l), length-drop (length l - 14912) l, before_long)

  pub last_kept : slot_of (x ++ drop (length l - 14912) l) ≡ slot_of l
  unfolding slot_of
  last_kept =
      ap (λ n. drop n (x ++ drop (length l - 14912) l)) (ap (λ n. n - 14912) last_long)
      ∙ drop_at x (drop (length l - 14912) l) (length l - 14912) before_long
