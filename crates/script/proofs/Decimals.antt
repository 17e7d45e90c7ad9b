-- Decimal numbers read and written: one pass of the loop and each way out, over plain variables, and the laws of digits. Assumes nothing.
use Prim.Native.Nat.{ℕ, zero, suc, ◌+◌, ◌-◌, ◌*◌, ◌/◌, ◌%◌, ◌^◌, ◌≤◌, ◌<◌}
use native.Mathlib.Numerals.{add-one}
use native.Mathlib.Omega.{arith}
use mathlib.Core.Path.{◌≡◌, refl, sym, ap, subst, ◌∙◌}
use mathlib.Core.Bool.{Bool, true, false, ◌&&◌, true≢false}
use mathlib.Core.List.{List, [], ◌∷◌, ◌++◌}
use borrow.Author.Tests.{lt-ltb, le-ltb, le-leb, lt-leb, eq-eqb, ne_eqb}
use lib.Dec.{leb, ltb, eqb}
use lib.ListN.{length, get_or, drop, length-append, drop_of_length-le, get_or-eq_default}
use lib.Seq.{drop-cons}
use Rattle.std.specs.Prelude.{Option, Some, None}
use Rattle.std.specs.Char.{is_ascii_digit}
use Rattle.region.specs.Pick.{pick}
use Rattle.region.specs.Shape.{between}
use Rattle.region.proofs.Shapes.{below, between_least, between_most}
use Rattle.script.specs.Text.{decimal, digits, is_digit}
use Rattle.script.specs.Inner.{Appends}
use Rattle.script.specs.Reading.{digits_then, number_then}
use Rattle.script.specs.Printing.{number_text}
use Rattle.script.specs.declared.text.Text.{Text}
use Rattle.script.proofs.Texts.{appends_length, appends_more}

-- A digit.
digit_same : (c : ℕ) → is_ascii_digit c ≡ is_digit c
unfolding is_digit between
digit_same c = refl

digit_least : (c : ℕ) → is_digit c ≡ true → 48 ≤ c
unfolding is_digit
digit_least c e = between_least 48 c 57 e

digit_most : (c : ℕ) → is_digit c ≡ true → c ≤ 57
unfolding is_digit
digit_most c e = between_most 48 c 57 e

-- The bytes that end a field are no digits.
pub space_ends : is_digit 32 ≡ false
unfolding is_digit
space_ends = below 48 32 57 (omega arith)

pub line_ends : is_digit 10 ≡ false
unfolding is_digit
line_ends = below 48 10 57 (omega arith)

-- Reading digits: those left from here, with the value so far, give the whole.
pub record Reading (s : List ℕ) (at end k v : ℕ) : Type 0 where
  pub most : v ≤ 4294967295
  pub left : digits_then end (drop k s) k v ≡ digits_then end (drop at s) at 0

pub read_start : (s : List ℕ) (at end : ℕ) → Reading s at end at 0
read_start s at end = record { most = omega arith; left = refl }

module _ {s : List ℕ} {at end k v : ℕ} (e : Reading s at end k v) where
  pub read_past : length s ≤ k → None ≡ digits_then end (drop at s) at 0
  unfolding digits_then
  read_past h = rw (drop_of_length-le s h) at e.left

  module _ (h : k < length s) where
    pub read_end : get_or s k 0 ≡ end → Some (v, k + 1) ≡ digits_then end (drop at s) at 0
    unfolding digits_then pick
    read_end g = rw add-one (rw (drop-cons s k 0 h, eq-eqb (get_or s k 0) end g) at e.left)

    module _ (n : get_or s k 0 ≡ end → ⊥) (q : Bool) (eq : q ≡ is_ascii_digit (get_or s k 0)) where
      digit : q ≡ is_digit (get_or s k 0)
      digit = eq ∙ digit_same (get_or s k 0)

      pub read_other : q ≡ false → None ≡ digits_then end (drop at s) at 0
      unfolding digits_then pick
      read_other g = rw (drop-cons s k 0 h, ne_eqb (get_or s k 0) end n, ← digit, g) at e.left

      module _ (g : q ≡ true) where
        pub digit_48 : 48 ≤ get_or s k 0
        digit_48 = digit_least (get_or s k 0) (sym digit ∙ g)

        great : 4294967295 < 10 * v + (get_or s k 0 - 48) → None ≡ digits_then end (drop at s) at 0
        unfolding digits_then pick
        great o =
            rw (drop-cons s k 0 h, ne_eqb (get_or s k 0) end n, ← digit, g, lt-leb (10 * v + (get_or s k 0 - 48)) 4294967295 o)
            at
            e.left

        pub great_tens : (v * 10 < 2 ^ 32 → ⊥) → None ≡ digits_then end (drop at s) at 0
        great_tens o = great (omega (arith, o))

        pub great_sum : (v * 10 + (get_or s k 0 - 48) < 2 ^ 32 → ⊥) → None ≡ digits_then end (drop at s) at 0
        great_sum o = great (omega (arith, o))

        pub read_more : (w : ℕ) → w ≡ v * 10 + (get_or s k 0 - 48) → w < 2 ^ 32 → Reading s at end (k + 1) w
        unfolding digits_then pick
        read_more w ew o =
            let f : w ≡ 10 * v + (get_or s k 0 - 48) = omega (arith, ew) in
            let p : 10 * v + (get_or s k 0 - 48) ≤ 4294967295 = omega (arith, f) in
            record {
              most = omega arith;
              left =
                  ap (digits_then end (drop (k + 1) s) (k + 1)) f
                  ∙ rw
                  add-one
                  (rw (drop-cons s k 0 h, ne_eqb (get_or s k 0) end n, ← digit, g, le-leb (10 * v + (get_or s k 0 - 48)) 4294967295 p)
                  at
                  e.left);
            }

-- A field.
pub field_past : (s : List ℕ) (at end : ℕ) → length s ≤ at → None ≡ number_then s at end
unfolding number_then is_digit pick
field_past s at end h = rw (get_or-eq_default s 0 h, below 48 0 57 (omega arith)) refl

module _ (s : List ℕ) (at end : ℕ) (q : Bool) (eq : q ≡ is_ascii_digit (get_or s at 0)) where
  pub field_other : q ≡ false → None ≡ number_then s at end
  unfolding number_then pick
  field_other g = rw (← digit_same (get_or s at 0), ← eq, g) refl

  pub field_digits : q ≡ true → (r : Option (ℕ × ℕ)) → r ≡ digits_then end (drop at s) at 0 → r ≡ number_then s at end
  unfolding number_then pick
  field_digits g r e = rw (← digit_same (get_or s at 0), ← eq, g) e

-- what `digits_then` and `number_then` cite
pub ruleset digits_left = (read_past, read_end, read_other, digit_48, great_tens, great_sum, read_more)

pub ruleset fields = (field_past, field_other, field_digits)

-- A field that can be read takes two bytes or more.
next_of : Option (ℕ × ℕ) → ℕ
next_of None = 0
next_of (Some p) = p.1

digits_next : (end : ℕ) (l : List ℕ) (at v w n : ℕ) → digits_then end l at v ≡ Some (w, n) → at < n
unfolding digits_then pick next_of
digits_next end [] at v w n e = let z : ◌≡◌ {A = ℕ} 0 1 = cc in absurd (omega arith)
digits_next end (c ∷ l) at v w n e =
    ways (eqb c end) (is_digit c && leb (10 * v + (c - 48)) 4294967295) e (digits_next end l (suc at) (10 * v + (c - 48)) w n)
  where
    ways : (p q : Bool) → pick p (Some (v, suc at)) (pick q (digits_then end l (suc at) (10 * v + (c - 48))) None) ≡ Some (w, n)
        → (digits_then end l (suc at) (10 * v + (c - 48)) ≡ Some (w, n) → suc at < n) → at < n
    ways true q e rest = let z : suc at ≡ n = ap next_of e in omega arith
    ways false true e rest = omega (arith, rest e)
    ways false false e rest = let z : ◌≡◌ {A = ℕ} 0 1 = cc in absurd (omega arith)

field_first : (end c : ℕ) (l : List ℕ) (at w n : ℕ) → is_digit end ≡ false → is_digit c ≡ true
    → digits_then end (c ∷ l) at 0 ≡ Some (w, n) → at + 1 < n
unfolding digits_then pick
field_first end c l at w n d g e =
    let other : eqb c end ≡ false = ne_eqb c end (λ z. true≢false (sym g ∙ ap is_digit z ∙ d)) in
    rest (is_digit c && leb (10 * 0 + (c - 48)) 4294967295) (rw other at e)
  where
    rest : (q : Bool) → pick q (digits_then end l (suc at) (10 * 0 + (c - 48))) None ≡ Some (w, n) → at + 1 < n
    rest true e = omega (arith, digits_next end l (suc at) (10 * 0 + (c - 48)) w n e)
    rest false e = let z : ◌≡◌ {A = ℕ} 0 1 = cc in absurd (omega arith)

digit_within : (s : List ℕ) (at : ℕ) → is_digit (get_or s at 0) ≡ true → at < length s
digit_within [] at e = absurd (omega (arith, digit_least 0 e))
digit_within (x ∷ s) zero e = omega arith
digit_within (x ∷ s) (suc at) e = omega (arith, digit_within s at e)

pub field_next : (s : List ℕ) (at end w n : ℕ) → is_digit end ≡ false → number_then s at end ≡ Some (w, n) → at + 2 ≤ n
unfolding number_then pick
field_next s at end w n d e = starts (is_digit (get_or s at 0)) refl e
  where
    starts : (q : Bool) → is_digit (get_or s at 0) ≡ q → pick q (digits_then end (drop at s) at 0) None ≡ Some (w, n) → at + 2 ≤ n
    starts false g e = let z : ◌≡◌ {A = ℕ} 0 1 = cc in absurd (omega arith)
    starts true g e =
        omega
        (arith, field_first end (get_or s at 0) (drop (suc at) s) at w n d g (rw (drop-cons s at 0 (digit_within s at g)) at e))

-- The digits of a number.
digits_more : (k n : ℕ) → n < 10 ^ suc k → digits (suc (suc k)) n ≡ digits (suc k) n
unfolding digits pick
digits_more zero n h = rw (lt-ltb n 10 (omega arith)) refl
digits_more (suc k) n h =
    ap (λ l. pick (ltb n 10) ((48 + n) ∷ []) (l ++ ((48 + n % 10) ∷ []))) (digits_more k (n / 10) (omega arith))

digits_most : (k n : ℕ) → length (digits k n) ≤ k
unfolding digits pick
digits_most zero n = omega arith
digits_most (suc k) n = ways (ltb n 10) (digits_most k (n / 10))
  where
    ways : (q : Bool) → length (digits k (n / 10)) ≤ k
        → length (pick q ((48 + n) ∷ []) (digits k (n / 10) ++ ((48 + n % 10) ∷ []))) ≤ suc k
    ways true h = omega arith
    ways false h = omega (arith, length-append (digits k (n / 10)) ((48 + n % 10) ∷ []))

pub decimal_most : (n : ℕ) → length (decimal n) ≤ 10
unfolding decimal
decimal_most n = digits_most 10 n

digits_last : (k n : ℕ) → 10 ≤ n → digits (suc k) n ≡ digits k (n / 10) ++ ((48 + n % 10) ∷ [])
unfolding digits pick
digits_last k n h = rw (le-ltb n 10 h) refl

decimal_low : (n : ℕ) → n < 10 → decimal n ≡ (48 + n) ∷ []
unfolding decimal digits pick
decimal_low n h = rw (lt-ltb n 10 h) refl

decimal_more : (n : ℕ) → 10 ≤ n → n < 2 ^ 32 → decimal n ≡ decimal (n / 10) ++ ((48 + n % 10) ∷ [])
unfolding decimal
decimal_more n h g = digits_last 9 n h ∙ ap (λ l. l ++ ((48 + n % 10) ∷ [])) (sym (digits_more 8 (n / 10) (omega arith)))

module _ (t₀ : Text) (n : ℕ) (room : t₀.len + length (decimal n) ≤ length t₀.out.now) where
  pub digit_room : n < 10 → t₀.len + 1 ≤ length t₀.out.now
  digit_room h = omega (arith, room, ap length (decimal_low n h))

  pub one_digit : n < 10 → {t₁ : Text} → Appends t₀ t₁ ((48 + n) ∷ []) → Appends t₀ t₁ (decimal n)
  one_digit h {t₁} w = subst (Appends t₀ t₁) (sym (decimal_low n h)) w

  module _ (h : 10 ≤ n) (f : n < 2 ^ 32) where
    long : length (decimal n) ≡ length (decimal (n / 10)) + 1
    long = ap length (decimal_more n h f) ∙ length-append (decimal (n / 10)) ((48 + n % 10) ∷ [])

    pub fewer_digits : t₀.len + length (decimal (n / 10)) ≤ length t₀.out.now
    fewer_digits = omega (arith, room, long)

    module _ {t₁ : Text} (w : Appends t₀ t₁ (decimal (n / 10))) where
      pub last_room : t₁.len + 1 ≤ length t₁.out.now
      last_room = omega (arith, room, long, w.wrote.next, appends_length w)

      pub last_digit : {t₂ : Text} → Appends t₁ t₂ ((48 + n % 10) ∷ []) → Appends t₀ t₂ (decimal n)
      last_digit {t₂} v = subst (Appends t₀ t₂) (sym (decimal_more n h f)) (appends_more w v)

-- A number and the byte behind it.
module _ (t₀ : Text) (n : ℕ) (room : t₀.len + 11 ≤ length t₀.out.now) where
  pub digits_room : t₀.len + length (decimal n) ≤ length t₀.out.now
  digits_room = omega (arith, room, decimal_most n)

  module _ {t₁ : Text} (w : Appends t₀ t₁ (decimal n)) where
    pub end_room : t₁.len + 1 ≤ length t₁.out.now
    end_room = omega (arith, room, decimal_most n, w.wrote.next, appends_length w)

    pub number_ends : (end : ℕ) {t₂ : Text} → Appends t₁ t₂ (end ∷ []) → Appends t₀ t₂ (number_text n end)
    unfolding number_text
    number_ends end v = appends_more w v

pub number_most : (n end : ℕ) → length (number_text n end) ≤ 11
unfolding number_text
number_most n end = omega (arith, decimal_most n, length-append (decimal n) (end ∷ []))

-- what `digits` and `number` cite
pub ruleset digits_written = (digit_room, fewer_digits, last_room)

pub ruleset number_written = (digits_room, end_room)
