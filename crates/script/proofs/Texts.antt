-- Text compared and written: one pass of each loop, over plain variables, and the laws of what is written. Assumes nothing.
use Prim.Native.Nat.{ℕ, suc, ◌+◌, ◌-◌, ◌^◌, ◌≤◌, ◌<◌}
use native.Mathlib.Nat.{add-zero, add-suc, suc-add}
use native.Mathlib.Omega.{arith}
use mathlib.Core.Path.{◌≡◌, refl, sym, ap, subst, ◌∙◌}
use mathlib.Core.Bool.{Bool, true, false, true≢false}
use mathlib.Core.List.{List, [], ◌∷◌, ◌++◌, append_assoc}
use borrow.Author.Tests.{ltb-false, ltb-true}
use lib.Dec.{eqb, ltb}
use lib.ListN.{length, set, drop, length-append, length-drop, length-set, drop_of_length-le}
use lib.Seq.{drop-drop, sets, length-sets, sets-eq}
use lib.Pointwise.{pointwise}
use Rattle.std.specs.Prelude.{nat_eq, ◌&&◌, take, min}
use Rattle.std.proofs.lemmas.List.{take_rest}
use borrow.Rule.Slice.PartMut.{put_mid}
use mir.Syntax.{w64}
use mir.Val.{Fits}
use Rattle.region.proofs.Shapes.{and_right}
use Rattle.script.specs.Text.{starts_with, text_at}
use Rattle.script.specs.Inner.{Appends, Wrote}
use Rattle.script.specs.declared.text.Text.{Text}

-- Comparing.
starts_same : (t s : List ℕ) → starts_with t s ≡ pointwise nat_eq t (take (length t) s)
unfolding starts_with
starts_same [] s = refl
starts_same (c ∷ t) [] = refl
starts_same (c ∷ t) (x ∷ s) = ap (λ q. nat_eq c x && q) (starts_same t s)

pub stands : (s t : List ℕ) (at m : ℕ) (q : Bool) → m ≡ min at (length s) → q ≡ pointwise nat_eq t (take (length t) (take (length s - m) (drop m s)))
    → q ≡ text_at s at t
unfolding text_at
stands s t at m q em eq =
    eq
    ∙ ap (λ x. pointwise nat_eq t (take (length t) x)) (take_rest s m)
    ∙ sym (starts_same t (drop m s))
    ∙ ap (starts_with t) (ways (ltb at (length s)) refl)
  where
    ways : (p : Bool) → ltb at (length s) ≡ p → drop m s ≡ drop at s
    ways true g = ap (λ k. drop k s) (omega (arith, em, ltb-true at (length s) g))
    ways false g =
        let past : length s ≤ at = ltb-false at (length s) g in
        drop_of_length-le s (omega (arith, em)) ∙ sym (drop_of_length-le s past)

-- A text that stands somewhere ends within the slice.
starts_long : (t s : List ℕ) → starts_with t s ≡ true → length t ≤ length s
unfolding starts_with
starts_long [] s e = omega arith
starts_long (c ∷ t) [] e = absurd (true≢false (sym e))
starts_long (c ∷ t) (x ∷ s) e = omega (arith, starts_long t s (and_right (eqb c x) (starts_with t s) e))

pub text_room : (s : List ℕ) (at : ℕ) (t : List ℕ) → text_at s at t ≡ true → 0 < length t → at + length t ≤ length s
unfolding text_at
text_room s at t e h = omega (arith, starts_long t (drop at s) e, length-drop at s)

pub text_fits : (s : List ℕ) (at : ℕ) (t : List ℕ) (q : Bool) → q ≡ text_at s at t → q ≡ true → at < 2 ^ 64 → length s < 2 ^ 64
    → Fits w64 (at + length t)
text_fits s at [] q e g h long = record { fits = omega arith }
text_fits s at (c ∷ t) q e g h long = record { fits = omega (arith, text_room s at (c ∷ t) (sym e ∙ g) (omega arith)) }

-- What is written: the slice keeps its length, and two texts one after the other are one.
pub wrote_length : {l l' : List ℕ} {a k : ℕ} {xs : List ℕ} → Wrote l l' a k xs → length l' ≡ length l
wrote_length {l} {l'} {a} {k} {xs} w = ap length w.bytes ∙ length-sets l a xs

pub set-length : {l l' : List ℕ} {a k : ℕ} {xs : List ℕ} (i x : ℕ) → Wrote l l' a k xs → length (set l' i x) ≡ length l
set-length {l} {l'} i x w = length-set l' i x ∙ wrote_length w

pub sets-append : (xs ys l : List ℕ) (i : ℕ) → sets l i (xs ++ ys) ≡ sets (sets l i xs) (i + length xs) ys
sets-append [] ys l i = ap (λ n. sets l n ys) (sym (add-zero i))
sets-append (x ∷ xs) ys l i =
    sets-append xs ys (set l i x) (suc i)
    ∙ ap (λ n. sets (sets (set l i x) (suc i) xs) n ys) (suc-add i (length xs) ∙ sym (add-suc i (length xs)))

pub wrote_more : {l l' l'' : List ℕ} {a k m : ℕ} {xs ys : List ℕ} → Wrote l l' a k xs → Wrote l' l'' k m ys
    → Wrote l l'' a m (xs ++ ys)
wrote_more {l} {l'} {l''} {a} {k} {m} {xs} {ys} v w =
    record {
      next = omega (arith, v.next, w.next, length-append xs ys);
      within = omega (arith, w.within, wrote_length v);
      bytes =
          w.bytes
          ∙ ap (λ b. sets b k ys) v.bytes
          ∙ ap (λ n. sets (sets l a xs) n ys) v.next
          ∙ sym (sets-append xs ys l a);
    }

module _ {t₀ t₁ : Text} {xs : List ℕ} (w : Appends t₀ t₁ xs) where
  pub appends_length : length t₁.out.now ≡ length t₀.out.now
  appends_length = wrote_length w.wrote

  pub appends_more : {t₂ : Text} {ys : List ℕ} → Appends t₁ t₂ ys → Appends t₀ t₂ (xs ++ ys)
  appends_more v =
      record { same_reference = v.same_reference ∙ w.same_reference; wrote = wrote_more w.wrote v.wrote }

-- a text copied to its place
pub wrote_text : (l t y : List ℕ) (at : ℕ) → at + length t ≤ length l → y ≡ t → Wrote l (put_mid at (at + length t - at) l y) at (at + length t) t
wrote_text l t y at h e =
    let n : at + length t - at ≡ length t = omega arith in
    record {
      next = refl;
      within = h;
      bytes =
          ap (λ k. put_mid at k l y) n
          ∙ ap (put_mid at (length t) l) e
          ∙ ap (λ x. take at l ++ (t ++ x)) (drop-drop (length t) at l)
          ∙ sym (append_assoc (take at l) t (drop (at + length t) l))
          ∙ sym (sets-eq t l at h);
    }

-- What was written from the start on, with the rest as it was.
pub written : (l l' : List ℕ) (k : ℕ) (xs : List ℕ) → Wrote l l' 0 k xs → l' ≡ xs ++ drop k l
written l l' k xs w =
    let n : 0 + length xs ≡ k = sym w.next in
    w.bytes ∙ sets-eq xs l 0 (omega (arith, w.within)) ∙ ap (λ m. xs ++ drop m l) n

-- Printing piece by piece: what is left, written from here, gives the whole.
pub record Printing (l₀ : List ℕ) (a : ℕ) (whole l : List ℕ) (k : ℕ) (left : List ℕ) : Type 0 where
  pub same : length l ≡ length l₀
  pub bytes : sets l k left ≡ sets l₀ a whole
  pub count : k + length left ≡ a + length whole

pub print_start : (l : List ℕ) (a : ℕ) (whole : List ℕ) → Printing l a whole l a whole
print_start l a whole = record { same = refl; bytes = refl; count = refl }

module _ {l₀ : List ℕ} {a : ℕ} {whole l : List ℕ} {k : ℕ} {left : List ℕ} (e : Printing l₀ a whole l k left) where
  pub print_more : {l' : List ℕ} {k' : ℕ} (xs next : List ℕ) → left ≡ xs ++ next → Wrote l l' k k' xs → Printing l₀ a whole l' k' next
  print_more {l'} {k'} xs next el w =
      record {
        same = wrote_length w ∙ e.same;
        bytes =
            ap (λ b. sets b k' next) w.bytes
            ∙ ap (λ n. sets (sets l k xs) n next) w.next
            ∙ sym (sets-append xs next l k)
            ∙ ap (sets l k) (sym el)
            ∙ e.bytes;
        count = omega (arith, e.count, ap length el, length-append xs next, w.next);
      }

  pub print_end : left ≡ [] → k ≤ length l → Wrote l₀ l a k whole
  print_end el h =
      record {
        next = omega (arith, e.count, ap length el);
        within = omega (arith, e.same);
        bytes = ap (sets l k) (sym el) ∙ e.bytes;
      }

-- The same for a text.
pub record Appending (t₀ : Text) (whole : List ℕ) (t : Text) (left : List ℕ) : Type 0 where
  pub same_reference : t.out.ghost_name ≡ t₀.out.ghost_name
  pub within : t.len ≤ length t.out.now
  pub printing : Printing t₀.out.now t₀.len whole t.out.now t.len left

pub append_start : (t : Text) (whole : List ℕ) → t.len ≤ length t.out.now → Appending t whole t whole
append_start t whole h = record { same_reference = refl; within = h; printing = print_start t.out.now t.len whole }

module _ {t₀ : Text} {whole : List ℕ} {t : Text} {left : List ℕ} (e : Appending t₀ whole t left) where
  pub append_more : {t' : Text} (xs next : List ℕ) → left ≡ xs ++ next → Appends t t' xs → Appending t₀ whole t' next
  append_more xs next el w =
      record {
        same_reference = w.same_reference ∙ e.same_reference;
        within = omega (arith, w.wrote.within, appends_length w);
        printing = print_more e.printing xs next el w.wrote;
      }

  pub append_end : left ≡ [] → Appends t₀ t whole
  append_end el = record { same_reference = e.same_reference; wrote = print_end e.printing el e.within }

-- A text that was begun at the start of a slice.
pub from_start : {l l' : List ℕ} {t₀ t : Text} {xs : List ℕ} → t₀.len ≡ 0 → t₀.out.now ≡ l → Appends t₀ t xs → l' ≡ t.out.now
    → Wrote l l' 0 t.len xs
from_start {l} {l'} {t₀} {t} {xs} z e w e' =
    subst (λ y. Wrote l y 0 t.len xs) (sym e')
    (subst (λ n. Wrote l t.out.now n t.len xs) z (subst (λ y. Wrote y t.out.now t₀.len t.len xs) e w.wrote))
