-- Reading at a position that looks at no more than a text there: it reads the same wherever that text stands, and one such reading behind
-- another is one of both texts. Assumes nothing.
use Prim.Native.Nat.{ℕ, ◌+◌, ◌-◌, ◌≤◌, ◌<◌}
use native.Mathlib.Nat.{add-zero, add_assoc}
use native.Mathlib.Omega.{arith}
use mathlib.Core.Path.{◌≡◌, refl, sym, ap, ◌∙◌}
use mathlib.Core.List.{List, [], ◌++◌, append_assoc}
use lib.ListN.{length, take, drop, length-append, length-drop}
use lib.Seq.{drop_at, drop-append_seam, drop-drop, length-take-le, slice, take-add, take-append_seam}

-- f reads, at a position of s, the text that stands there up to n; it gives r of the position behind the text.
pub record Reads {X : Type 0} (f : List ℕ → ℕ → X) (r : ℕ → X) (s : List ℕ) (at n : ℕ) : Type 0 where
  pub text : List ℕ
  pub rest : List ℕ
  pub here : drop at s ≡ text ++ rest
  pub next : n ≡ at + length text
  pub again : (s' : List ℕ) (at' : ℕ) (rest' : List ℕ) → drop at' s' ≡ text ++ rest' → f s' at' ≡ r (at' + length text)

-- what stands behind a text
pub behind_text : (s : List ℕ) (at : ℕ) (text rest : List ℕ) → drop at s ≡ text ++ rest → drop (at + length text) s ≡ rest
behind_text s at text rest e = sym (drop-drop (length text) at s) ∙ ap (drop (length text)) e ∙ drop-append_seam text rest

-- a text that stands at a position is the part of the list from there
pub text_there : (s : List ℕ) (at : ℕ) (text rest : List ℕ) → at ≤ length s → drop at s ≡ text ++ rest
    → slice at (at + length text) s ≡ text
text_there s at text rest h e =
    ap (drop at) (take-add at (length text) s)
    ∙ drop_at (take at s) (take (length text) (drop at s)) at (length-take-le at s h)
    ∙ ap (take (length text)) e
    ∙ take-append_seam text rest

module _ {X : Type 0} {f : List ℕ → ℕ → X} {r : ℕ → X} {s : List ℕ} {at n : ℕ} (p : Reads f r s at n) where
  counted : length s - at ≡ length p.text + length p.rest
  counted = sym (length-drop at s) ∙ ap length p.here ∙ length-append p.text p.rest

  pub reads_within : at < n → n ≤ length s
  reads_within h = omega (arith, counted, p.next)

  pub reads_text : at < n → slice at n s ≡ p.text
  reads_text h =
      ap (λ m. slice at m s) p.next ∙ text_there s at p.text p.rest (omega (arith, reads_within h)) p.here

-- One reading behind another.
module _ {X Y : Type 0} {f : List ℕ → ℕ → X} {r : ℕ → X} {g : List ℕ → ℕ → Y} {r' : ℕ → Y} {s : List ℕ} {at n m : ℕ} where
  pub reads_then : {h : List ℕ → ℕ → Y} (p : Reads f r s at n) → Reads g r' s n m
      → ((s' : List ℕ) (at' : ℕ) → f s' at' ≡ r (at' + length p.text) → h s' at' ≡ g s' (at' + length p.text)) → Reads h r' s at m
  reads_then {h} p q both =
      let text = p.text ++ q.text in
      let long : length text ≡ length p.text + length q.text = length-append p.text q.text in
      let rest : p.rest ≡ q.text ++ q.rest =
      sym (behind_text s at p.text p.rest p.here) ∙ ap (λ k. drop k s) (sym p.next) ∙ q.here in
      record {
        text = text;
        rest = q.rest;
        here = p.here ∙ ap (λ xs. p.text ++ xs) rest ∙ sym (append_assoc p.text q.text q.rest);
        next = omega (arith, p.next, q.next, long);
        again = λ s' at' rest' e.
            let first = e ∙ append_assoc p.text q.text rest' in
            both s' at' (p.again s' at' (q.text ++ rest') first)
            ∙ q.again s' (at' + length p.text) rest' (behind_text s' at' p.text (q.text ++ rest') first)
            ∙ ap r' (add_assoc at' (length p.text) (length q.text) ∙ ap (λ k. at' + k) (sym long));
      }

-- What is made of what was read.
pub reads_made : {X Y : Type 0} {f : List ℕ → ℕ → X} {r : ℕ → X} {s : List ℕ} {at n : ℕ} (h : X → Y) (r' : ℕ → Y)
    → ((k : ℕ) → h (r k) ≡ r' k) → Reads f r s at n → Reads (λ s at. h (f s at)) r' s at n
reads_made h r' same p =
    record {
      text = p.text;
      rest = p.rest;
      here = p.here;
      next = p.next;
      again = λ s' at' rest' e. ap h (p.again s' at' rest' e) ∙ same (at' + length p.text);
    }

-- Reading nothing.
pub reads_nothing : {X : Type 0} (f r : ℕ → X) (s : List ℕ) (at n : ℕ) → at ≡ n → ((k : ℕ) → f k ≡ r k) → Reads (λ s at. f at) r s at n
reads_nothing f r s at n e same =
    record {
      text = [];
      rest = drop at s;
      here = refl;
      next = sym e ∙ sym (add-zero at);
      again = λ s' at' rest' e. same at' ∙ ap r (sym (add-zero at'));
    }
