-- A line and an opening that were read are read again wherever their text stands: reading looks at no byte behind the one that ends the last
-- field, and a word that was not there at first is not there again. Assumes nothing.
use Prim.Native.Nat.{ℕ, suc, ◌+◌, ◌-◌, ◌*◌, ◌≤◌, ◌<◌}
use native.Mathlib.Nat.{add-suc, add-zero, suc-add}
use native.Mathlib.Numerals.{add-one}
use native.Mathlib.Omega.{arith}
use mathlib.Core.Path.{◌≡◌, refl, sym, ap, subst, ◌∙◌}
use mathlib.Core.Bool.{Bool, true, false, ◌&&◌, true≢false}
use mathlib.Core.List.{List, [], ◌∷◌, ◌++◌}
use borrow.Author.Tests.{eq-eqb, eqb-true}
use lib.Dec.{leb, eqb}
use lib.ListN.{length, get_or, drop, get_or-append}
use lib.Seq.{get_or-drop}
use Rattle.std.specs.Prelude.{Option, Some, None}
use Rattle.region.specs.Pick.{pick}
use Rattle.region.proofs.Shapes.{and_left, and_right}
use Rattle.script.specs.Text.{ascii, is_digit, starts_with, text_at}
use Rattle.script.specs.Reading.{digits_then, field_then, fields_at, headed_opening, line_heading, number_line, number_then, opening_at, put_line, read_line, shape_at, shape_heading, take_line}
use Rattle.script.specs.declared.reading.Fields.{Fields}
use Rattle.script.specs.declared.reading.What.{What}
use Rattle.script.specs.declared.reading.What.TheVariants.{Take, TakeList, Permit, Turn}
use Rattle.script.specs.declared.reading.ScriptLine.{ScriptLine}
use Rattle.script.specs.declared.reading.Setup.{Setup}
use Rattle.script.proofs.Readings.{line_long}
use Rattle.cut.proofs.TextsRead.{Reads, reads_made, reads_nothing, reads_then}

abbrev value_of : Option (ℕ × ℕ) → ℕ
value_of None = 0
value_of (Some p) = p.0

abbrev next_of : Option (ℕ × ℕ) → ℕ
next_of None = 0
next_of (Some p) = p.1

-- Digits up to the byte that ends them.
record DigitsRead (end : ℕ) (t : List ℕ) (at v w n : ℕ) : Type 0 where
  text : List ℕ
  rest : List ℕ
  here : t ≡ text ++ rest
  some : 0 < length text
  next : n ≡ at + length text
  again : (at' : ℕ) (rest' : List ℕ) → digits_then end (text ++ rest') at' v ≡ Some (w, at' + length text)

digits_read : (end : ℕ) (t : List ℕ) (at v w n : ℕ) → digits_then end t at v ≡ Some (w, n) → DigitsRead end t at v w n
unfolding digits_then pick
digits_read end [] at v w n e = let z : ◌≡◌ {A = ℕ} 0 1 = cc in absurd (omega arith)
digits_read end (c ∷ t) at v w n e =
    ways (eqb c end) refl (is_digit c && leb more 4294967295) refl e (digits_read end t (suc at) more w n)
  where
    more : ℕ
    more = 10 * v + (c - 48)

    ways : (p : Bool) → eqb c end ≡ p → (q : Bool) → is_digit c && leb more 4294967295 ≡ q
        → pick p (Some (v, suc at)) (pick q (digits_then end t (suc at) more) None) ≡ Some (w, n)
        → (digits_then end t (suc at) more ≡ Some (w, n) → DigitsRead end t (suc at) more w n)
        → DigitsRead end (c ∷ t) at v w n
    ways true ep q eq e go =
        let value : v ≡ w = ap value_of e in
        let next : suc at ≡ n = ap next_of e in
        record {
          text = c ∷ [];
          rest = t;
          here = refl;
          some = omega arith;
          next = omega arith;
          again = λ at' rest'. rw (ep, value, add-one at') refl;
        }
    ways false ep true eq e go =
        let d = go e in
        record {
          text = c ∷ d.text;
          rest = d.rest;
          here = ap (λ xs. c ∷ xs) d.here;
          some = omega arith;
          next = omega (arith, d.next);
          again = λ at' rest'. rw (ep, eq)
              (d.again (suc at') rest' ∙ ap (λ k. Some (w, k)) (suc-add at' (length d.text) ∙ sym (add-suc at' (length d.text))));
        }
    ways false ep false eq e go = let z : ◌≡◌ {A = ℕ} 0 1 = cc in absurd (omega arith)

-- A field: its first byte is that of the text.
first_byte : (s : List ℕ) (at : ℕ) (text rest : List ℕ) → 0 < length text → drop at s ≡ text ++ rest → get_or s at 0 ≡ get_or text 0 0
first_byte s at text rest h e =
    ap (λ k. get_or s k 0) (sym (add-zero at))
    ∙ sym (get_or-drop at s 0 0)
    ∙ ap (λ xs. get_or xs 0 0) e
    ∙ get_or-append text rest 0 0 h

pub number_read : (end : ℕ) (s : List ℕ) (at w n : ℕ) → number_then s at end ≡ Some (w, n) → Reads (λ s at. number_then s at end) (λ k. Some (w, k)) s at n
unfolding number_then pick
number_read end s at w n = ways (is_digit (get_or s at 0)) refl
  where
    ways : (q : Bool) → is_digit (get_or s at 0) ≡ q → pick q (digits_then end (drop at s) at 0) None ≡ Some (w, n)
        → Reads (λ s at. number_then s at end) (λ k. Some (w, k)) s at n
    ways false g e = let z : ◌≡◌ {A = ℕ} 0 1 = cc in absurd (omega arith)
    ways true g e =
        let d = digits_read end (drop at s) at 0 w n e in
        let digit : is_digit (get_or d.text 0 0) ≡ true =
        ap is_digit (sym (first_byte s at d.text d.rest d.some d.here)) ∙ g in
        record {
          text = d.text;
          rest = d.rest;
          here = d.here;
          next = d.next;
          again = λ s' at' rest' e'.
              rw (first_byte s' at' d.text rest' d.some e', digit, e') (d.again at' rest');
        }

-- A field, and what is read behind it.
nothing : {X : Type 0} {x : X} → None ≡ Some x → ⊥
nothing e = let z : ◌≡◌ {A = ℕ} 0 1 = cc in omega arith

field_then_lem : {X : Type 0} (end : ℕ) (f : ℕ → List ℕ → ℕ → Option X) (r : ℕ → X) (s : List ℕ) (at n : ℕ)
    → ((v at₁ : ℕ) → f v s at₁ ≡ Some (r n) → Reads (f v) (λ k. Some (r k)) s at₁ n)
    → field_then (number_then s at end) (λ v at₁. f v s at₁) ≡ Some (r n)
    → Reads (λ s at. field_then (number_then s at end) (λ v at₁. f v s at₁)) (λ k. Some (r k)) s at n
field_then_lem end f r s at n rest = ways (number_then s at end) refl
  where
    ways : (x : Option (ℕ × ℕ)) → number_then s at end ≡ x → field_then x (λ v at₁. f v s at₁) ≡ Some (r n)
        → Reads (λ s at. field_then (number_then s at end) (λ v at₁. f v s at₁)) (λ k. Some (r k)) s at n
    ways None g e = absurd (nothing e)
    ways (Some (v, at₁)) g e =
        reads_then (number_read end s at v at₁ g) (rest v at₁ e) (λ s' at' e'. ap (λ x. field_then x (λ v at₁. f v s' at₁)) e')

-- The three fields of a line: wherever they stand, they are the same.
abbrev fields_to : Fields → ℕ → Fields
fields_to f k = record { thread = f.thread; a = f.a; b = f.b; next = k }

abbrev fields_moved : ℕ → Option Fields → Option Fields
fields_moved k None = None
fields_moved k (Some f) = Some (fields_to f k)

-- fields that are at hand
these_fields : (s : List ℕ) (g f : Fields) → Some g ≡ Some f
    → Reads (λ s at. Some (fields_to g at)) (λ k. Some (fields_to f k)) s g.next f.next
these_fields s g f e =
    let next : g.next ≡ f.next = cc in
    reads_nothing (λ k. Some (fields_to g k)) (λ k. Some (fields_to f k)) s g.next f.next next (λ k. ap (fields_moved k) e)

fields_read : (s : List ℕ) (at : ℕ) (f : Fields) → fields_at s at ≡ Some f → Reads fields_at (λ k. Some (fields_to f k)) s at f.next
unfolding fields_at
fields_read s at f =
    let r : ℕ → Fields = fields_to f in
    let n = f.next in
    field_then_lem 32 _ r s at n λ t at₁.
    field_then_lem 32 _ r s at₁ n λ a at₂.
    field_then_lem 10 _ r s at₂ n λ b at₃.
    these_fields s (record { thread = t; a = a; b = b; next = at₃ }) f

-- A word that stands at a position, and what is read behind it.
starts_rest : (w t : List ℕ) → starts_with w t ≡ true → (rest : List ℕ) × (t ≡ w ++ rest)
unfolding starts_with
starts_rest [] t e = (t, refl)
starts_rest (c ∷ w) [] e = absurd (true≢false (sym e))
starts_rest (c ∷ w) (x ∷ t) e =
    let same : c ≡ x = eqb-true c x (and_left (eqb c x) (starts_with w t) e) in
    let (rest, behind) = starts_rest w t (and_right (eqb c x) (starts_with w t) e) in
    (rest, cc)

starts_itself : (w rest : List ℕ) → starts_with w (w ++ rest) ≡ true
unfolding starts_with
starts_itself [] rest = refl
starts_itself (c ∷ w) rest = rw (eq-eqb c c refl) (starts_itself w rest)

word_reads : (w s : List ℕ) (at : ℕ) → text_at s at w ≡ true → Reads (λ s at. text_at s at w) (λ n. true) s at (at + length w)
unfolding text_at
word_reads w s at e =
    let (rest, here) = starts_rest w (drop at s) e in
    record { text = w; rest = rest; here = here; next = refl; again = λ s' at' rest' e'. rw e' (starts_itself w rest') }

-- whether a word stands there is decided by a text that is as long
starts_same : (w text rest rest' : List ℕ) → length w ≤ length text → starts_with w (text ++ rest) ≡ starts_with w (text ++ rest')
unfolding starts_with
starts_same [] text rest rest' h = refl
starts_same (c ∷ w) [] rest rest' h = absurd (omega arith)
starts_same (c ∷ w) (x ∷ text) rest rest' h = ap (λ q. eqb c x && q) (starts_same w text rest rest' (omega arith))

module _ {X : Type 0} (w : List ℕ) (f g : List ℕ → ℕ → X) (r : ℕ → X) (s : List ℕ) (at n : ℕ) where
  -- what is read behind the word if it stands there, else by g
  abbrev by_word : List ℕ → ℕ → X
  by_word s at = pick (text_at s at w) (f s (at + length w)) (g s at)

  behind_word : text_at s at w ≡ true → Reads f r s (at + length w) n → Reads by_word r s at n
  unfolding word_reads pick
  behind_word e p = reads_then (word_reads w s at e) p (λ s' at' e'. ap (λ q. pick q (f s' (at' + length w)) (g s' at')) e')

  other_word : text_at s at w ≡ false → at + length w ≤ n → Reads g r s at n → Reads by_word r s at n
  unfolding text_at pick
  other_word e h p =
      let short : length w ≤ length p.text = omega (arith, p.next) in
      record {
        text = p.text;
        rest = p.rest;
        here = p.here;
        next = p.next;
        again = λ s' at' rest' e'.
            let other : starts_with w (drop at' s') ≡ false =
            ap (starts_with w) e'
            ∙ starts_same w p.text rest' p.rest short
            ∙ ap (starts_with w) (sym p.here)
            ∙ e in
            rw other (p.again s' at' rest' e');
      }

  by_word_lem : at + length w ≤ n → (f s (at + length w) ≡ r n → Reads f r s (at + length w) n) → (g s at ≡ r n → Reads g r s at n)
      → by_word s at ≡ r n → Reads by_word r s at n
  unfolding pick
  by_word_lem h first second = ways (text_at s at w) refl
    where
      ways : (q : Bool) → text_at s at w ≡ q → pick q (f s (at + length w)) (g s at) ≡ r n → Reads by_word r s at n
      ways true e z = behind_word e (first z)
      ways false e z = other_word e h (second z)

-- A line: wherever it stands, its call and thread are the same.
abbrev pub line_to : ScriptLine → ℕ → ScriptLine
line_to l k = record { what = l.what; thread = l.thread; next = k }

abbrev moved : ℕ → Option ScriptLine → Option ScriptLine
moved k None = None
moved k (Some l) = Some (line_to l k)

module _ (h : Option Fields → Option ScriptLine) (none : h None ≡ None)
    (moves : (f : Fields) (k : ℕ) → h (Some (fields_to f k)) ≡ moved k (h (Some f))) where
  meant_read : (s : List ℕ) (at : ℕ) (l : ScriptLine) → h (fields_at s at) ≡ Some l
      → Reads (λ s at. h (fields_at s at)) (λ k. Some (line_to l k)) s at l.next
  meant_read s at l = ways (fields_at s at) refl
    where
      ways : (x : Option Fields) → fields_at s at ≡ x → h x ≡ Some l
          → Reads (λ s at. h (fields_at s at)) (λ k. Some (line_to l k)) s at l.next
      ways None g e = absurd (nothing (sym none ∙ e))
      ways (Some f) g e =
          let to : (k : ℕ) → h (Some (fields_to f k)) ≡ Some (line_to l k) = λ k. moves f k ∙ ap (moved k) e in
          let same : Some l ≡ Some (line_to l f.next) = sym e ∙ to f.next in
          let next : f.next ≡ l.next = cc in
          subst (λ n. Reads (λ s at. h (fields_at s at)) (λ k. Some (line_to l k)) s at n) next
          (reads_made h (λ k. Some (line_to l k)) to (fields_read s at f g))

if_moved : (q : Bool) (k : ℕ) (x : Option ScriptLine) → pick q (moved k x) None ≡ moved k (pick q x None)
unfolding pick
if_moved true k x = refl
if_moved false k x = refl

put_moves : (f : Fields) (k : ℕ) → put_line (Some (fields_to f k)) ≡ moved k (put_line (Some f))
put_moves f k = refl

take_moves : (what : What) (f : Fields) (k : ℕ) → take_line what (Some (fields_to f k)) ≡ moved k (take_line what (Some f))
take_moves what f k =
    let line : ScriptLine = record { what = what; thread = f.thread; next = f.next } in
    ap (λ x. pick (eqb f.a 0) x None) (if_moved (eqb f.b 0) k (Some line))
    ∙ if_moved (eqb f.a 0) k (pick (eqb f.b 0) (Some line) None)

number_moves : (what : ℕ → What) (f : Fields) (k : ℕ) → number_line what (Some (fields_to f k)) ≡ moved k (number_line what (Some f))
number_moves what f k = if_moved (eqb f.b 0) k (Some (record { what = what f.a; thread = f.thread; next = f.next }))

pub line_read : (s : List ℕ) (at : ℕ) (l : ScriptLine) → read_line s at ≡ Some l
    → Reads read_line (λ k. Some (line_to l k)) s at l.next
unfolding read_line
line_read s at l e =
    let long = line_long s at l e in
    let r : ℕ → Option ScriptLine = λ k. Some (line_to l k) in
    let n = l.next in
    by_word_lem (ascii "put ") _ _ r s at n (omega arith) (meant_read put_line refl put_moves s (at + 4) l)
    (by_word_lem (ascii "take ") _ _ r s at n (omega arith) (meant_read (take_line Take) refl (take_moves Take) s (at + 5) l)
    (by_word_lem (ascii "list ") _ _ r s at n (omega arith) (meant_read (take_line TakeList) refl (take_moves TakeList) s (at + 5) l)
    (by_word_lem (ascii "permit ") _ _ r s at n (omega arith) (meant_read (number_line Permit) refl (number_moves Permit) s (at + 7) l)
    (by_word_lem (ascii "turn ") _ _ r s at n (omega arith) (meant_read (number_line Turn) refl (number_moves Turn) s (at + 5) l)
    (λ e. absurd (nothing e))))))
    e

-- The line of five numbers, and the opening: wherever it stands, it says the same.
abbrev pub setup_to : Setup → ℕ → Setup
setup_to u k = record { shape = u.shape; permission = u.permission; next = k }

abbrev opening_to : ℕ → Option Setup → Option Setup
opening_to k None = None
opening_to k (Some u) = Some (setup_to u k)

-- a setup that is at hand
setup_read : (s : List ℕ) (v u : Setup) → Some v ≡ Some u
    → Reads (λ s at. Some (setup_to v at)) (λ k. Some (setup_to u k)) s v.next u.next
setup_read s v u e =
    let next : v.next ≡ u.next = cc in
    reads_nothing (λ k. Some (setup_to v k)) (λ k. Some (setup_to u k)) s v.next u.next next (λ k. ap (opening_to k) e)

shape_read : (s : List ℕ) (at : ℕ) (u : Setup) → shape_at s at ≡ Some u
    → Reads shape_at (λ k. Some (setup_to u k)) s at u.next
unfolding shape_at
shape_read s at u =
    let r : ℕ → Setup = setup_to u in
    let n = u.next in
    field_then_lem 32 _ r s at n λ d at₁.
    field_then_lem 32 _ r s at₁ n λ c at₂.
    field_then_lem 32 _ r s at₂ n λ t at₃.
    field_then_lem 32 _ r s at₃ n λ h at₄.
    field_then_lem 10 _ r s at₄ n λ p at₅.
    setup_read s (record { shape = record { depth = d; cells = c; threads = t; threshold = h }; permission = p; next = at₅ }) u

headed_read : (s : List ℕ) (at : ℕ) (u : Setup) → headed_opening s (shape_at s at) ≡ Some u
    → Reads (λ s at. headed_opening s (shape_at s at)) (λ k. Some (setup_to u k)) s at u.next
unfolding pick
headed_read s at u = ways (shape_at s at) refl
  where
    second : (v : Setup) (q : Bool) → text_at s v.next line_heading ≡ q
        → pick q (Some (setup_to v (v.next + 16))) None ≡ Some u
        → Reads (λ s at. pick (text_at s at line_heading) (Some (setup_to v (at + 16))) None) (λ k. Some (setup_to u k)) s
        v.next
        u.next
    second v true g e =
        behind_word line_heading (λ s at. Some (setup_to v at)) (λ s at. None) (λ k. Some (setup_to u k)) s v.next
        u.next
        g
        (setup_read s (setup_to v (v.next + 16)) u e)
    second v false g e = absurd (nothing e)

    ways : (x : Option Setup) → shape_at s at ≡ x → headed_opening s x ≡ Some u
        → Reads (λ s at. headed_opening s (shape_at s at)) (λ k. Some (setup_to u k)) s at u.next
    ways None g e = absurd (nothing e)
    ways (Some v) g e =
        reads_then (shape_read s at v g) (second v (text_at s v.next line_heading) refl e) (λ s' at' e'. ap (headed_opening s') e')

module _ (s : List ℕ) (at : ℕ) (u : Setup) (e : opening_at s at ≡ Some u) where
  record Headed : Type 0 where
    heading : text_at s at shape_heading ≡ true
    behind : headed_opening s (shape_at s (at + 41)) ≡ Some u

  opening_headed : Headed
  unfolding opening_at pick
  opening_headed = ways (text_at s at shape_heading) refl e
    where
      ways : (q : Bool) → text_at s at shape_heading ≡ q → pick q (headed_opening s (shape_at s (at + 41))) None ≡ Some u → Headed
      ways true g e = record { heading = g; behind = e }
      ways false g e = absurd (nothing e)

  pub opening_some : at + 41 ≤ u.next
  opening_some = omega (arith, (headed_read s (at + 41) u opening_headed.behind).next)

  pub opening_read : Reads opening_at (λ k. Some (setup_to u k)) s at u.next
  unfolding opening_at
  opening_read =
      behind_word shape_heading (λ s at. headed_opening s (shape_at s at)) (λ s at. None) (λ k. Some (setup_to u k)) s at u.next
      opening_headed.heading
      (headed_read s (at + 41) u opening_headed.behind)
