-- Reading the opening and a line: each way out of the functions, over plain variables; and a line that can be read takes ten
-- bytes or more. Assumes nothing.
use Prim.Native.Nat.{ℕ, ◌+◌, ◌≤◌}
use native.Mathlib.Omega.{arith}
use mathlib.Core.Path.{◌≡◌, refl, ap}
use mathlib.Core.Bool.{Bool, true, false}
use mathlib.Core.List.{List}
use lib.Dec.{eqb}
use Rattle.std.specs.Prelude.{Option, Some, None}
use Rattle.region.specs.Pick.{pick}
use Rattle.region.proofs.Picks.{pick_good}
use Rattle.script.specs.Text.{ascii, text_at}
use Rattle.script.specs.Reading.{field_then, fields_at, headed_opening, line_heading, number_line, number_then, opening_at, put_line, read_line, shape_at, shape_heading, take_line}
use Rattle.script.specs.declared.reading.Fields.{Fields}
use Rattle.script.specs.declared.reading.What.{What}
use Rattle.script.specs.declared.reading.What.TheVariants.{Put, Take, TakeList, Permit, Turn}
use Rattle.script.specs.declared.reading.ScriptLine.{ScriptLine}
use Rattle.script.specs.declared.reading.Setup.{Setup}
use Rattle.script.proofs.Decimals.{field_next, line_ends, space_ends}

-- A field that was read.
record FieldRead {A : Type 0} (r : Option (ℕ × ℕ)) (f : ℕ → ℕ → Option A) (x : A) : Type 0 where
  value : ℕ
  after : ℕ
  read : r ≡ Some (value, after)
  rest : f value after ≡ Some x

nothing : {A : Type 0} {x : A} → None ≡ Some x → ⊥
nothing e = let z : ◌≡◌ {A = ℕ} 0 1 = cc in omega arith

field_read : {A : Type 0} (r : Option (ℕ × ℕ)) (x : A) (f : ℕ → ℕ → Option A) → field_then r f ≡ Some x → FieldRead r f x
field_read None x f e = absurd (nothing e)
field_read (Some (v, n)) x f e = record { value = v; after = n; read = refl; rest = e }

-- A line that can be read takes ten bytes or more.
fields_next : (s : List ℕ) (at : ℕ) (f : Fields) → fields_at s at ≡ Some f → at + 6 ≤ f.next
unfolding fields_at
fields_next s at f e =
    let r₁ = field_read (number_then s at 32) f _ e in
    let r₂ = field_read (number_then s r₁.after 32) f _ r₁.rest in
    let r₃ = field_read (number_then s r₂.after 10) f _ r₂.rest in
    let last : r₃.after ≡ f.next = ap next_of r₃.rest in
    omega (
      arith,
      last,
      field_next s at 32 r₁.value r₁.after space_ends r₁.read,
      field_next s r₁.after 32 r₂.value r₂.after space_ends r₂.read,
      field_next s r₂.after 10 r₃.value r₃.after line_ends r₃.read,
    )
  where
    next_of : Option Fields → ℕ
    next_of None = 0
    next_of (Some g) = g.next

-- the fields of a line that was read
record OfFields (o : Option Fields) (l : ScriptLine) : Type 0 where
  fields : Fields
  read : o ≡ Some fields
  next : fields.next ≡ l.next

fields_of : (q : Bool) (what : What) (f : Fields) (l : ScriptLine)
    → pick q (Some (record { what = what; thread = f.thread; next = f.next })) None ≡ Some l → OfFields (Some f) l
unfolding pick
fields_of true what f l e =
    let last : f.next ≡ l.next = cc in
    record { fields = f; read = refl; next = last }
fields_of false what f l e = absurd (nothing e)

put_fields : (o : Option Fields) (l : ScriptLine) → put_line o ≡ Some l → OfFields o l
unfolding pick
put_fields None l e = absurd (nothing e)
put_fields (Some f) l e = fields_of true (Put (record { key = f.a; tag = f.b })) f l e

take_fields : (what : What) (o : Option Fields) (l : ScriptLine) → take_line what o ≡ Some l → OfFields o l
take_fields what None l e = absurd (nothing e)
take_fields what (Some f) l e =
    pick_good (λ x. x ≡ Some l → OfFields (Some f) l) (eqb f.a 0) (λ g. fields_of (eqb f.b 0) what f l)
    (λ g h. absurd (nothing h)) e

number_fields : (what : ℕ → What) (o : Option Fields) (l : ScriptLine) → number_line what o ≡ Some l → OfFields o l
number_fields what None l e = absurd (nothing e)
number_fields what (Some f) l e = fields_of (eqb f.b 0) (what f.a) f l e

-- it is long enough, whichever its first word is
module _ (s : List ℕ) (at : ℕ) (l : ScriptLine) where
  abbrev Long : Option ScriptLine → Type 0
  Long x = x ≡ Some l → at + 10 ≤ l.next

  -- behind a word of n bytes, four or more
  behind : (n : ℕ) → 4 ≤ n → OfFields (fields_at s (at + n)) l → at + 10 ≤ l.next
  behind n h o = omega (arith, fields_next s (at + n) o.fields o.read, o.next)

  pub line_long : read_line s at ≡ Some l → at + 10 ≤ l.next
  unfolding read_line
  line_long =
      pick_good Long (text_at s at (ascii "put ")) (λ g e. behind 4 (omega arith) (put_fields _ l e))
      (λ g. pick_good Long (text_at s at (ascii "take ")) (λ g e. behind 5 (omega arith) (take_fields Take _ l e))
      (λ g. pick_good Long (text_at s at (ascii "list ")) (λ g e. behind 5 (omega arith) (take_fields TakeList _ l e))
      (λ g. pick_good Long (text_at s at (ascii "permit ")) (λ g e. behind 7 (omega arith) (number_fields Permit _ l e))
      (λ g. pick_good Long (text_at s at (ascii "turn ")) (λ g e. behind 5 (omega arith) (number_fields Turn _ l e))
      (λ g e. absurd (nothing e))))))

-- So does an opening.
shape_long : (s : List ℕ) (at : ℕ) (u : Setup) → shape_at s at ≡ Some u → at ≤ u.next
unfolding shape_at
shape_long s at u e =
    let r₁ = field_read (number_then s at 32) u _ e in
    let r₂ = field_read (number_then s r₁.after 32) u _ r₁.rest in
    let r₃ = field_read (number_then s r₂.after 32) u _ r₂.rest in
    let r₄ = field_read (number_then s r₃.after 32) u _ r₃.rest in
    let r₅ = field_read (number_then s r₄.after 10) u _ r₄.rest in
    let last : r₅.after ≡ u.next = ap next_of r₅.rest in
    omega (
      arith,
      last,
      field_next s at 32 r₁.value r₁.after space_ends r₁.read,
      field_next s r₁.after 32 r₂.value r₂.after space_ends r₂.read,
      field_next s r₂.after 32 r₃.value r₃.after space_ends r₃.read,
      field_next s r₃.after 32 r₄.value r₄.after space_ends r₄.read,
      field_next s r₄.after 10 r₅.value r₅.after line_ends r₅.read,
    )
  where
    next_of : Option Setup → ℕ
    next_of None = 0
    next_of (Some v) = v.next

headed_long : (s : List ℕ) (at : ℕ) (u v : Setup) (q : Bool) → at ≤ v.next
    → pick q (Some (record { shape = v.shape; permission = v.permission; next = v.next + 16 })) None ≡ Some u
    → at ≤ u.next
unfolding pick
headed_long s at u v true h e = let last : v.next + 16 ≡ u.next = cc in omega arith
headed_long s at u v false h e = absurd (nothing e)

pub opening_long : (s : List ℕ) (at : ℕ) (u : Setup) → opening_at s at ≡ Some u → at ≤ u.next
unfolding opening_at pick
opening_long s at u e = ways (text_at s at shape_heading) (shape_at s (at + 41)) refl e
  where
    ways : (q : Bool) (r : Option Setup) → shape_at s (at + 41) ≡ r → pick q (headed_opening s r) None ≡ Some u → at ≤ u.next
    ways false r g e = absurd (nothing e)
    ways true None g e = absurd (nothing e)
    ways true (Some v) g e =
        headed_long s at u v (text_at s v.next line_heading) (omega (arith, shape_long s (at + 41) v g)) e
