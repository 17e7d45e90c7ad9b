-- Reading a script: its lines end in LF, their fields are decimal numbers parted by single spaces, and a number past 32 bits cannot be read.
-- A position counts the bytes of the whole script.
use Rattle.std.specs.Prelude.{ℕ, suc, ◌+◌, ◌-◌, ◌*◌, ◌&&◌, List, [], ◌∷◌, Option, Some, None, leb, eqb, length, get_or, drop}
use Rattle.region.specs.Pick.{pick}
use Rattle.script.specs.Text.{ascii, space, line_end, is_digit, text_at}
use Rattle.script.specs.declared.reading.Fields.{Fields}
use Rattle.script.specs.declared.reading.What.{What}
use Rattle.script.specs.declared.reading.What.TheVariants.{Put, Take, TakeList, Permit, Turn}
use Rattle.script.specs.declared.reading.ScriptLine.{ScriptLine}
use Rattle.script.specs.declared.reading.Setup.{Setup}

-- digits up to the byte that ends the field, v being the value of those before position at: the whole value and the position after that byte
unfoldable pub digits_then : ℕ → List ℕ → ℕ → ℕ → Option (ℕ × ℕ)
digits_then end [] at v = None
digits_then end (c ∷ s) at v =
    pick
    (eqb c end)
    (Some (v, suc at))
    (pick (is_digit c && leb (10 * v + (c - 48)) 4294967295) (digits_then end s (suc at) (10 * v + (c - 48))) None)

-- a field: a digit or more, then the byte that ends it. Leading zeros can be read.
unfoldable pub number_then : List ℕ → ℕ → ℕ → Option (ℕ × ℕ)
unfolding digits_then
number_then s at end = pick (is_digit (get_or s at 0)) (digits_then end (drop at s) at 0) None

-- what follows from a field's value and the position after it
abbrev pub field_then : {A : Type 0} → Option (ℕ × ℕ) → (ℕ → ℕ → Option A) → Option A
field_then None f = None
field_then (Some (v, next)) f = f v next

-- the three fields behind a line's first word: thread, a, b
unfoldable pub fields_at : List ℕ → ℕ → Option Fields
unfolding number_then
fields_at s at =
    field_then (number_then s at space) λ thread at₁.
    field_then (number_then s at₁ space) λ a at₂.
    field_then (number_then s at₂ line_end) λ b at₃. Some (record { thread = thread; a = a; b = b; next = at₃ })

-- the line of these fields that makes this call
abbrev pub line_of : What → Fields → ScriptLine
line_of what f = record { what = what; thread = f.thread; next = f.next }

-- a put's a and b are its item's key and tag
abbrev pub put_line : Option Fields → Option ScriptLine
put_line None = None
put_line (Some f) = Some (line_of (Put (record { key = f.a; tag = f.b })) f)

-- a line whose b is 0
abbrev pub line_if_zero : ℕ → ScriptLine → Option ScriptLine
line_if_zero b l = pick (eqb b 0) (Some l) None

-- a take of one item, or of the root's list: a and b are 0
abbrev pub take_line : What → Option Fields → Option ScriptLine
take_line what None = None
take_line what (Some f) = pick (eqb f.a 0) (line_if_zero f.b (line_of what f)) None

-- a turn, a being its choice, or the thread's permission, a itself; b is 0
abbrev pub number_line : (ℕ → What) → Option Fields → Option ScriptLine
number_line what None = None
number_line what (Some f) = line_if_zero f.b (line_of (what f.a) f)

-- the line that starts at a position
unfoldable pub read_line : List ℕ → ℕ → Option ScriptLine
unfolding fields_at
read_line s at =
    pick
    (text_at s at (ascii "put "))
    (put_line (fields_at s (at + 4)))
    (pick
    (text_at s at (ascii "take "))
    (take_line Take (fields_at s (at + 5)))
    (pick
    (text_at s at (ascii "list "))
    (take_line TakeList (fields_at s (at + 5)))
    (pick
    (text_at s at (ascii "permit "))
    (number_line Permit (fields_at s (at + 7)))
    (pick (text_at s at (ascii "turn ")) (number_line Turn (fields_at s (at + 5))) None))))

-- the line of five numbers under the first heading: D, C, T, H and the permission
unfoldable pub shape_at : List ℕ → ℕ → Option Setup
unfolding number_then
shape_at s at =
    field_then (number_then s at space) λ d at₁.
    field_then (number_then s at₁ space) λ c at₂.
    field_then (number_then s at₂ space) λ t at₃.
    field_then (number_then s at₃ space) λ h at₄.
    field_then (number_then s at₄ line_end) λ p at₅.
    Some
    (record { shape = record { depth = d; cells = c; threads = t; threshold = h }; permission = p; next = at₅ })

abbrev pub shape_heading : List ℕ
shape_heading = ascii "depth cells threads threshold permission\n"

abbrev pub line_heading : List ℕ
line_heading = ascii "what thread a b\n"

-- the second heading, behind the shape
abbrev pub headed_opening : List ℕ → Option Setup → Option Setup
headed_opening s None = None
headed_opening s (Some u) =
    pick
    (text_at s u.next line_heading)
    (Some (record { shape = u.shape; permission = u.permission; next = u.next + length line_heading }))
    None

-- the opening from a position on: both headings and the shape between them
unfoldable pub opening_at : List ℕ → ℕ → Option Setup
unfolding shape_at
opening_at s at =
    pick (text_at s at shape_heading) (headed_opening s (shape_at s (at + length shape_heading))) None

abbrev pub script_most : ℕ
script_most = 60000

-- the opening of a script, which has at most 60,000 bytes, else its opening cannot be read
unfoldable pub read_opening : List ℕ → Option Setup
unfolding opening_at
read_opening s = pick (leb (length s) script_most) (opening_at s 0) None
