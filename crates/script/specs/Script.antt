-- What a script prints, and the region that it leaves, from its bytes: `script_run`, below all
-- it is made of.
use Rattle.std.specs.Prelude.{ℕ, zero, suc, ◌*◌, List, [], ◌++◌, Option, Some, None, Ok, Err, leb, ltb, length, replicate}
use Rattle.region.specs.Refusal.{Checked, code_of, ◌unless◌otherwise◌}
use Rattle.region.specs.declared.refusal.Refusal.TheVariants.{BadShape}
use Rattle.region.specs.Pick.{pick}
use Rattle.region.specs.Shape.{region_words}
use Rattle.region.specs.declared.answer.Answer.TheVariants.{Refused}
use Rattle.region.specs.declared.place.Place.TheVariants.{ReadRoot, ListReadRoot}
use Rattle.layout.specs.Layout.{layout_check, layout_bytes}
use Rattle.permission.specs.Permit.{permit_check, permit_bytes}
use Rattle.begin.specs.Begin.{put_check, put_bytes, take_check, take_bytes}
use Rattle.machine.specs.Turn.{turn_on_answer, turn_on_bytes}
use Rattle.script.specs.Text.{ascii}
use Rattle.script.specs.Reading.{read_line, read_opening}
use Rattle.script.specs.Printing.{line_text}
use Rattle.script.specs.declared.printing.Outcome.{Outcome}
use Rattle.script.specs.declared.printing.Outcome.TheVariants.{Begun, Set, Answered, Unreadable}
use Rattle.script.specs.declared.reading.What.{What}
use Rattle.script.specs.declared.reading.What.TheVariants.{Put, Take, TakeList, Permit, Turn}
use Rattle.script.specs.declared.reading.ScriptLine.{ScriptLine}
use Rattle.script.specs.declared.reading.Setup.{Setup}

-- what is printed, and the region's bytes afterwards, none where no region was laid out
pub record Ran : Type 0 where
  pub printed : List ℕ
  pub region : List ℕ

-- the outcome of a call that is done, or its refusal
abbrev pub done_or : Outcome → Checked → Outcome
done_or o (Ok x) = o
done_or o (Err r) = Answered (Refused r)

-- a line's call on the region b by thread t, for a turn a run of one: its outcome, and the bytes afterwards
abbrev pub call_outcome : List ℕ → What → ℕ → Outcome
call_outcome b (Put i) t = done_or Begun (put_check b t i)
call_outcome b Take t = done_or Begun (take_check b t)
call_outcome b TakeList t = done_or Begun (take_check b t)
call_outcome b (Permit p) t = done_or Set (permit_check b t p)
call_outcome b (Turn c) t = Answered (turn_on_answer b t c)

abbrev pub call_bytes : List ℕ → What → ℕ → List ℕ
call_bytes b (Put i) t = put_bytes b t i
call_bytes b Take t = take_bytes b t ReadRoot
call_bytes b TakeList t = take_bytes b t ListReadRoot
call_bytes b (Permit p) t = permit_bytes b t p
call_bytes b (Turn c) t = turn_on_bytes b t c

-- text printed, and then what else is
abbrev pub after : List ℕ → Ran → Ran
after text r = record { printed = text ++ r.printed; region = r.region }

abbrev pub nothing_more : List ℕ → Ran
nothing_more b = record { printed = []; region = b }

-- line n of the script on the region b, and the rest. A line that cannot be read prints `unreadable` as its answer, thread, key and tag 0,
-- and ends the program
abbrev pub line_then : Option ScriptLine → ℕ → List ℕ → (ScriptLine → Ran) → Ran
line_then None n b rest = after (line_text n 0 Unreadable) (nothing_more b)
line_then (Some l) n b rest = after (line_text n l.thread (call_outcome b l.what l.thread)) (rest l)

-- the lines from a position on, the first of them line n, on the region b. The first argument is the most lines there can be: a
-- line that is read takes bytes, so as many lines as bytes leave none out (`NoLineLeftOut` in Theorems.antt).
unfoldable pub lines_from : ℕ → List ℕ → ℕ → ℕ → List ℕ → Ran
lines_from zero s at n b = nothing_more b
lines_from (suc most) s at n b =
    pick
    (ltb at (length s))
    (line_then (read_line s at) n b (λ l. lines_from most s l.next (suc n) (call_bytes b l.what l.thread)))
    (nothing_more b)

-- every thread has the same permission
abbrev pub permissions_of : Setup → List ℕ
permissions_of u = replicate u.shape.threads u.permission

abbrev pub region_length : Setup → ℕ
region_length u = 4 * region_words u.shape

-- a depth above 8 is refused first; the layout is given a slice of the exact length
abbrev pub setup_check : Setup → Checked
setup_check u = BadShape unless leb u.shape.depth 8 otherwise layout_check u.shape (permissions_of u) (region_length u)

unfoldable pub setup_refusal : Setup → ℕ
setup_refusal u = code_of (setup_check u)

-- the region as the layout leaves it; it sets every byte, so what was there before does not matter
unfoldable pub laid_region : Setup → List ℕ
laid_region u = layout_bytes u.shape (permissions_of u) (replicate (region_length u) 0)

-- a refused layout prints one `refused` line as line 0, thread 0, and ends
abbrev pub laid_or_refused : Checked → Ran → Ran
laid_or_refused (Ok x) ran = ran
laid_or_refused (Err r) ran = after (line_text 0 0 (Answered (Refused r))) (nothing_more [])

unfoldable pub setup_then : List ℕ → Setup → Ran
unfolding lines_from laid_region
setup_then s u = laid_or_refused (setup_check u) (lines_from (length s) s u.next 1 (laid_region u))

-- an opening that cannot be read is line 0
abbrev pub opening_then : List ℕ → Option Setup → Ran
opening_then s None = after (line_text 0 0 Unreadable) (nothing_more [])
opening_then s (Some u) = setup_then s u

abbrev pub output_heading : List ℕ
output_heading = ascii "line thread answer key tag\n"

-- the whole output; its heading is always printed
unfoldable pub script_run : List ℕ → Ran
unfolding setup_then
script_run s = after output_heading (opening_then s (read_opening s))
