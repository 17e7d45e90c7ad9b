-- What only the contracts of inner functions and the proofs need. A reader of the result may skip this file.
use Rattle.std.specs.Prelude.{ℕ, ◌+◌, ◌≤◌, ◌≡◌, Bool, true, false, List, ◌++◌, Option, Some, None, MatchBool, MatchOption, eqb, length, drop}
use Rattle.region.specs.Refusal.{Checked, done}
use Rattle.region.specs.Pick.{pick}
use Rattle.region.specs.declared.frame.Frame.{Frame}
use Rattle.readable.specs.Readable.{frame_in, readable}
use Rattle.script.specs.Promises.{lines_room}
use Rattle.script.specs.Reading.{number_then, script_most}
use Rattle.script.specs.Text.{text_at}
use Rattle.script.specs.declared.text.Text.{Text}
use Rattle.script.specs.declared.reader.Reader.{Reader}
use Rattle.script.specs.Script.{call_bytes, call_outcome, laid_region, lines_from, region_length, setup_check, setup_refusal, setup_then}
use Rattle.script.specs.declared.printing.Outcome.{Outcome}
use Rattle.script.specs.declared.reading.Setup.{Setup}
use Rattle.script.specs.declared.reading.What.{What}
use Rattle.std.proofs.lemmas.List.Edits.{sets}

-- the slice l' is l with xs from position a on, and k is the position after xs
pub record Wrote (l l' : List ℕ) (a k : ℕ) (xs : List ℕ) : Type 0 where
  pub next : k ≡ a + length xs
  pub within : k ≤ length l
  pub bytes : l' ≡ sets l a xs

-- the text has xs more, in the same slice
pub record Appends (old new : Text) (xs : List ℕ) : Type 0 where
  pub same_reference : new.out.ghost_name ≡ old.out.ghost_name
  pub wrote : Wrote old.out.now new.out.now old.len new.len xs

-- a reader has taken the text that stood there, or none stood there
pub record Ate (old new : Reader) (text : List ℕ) (r : Bool) : Type 0 where
  pub src : new.src ≡ old.src
  pub found :
      MatchBool r ((text_at old.src.now old.at text ≡ true) × (new.at ≡ old.at + length text))
      ((text_at old.src.now old.at text ≡ false) × (new.at ≡ old.at))

-- a reader has taken a number and the byte that ends it, or none stood there
pub record NumberRead (old new : Reader) (end : ℕ) (r : Option ℕ) : Type 0 where
  pub src : new.src ≡ old.src
  pub found : MatchOption r (number_then old.src.now old.at end ≡ None) (λ v. number_then old.src.now old.at end ≡ Some (v, new.at))

-- the region b is readable, and the frame f is its own
pub record Ready (f : Frame) (b : List ℕ) : Type 0 where
  pub region : readable b ≡ true
  pub frame : f ≡ frame_in b

-- lines can be run on the region b, and there is room for what they print
pub record LinesReady (f : Frame) (s b : List ℕ) (t : Text) : Type 0 where
  pub short : length s ≤ script_most
  pub ready : Ready f b
  pub room : t.len + lines_room ≤ length t.out.now

-- what a line's call answers and leaves
pub record CallMade (b b' : List ℕ) (what : What) (thread : ℕ) (r : Outcome) : Type 0 where
  pub outcome : r ≡ call_outcome b what thread
  pub bytes : b' ≡ call_bytes b what thread

-- what the lines from a position on print and leave
pub record LinesRan (s : List ℕ) (at : ℕ) (b b' : List ℕ) (old new : Text) : Type 0 where
  pub output : Appends old new (lines_from (length s) s at 1 b).printed
  pub region : b' ≡ (lines_from (length s) s at 1 b).region

-- what setting up at the start of the lent region g answers and leaves
pub record SetUp (g g' : List ℕ) (u : Setup) (r : Checked) : Type 0 where
  pub answer : r ≡ setup_check u
  pub bytes : g' ≡ pick (eqb (setup_refusal u) done) (laid_region u ++ drop (region_length u) g) g

-- what a script with this setup prints and leaves
pub record SetupRan (s : List ℕ) (u : Setup) (g g' : List ℕ) (old new : Text) : Type 0 where
  pub output : Appends old new (setup_then s u).printed
  pub region : g' ≡ (setup_then s u).region ++ drop (length (setup_then s u).region) g
