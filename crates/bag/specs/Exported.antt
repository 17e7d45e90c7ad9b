-- The calls of a history are the exported functions: what the contract of each promises of its answer and of the region is what
-- `refusal_of` and `after` say. And a run has a moment for each turn that it serves. Proved in proofs/Exported.antt.
use Rattle.std.specs.Prelude.{ℕ, ◌%◌, ◌≡◌, List, length}
use Rattle.region.specs.declared.place.Place.TheVariants.{ReadRoot, ListReadRoot}
use Rattle.region.specs.declared.record.Item.{Item}
use Rattle.region.specs.declared.shape.Shape.{Shape}
use Rattle.layout.specs.Layout.{LaidOut}
use Rattle.readable.specs.Readable.{check_answer}
use Rattle.begin.specs.Begin.{PutBegun, TakeBegun}
use Rattle.permission.specs.Permit.{PermitSet}
use Rattle.convert.specs.Convert.{Converted}
use Rattle.run.specs.Run.{run_result}
use Rattle.mound.specs.Calls.{RunDone}
use Rattle.bag.specs.Calls.{Call, layout, convert, put, take, list, permit, run, check, refusal_of, after}
use Rattle.bag.specs.History.{served_moments}

-- a call on the region b that answered r and left b'
pub record Made (b : List ℕ) (c : Call) (b' : List ℕ) (r : ℕ) : Type 0 where
  pub answer : r ≡ refusal_of b c
  pub region : b' ≡ after b c

-- `mound_layout`, `mound_convert`, `mound_put`, `mound_take`, `mound_list`, `mound_permit`, `mound_run` and `mound_check`, by their contracts in
-- crates/mound/src/lib.rt
pub record CallsAreExported : Type 0 where
  pub layout_made : (s : Shape) (permissions b b' : List ℕ) (r : ℕ) → LaidOut s permissions b b' r → Made b (layout s permissions) b' r
  -- a conversion into the region
  pub convert_made : (old b b' : List ℕ) (r : ℕ) → Converted old b b' r → Made b (convert old) b' r
  pub put_made : (b b' : List ℕ) (t : ℕ) (i : Item) (r : ℕ) → PutBegun b b' t i r → Made b (put t i) b' r
  pub take_made : (b b' : List ℕ) (t r : ℕ) → TakeBegun b b' t ReadRoot r → Made b (take t) b' r
  pub list_made : (b b' : List ℕ) (t r : ℕ) → TakeBegun b b' t ListReadRoot r → Made b (list t) b' r
  pub permit_made : (b b' : List ℕ) (t p r : ℕ) → PermitSet b b' t p r → Made b (permit t p) b' r
  -- bits 0 to 15 of a run's answer are its refusal
  pub run_made : (b b' schedule : List ℕ) (limit : ℕ) (a a' : List ℕ) (r : ℕ) → RunDone b b' schedule limit a a' r
      → Made b (run schedule limit a) b' (r % 65536)
  -- a check is lent the region to read alone
  pub check_made : (b : List ℕ) (r : ℕ) → r ≡ check_answer b → Made b check b r
  -- "The result is the turns served, refused and idle ones included": no served turn is left out
  pub turns_seen : (b schedule : List ℕ) (limit : ℕ) (a : List ℕ)
      → length (served_moments b (run schedule limit a)) ≡ (run_result b schedule limit a).turns
