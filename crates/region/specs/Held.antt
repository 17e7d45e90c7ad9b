-- A queue in lent bytes, as shared memory, and what a call leaves of it.
use Rattle.std.specs.Prelude.{ℕ, ◌≡◌, List}
use Rattle.region.specs.Shared.{Shared, shared_in}
use Rattle.region.specs.declared.queue.Queue.{Queue}
use Rattle.region.specs.declared.queue.View.{View}

-- shared memory as functions, which the theory reads
abbrev pub shared : Queue → Shared
shared q = shared_in q.frame q.bytes.now

abbrev pub viewed : View → Shared
viewed v = shared_in v.frame v.bytes.now

-- the queue lies as before in the same slice, whose bytes are now b
pub record Holds (old new : Queue) (b : List ℕ) : Type 0 where
  pub same_reference : new.bytes.ghost_name ≡ old.bytes.ghost_name
  pub frame : new.frame ≡ old.frame
  pub bytes : new.bytes.now ≡ b

-- the queue lies as before in the same slice
pub record Stays (old new : Queue) : Type 0 where
  pub same_reference : new.bytes.ghost_name ≡ old.bytes.ghost_name
  pub frame : new.frame ≡ old.frame
