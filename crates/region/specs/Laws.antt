-- What the records of the crate have to show of their words, where the check does not find it alone: a place's number and waiting levels name it
-- again, and the words of a thread's record are read as that record.
use Rattle.std.specs.Prelude.{◌≡◌, refl}
use Rattle.region.specs.Place.{place_of, place_number, waiting_levels}
use Rattle.region.specs.Record.{counter_size}
use Rattle.region.specs.Thread.{thread_of, thread_words}
use Rattle.region.specs.declared.place.Place.{Place}
use Rattle.region.specs.declared.place.Place.TheVariants.{Idle, ReadDepth, ReadLeaf, ReadAncestor, GrowDepth, ReadTarget, InsertAtRoot, ReadParent, InsertBelow, ReadRoot, RemoveHead, MendReadNode, MendReadDepth, MendReadLeft, MendReadRight, MendSwap, MendClean, ListReadRoot, RemoveList, HandOut}
use Rattle.region.specs.declared.thread.Thread.{Thread}

pub place_again : (p : Place) → place_of (place_number p) (waiting_levels p) ≡ p
place_again Idle = refl
place_again ReadDepth = refl
place_again ReadLeaf = refl
place_again ReadAncestor = refl
place_again GrowDepth = refl
place_again ReadTarget = refl
place_again InsertAtRoot = refl
place_again ReadParent = refl
place_again InsertBelow = refl
place_again ReadRoot = refl
place_again RemoveHead = refl
place_again (MendReadNode w) = refl
place_again (MendReadDepth w) = refl
place_again (MendReadLeft w) = refl
place_again (MendReadRight w) = refl
place_again (MendSwap w) = refl
place_again (MendClean w) = refl
place_again ListReadRoot = refl
place_again RemoveList = refl
place_again HandOut = refl

pub thread_back : (t : Thread) → thread_of counter_size (thread_words counter_size t) ≡ t
thread_back t = rw (place_again t.place) refl
