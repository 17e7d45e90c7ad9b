-- Recorded operations in the words of demand 3: each one begins, decides and is answered before the next, and the ledger of
-- crates/theory/specs/Ledger.antt follows.
use Rattle.std.specs.Prelude.{List, [], ◌∷◌, ◌++◌}
use Rattle.region.specs.Pick.{pick}
use Rattle.theory.specs.Ledger.{Follows, Ledger}
use Rattle.theory.specs.Told.{Told, begins_put, begins_take, decides_empty, decides_put, decides_take, answers_took}
use Rattle.records.specs.Recorded.{is_put, is_take}
use Rattle.records.specs.declared.form.Recorded.{Recorded}

-- what the ledger is told of an operation: a put, a take with its item, or a take that finds the bag empty
unfoldable pub told_of : Recorded → List Told
told_of r =
    pick
    (is_put r)
    (begins_put r.thread r.item ∷ decides_put r.thread ∷ [])
    (pick
    (is_take r)
    (begins_take r.thread ∷ decides_take r.thread r.item ∷ answers_took r.thread r.item ∷ [])
    (begins_take r.thread ∷ decides_empty r.thread ∷ []))

unfoldable pub all_told : List Recorded → List Told
unfolding told_of
all_told [] = []
all_told (r ∷ rs) = told_of r ++ all_told rs

-- the ledger follows all of these, one after the other
abbrev pub FollowsAll : Ledger → List Told → Type 0
FollowsAll l [] = Unit
FollowsAll l (x ∷ xs) = (l' : Ledger) × Follows x l l' × FollowsAll l' xs
