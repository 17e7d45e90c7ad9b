-- What an account of all cells counts: every cell of a list, whatever its item, the puts that are begun and not answered, each of which has
-- one, and the cells in hand.
use Rattle.std.specs.Prelude.{ℕ, zero, suc, ◌+◌, Bool, true, ◌&&◌, ◌||◌, eqb}
use Rattle.region.specs.Pick.{pick}
use Rattle.region.specs.Place.{place_number}
use Rattle.region.specs.Shape.{between}
use Rattle.region.specs.Shared.{Shared}
use Rattle.region.specs.declared.place.Place.{Place}
use Rattle.region.specs.declared.place.Place.TheVariants.{MendReadNode, MendClean, HandOut}
use Rattle.region.specs.declared.record.Item.{Item}
use Rattle.region.specs.declared.thread.Thread.{Thread}
use Rattle.permission.specs.Withdraw.{is_put_place}
use Rattle.theory.specs.Tree.{in_list}

-- the test that every item passes, so that all cells count
abbrev pub any_item : Item → Bool
any_item i = true

-- "An operation begins with a put .. call that is not refused.": the threads among 1 to n with a put that is begun and not answered
unfoldable pub puts_among : (ℕ → Thread) → ℕ → ℕ
unfolding is_put_place
puts_among th zero = 0
puts_among th (suc n) = puts_among th n + pick (is_put_place (th (suc n)).place) 1 0

-- "own cell is the first in hand" (request 1): a list's items are in hand from its 18 on, while the thread mends with after 3 and at 19
unfoldable pub has_hand : Place → ℕ → Bool
has_hand p after =
    eqb (place_number p) (place_number HandOut)
    || (between (place_number (MendReadNode 0)) (place_number p) (place_number (MendClean 0)) && eqb after 3)

-- the cells in the hands of threads 1 to n: from the own cell on, at most l of them
unfoldable pub in_hands : Shared → (ℕ → Thread) → ℕ → ℕ → ℕ
unfolding has_hand in_list
in_hands m th l zero = 0
in_hands m th l (suc n) =
    in_hands m th l n + pick (has_hand (th (suc n)).place (th (suc n)).after) (in_list m any_item l (th (suc n)).own) 0
