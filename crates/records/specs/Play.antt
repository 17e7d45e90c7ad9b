-- "the bag of request 2 played by position gives every answer" (document 02, request 9): a bag as a list of items in any order. That it is the
-- ledger's bag, which counts copies, is crates/accepted.
use Rattle.std.specs.Prelude.{Bool, true, false, ◌&&◌, ◌||◌, List, [], ◌∷◌}
use Rattle.region.specs.Pick.{pick}
use Rattle.region.specs.Record.{same_item}
use Rattle.region.specs.declared.record.Item.{Item}
use Rattle.access.specs.Order.{item_le}
use Rattle.records.specs.Recorded.{is_put, is_take}
use Rattle.records.specs.declared.form.Recorded.{Recorded}

-- the bag holds i
unfoldable pub holds : List Item → Item → Bool
holds [] i = false
holds (j ∷ bag) i = same_item j i || holds bag i

-- the bag holds no item less than i
unfoldable pub none_less : List Item → Item → Bool
none_less [] i = true
none_less (j ∷ bag) i = item_le i j && none_less bag i

-- i is the least item of the bag
abbrev pub is_least : List Item → Item → Bool
is_least bag i = holds bag i && none_less bag i

-- one copy less of i
unfoldable pub without : List Item → Item → List Item
without [] i = []
without (j ∷ bag) i = pick (same_item j i) bag (j ∷ without bag i)

unfoldable pub is_empty_bag : List Item → Bool
is_empty_bag [] = true
is_empty_bag (i ∷ bag) = false

-- the bag gives the answer that is recorded: to a put always, to a take its least item, to an empty that it holds nothing
unfoldable pub bag_gives : List Item → Recorded → Bool
bag_gives bag r = pick (is_put r) true (pick (is_take r) (is_least bag r.item) (is_empty_bag bag))

-- the bag afterwards: a put adds its item, the item of a take leaves
unfoldable pub bag_after : List Item → Recorded → List Item
bag_after bag r = pick (is_put r) (r.item ∷ bag) (pick (is_take r) (without bag r.item) bag)

-- the bag gives every answer, one record after the other
unfoldable pub plays : List Item → List Recorded → Bool
unfolding bag_gives bag_after
plays bag [] = true
plays bag (r ∷ rs) = bag_gives bag r && plays (bag_after bag r) rs
