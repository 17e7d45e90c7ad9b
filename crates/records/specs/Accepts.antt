-- What the checker answers (document 02, request 9): "The checker accepts exactly if begin is before answer in each, of two operations of a thread
-- one is answered before the other begins, the positions are 1 to n without gap or repeat, an operation answered before another begins has the
-- smaller position, and the bag of request 2 played by position gives every answer."
use Rattle.std.specs.Prelude.{ℕ, zero, suc, Bool, not, ◌&&◌, ◌||◌, List, [], ◌∷◌, Result, Ok, Err, ltb}
use Rattle.std.proofs.Math.Dec.{eqb}
use Rattle.region.specs.Refusal.{done, number_of, ◌unless◌otherwise◌}
use Rattle.region.specs.declared.refusal.Refusal.{Refusal}
use Rattle.region.specs.declared.refusal.Refusal.TheVariants.{BadRecords}
use Rattle.region.specs.Pick.{pick}
use Rattle.region.specs.Shape.{between}
use Rattle.records.specs.Play.{plays}
use Rattle.records.specs.Recorded.{every, some, record_count, recorded_at, well_formed}
use Rattle.records.specs.declared.form.Recorded.{Recorded}

-- "begin is before answer"
abbrev pub begins_before_answer : Recorded → Bool
begins_before_answer r = ltb r.begin r.answer

-- r is answered before s begins
abbrev pub precedes : Recorded → Recorded → Bool
precedes r s = ltb r.answer s.begin

-- "of two operations of a thread one is answered before the other begins"
abbrev pub are_one_by_one : Recorded → Recorded → Bool
are_one_by_one r s = not (eqb r.thread s.thread) || precedes r s || precedes s r

-- "without .. repeat"
abbrev pub differ : Recorded → Recorded → Bool
differ r s = not (eqb r.position s.position)

-- "an operation answered before another begins has the smaller position"
abbrev pub in_real_time : Recorded → Recorded → Bool
in_real_time r s = not (precedes r s) || ltb r.position s.position

-- n records, r 0 to r (n − 1)
module _ (n : ℕ) (r : ℕ → Recorded) where
  -- of every two of them, either way round
  unfoldable pub each_two : (Recorded → Recorded → Bool) → Bool
  unfolding every
  each_two test = every n (λ i. every i (λ j. test (r i) (r j) && test (r j) (r i)))

  -- one of them claims position p
  unfoldable pub is_claimed : ℕ → Bool
  unfolding some
  is_claimed p = some n (λ i. eqb (r i).position p)

  -- "the positions are 1 to n without gap or repeat"
  unfoldable pub positions_fit : Bool
  unfolding every each_two is_claimed
  positions_fit = every n (λ i. between 1 (r i).position n) && each_two differ && every n (λ k. is_claimed (suc k))

-- which of the first n records claims position p: the last of them if several do, and 0 if none does
unfoldable pub claimant : ℕ → (ℕ → Recorded) → ℕ → ℕ
claimant zero r p = 0
claimant (suc n) r p = pick (eqb (r n).position p) n (claimant n r p)

-- m of the records f, from f k on
unfoldable pub listed : (ℕ → Recorded) → ℕ → ℕ → List Recorded
listed f k zero = []
listed f k (suc m) = f k ∷ listed f (suc k) m

-- the record that claims position k + 1, and all by their positions
abbrev pub in_place : ℕ → (ℕ → Recorded) → ℕ → Recorded
in_place n r k = r (claimant n r (suc k))

abbrev pub by_position : ℕ → (ℕ → Recorded) → List Recorded
by_position n r = listed (in_place n r) 0 n

unfoldable pub accepts : ℕ → (ℕ → Recorded) → Bool
unfolding every each_two positions_fit claimant listed plays
accepts n r =
    every n (λ i. begins_before_answer (r i))
    && each_two n r are_one_by_one
    && positions_fit n r
    && each_two n r in_real_time
    && plays [] (by_position n r)

-- the number of a no, which no refusal has
abbrev pub rejected : ℕ
rejected = 255

-- records that are not whole or not in range are refused, before any comparison; else they are accepted or not
abbrev pub records_check : List ℕ → Result Bool Refusal
records_check b = BadRecords unless well_formed b otherwise Ok (accepts (record_count b) (recorded_at b))

-- the number that tells it to a host: 0 for yes
abbrev pub verdict_code : Result Bool Refusal → ℕ
verdict_code (Ok accepted) = pick accepted done rejected
verdict_code (Err r) = number_of r

unfoldable pub records_answer : List ℕ → ℕ
unfolding well_formed accepts
records_answer b = verdict_code (records_check b)
