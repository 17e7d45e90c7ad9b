-- The records of a history of the queue in which no list begins, as a recorder would write them (document 02, request 9): one for each deciding
-- access, begin and answer as numbers of moments, the position by the order of the deciding accesses. An answered operation has exactly one
-- deciding access (`answered_once` of demand 3), and what a take removes there is what it answers (`take_answers` of the ledger): so these are the
-- records of the answered operations, and of those that have decided and are not answered yet.
use Rattle.std.specs.Prelude.{ℕ, suc, ◌+◌, ◌≡◌, List, [], ◌∷◌, ◌++◌}
use Rattle.region.specs.Pick.{pick, upd}
use Rattle.region.specs.Record.{zero_item}
use Rattle.region.specs.declared.record.Item.{Item}
use Rattle.theory.specs.Told.{Told, nothing, begins_put, begins_take, begins_list, decides_put, decides_take, decides_list, decides_empty, answers_took, withdraws}
use Rattle.records.specs.declared.form.Recorded.{Recorded}
use Rattle.bag.specs.History.{Moment}
use Rattle.bag.specs.Operations.{answered}
use Rattle.bag.specs.Told.{tells}

-- a thread's last beginning: the moment's number, and the item of a put
pub record Beginning : Type 0 where
  pub number : ℕ
  pub item : Item

-- each thread's last beginning, once moment k has told this; lists are left out
abbrev pub begun_after : (ℕ → Beginning) → ℕ → Told → ℕ → Beginning
begun_after begun k nothing = begun
begun_after begun k (begins_put t i) = upd begun t (record { number = k; item = i })
begun_after begun k (begins_take t) = upd begun t (record { number = k; item = zero_item })
begun_after begun k (begins_list t) = begun
begun_after begun k (decides_put t) = begun
begun_after begun k (decides_take t i) = begun
begun_after begun k (decides_list t is) = begun
begun_after begun k (decides_empty t) = begun
begun_after begun k (answers_took t i) = begun
begun_after begun k (withdraws t) = begun

-- how many moments come before the first that answers thread t. An operation that has not been answered counts as answered after the last.
unfoldable pub until_answer : ℕ → List Moment → ℕ
until_answer t [] = 0
until_answer t (m ∷ ms) = pick (answered t m.event) 0 (suc (until_answer t ms))

-- the record of a deciding access of thread t: `ms` are the moments from its own on, which has the number k, and p deciding accesses came before
abbrev pub decided_record : (ℕ → Beginning) → ℕ → ℕ → List Moment → ℕ → ℕ → Item → Recorded
decided_record begun k p ms kind t i =
    record {
      kind = kind;
      thread = t;
      begin = (begun t).number;
      answer = k + until_answer t ms;
      position = suc p;
      item = i;
    }

-- what is recorded at a moment that tells this: a put is kind 1, a take 2, an empty 3
abbrev pub records_at : (ℕ → Beginning) → ℕ → ℕ → List Moment → Told → List Recorded
records_at begun k p ms nothing = []
records_at begun k p ms (begins_put t i) = []
records_at begun k p ms (begins_take t) = []
records_at begun k p ms (begins_list t) = []
records_at begun k p ms (decides_put t) = decided_record begun k p ms 1 t (begun t).item ∷ []
records_at begun k p ms (decides_take t i) = decided_record begun k p ms 2 t i ∷ []
records_at begun k p ms (decides_list t is) = []
records_at begun k p ms (decides_empty t) = decided_record begun k p ms 3 t zero_item ∷ []
records_at begun k p ms (answers_took t i) = []
records_at begun k p ms (withdraws t) = []

-- how many deciding accesses have been recorded then
abbrev pub position_after : ℕ → List Recorded → ℕ
position_after p [] = p
position_after p (r ∷ rs) = position_after (suc p) rs

-- the records of the moments from number k on, p deciding accesses having come before
unfoldable pub records_from : (ℕ → Beginning) → ℕ → ℕ → List Moment → List Recorded
unfolding until_answer
records_from begun k p [] = []
records_from begun k p (m ∷ ms) =
    records_at begun k p (m ∷ ms) (tells m.event)
    ++ records_from
    (begun_after begun k (tells m.event))
    (suc k)
    (position_after p (records_at begun k p (m ∷ ms) (tells m.event)))
    ms

-- moments are numbered from 1
abbrev pub history_records : List Moment → List Recorded
history_records ms = records_from (λ t. record { number = 0; item = zero_item }) 1 0 ms

-- no take of a list begins; calls that would begin one may be there, refused
abbrev pub NoListBegins : List Moment → Type 0
NoListBegins [] = Unit
NoListBegins (m ∷ ms) = ((t : ℕ) → tells m.event ≡ begins_list t → ⊥) × NoListBegins ms
