-- The figures of a group of turns: each is a count of the turns that pass a test.
use Rattle.std.specs.Prelude.{ℕ, ◌+◌, ◌/◌, ◌%◌, Bool, not, ◌&&◌, List, [], ◌∷◌, eqb, take, drop}
use Rattle.region.specs.Answer.{answer_code}
use Rattle.region.specs.Pick.{pick}
use Rattle.region.specs.Place.{place_number}
use Rattle.region.specs.Thread.{is_idle}
use Rattle.region.specs.declared.answer.Answer.{Answer}
use Rattle.region.specs.declared.place.Place.{Place}
use Rattle.region.specs.declared.place.Place.TheVariants.{HandOut}
use Rattle.access.specs.declared.plan.Plan.{Plan}
use Rattle.kinds.specs.Kind.{access_kind, cas, dcas, dcss, failed_update, hands_out, makes_access, reads_depth, reads_node}
use Rattle.figures.specs.Turns.{TurnMade}

-- a test of a turn, by the place before it and its plan
abbrev pub Test : Type 0
Test = Place → Plan → Bool

-- "accesses of each kind"
unfoldable pub is_of_kind : ℕ → Test
is_of_kind k p q = makes_access q.answer && eqb (access_kind p) k

-- "inserted 2, took 3 with key and tag, empty 4"
abbrev pub is_inserted : Answer → Bool
is_inserted a = eqb (answer_code a) 2

abbrev pub is_took : Answer → Bool
is_took a = eqb (answer_code a) 3

abbrev pub is_empty : Answer → Bool
is_empty a = eqb (answer_code a) 4

abbrev pub is_hand_out : Place → Bool
is_hand_out p = eqb (place_number p) (place_number HandOut)

-- "operations answered (put, take, list, empty; a list at its last item)": with that item the thread goes idle
unfoldable pub answered_put : Test
answered_put p q = is_inserted q.answer

unfoldable pub answered_take : Test
answered_take p q = is_took q.answer && not (is_hand_out p)

unfoldable pub answered_list : Test
answered_list p q = is_took q.answer && is_hand_out p && is_idle q.thread

unfoldable pub answered_empty : Test
answered_empty p q = is_empty q.answer

-- "node depth cas dcas dcss hand failed put take list empty"
abbrev pub tests : List Test
tests =
    is_of_kind reads_node
    ∷ is_of_kind reads_depth
    ∷ is_of_kind cas
    ∷ is_of_kind dcas
    ∷ is_of_kind dcss
    ∷ is_of_kind hands_out
    ∷ failed_update
    ∷ answered_put
    ∷ answered_take
    ∷ answered_list
    ∷ answered_empty
    ∷ []

-- how many turns pass a test
unfoldable pub count : Test → List TurnMade → ℕ
count test [] = 0
count test (v ∷ vs) = pick (test v.place v.plan) 1 0 + count test vs

unfoldable pub counts : List Test → List TurnMade → List ℕ
unfolding count
counts [] vs = []
counts (test ∷ ts) vs = count test vs ∷ counts ts vs

-- "Each figure equals a count over the turns"
unfoldable pub figures : List TurnMade → List ℕ
unfolding counts
figures vs = counts tests vs

-- the turns of one thread
unfoldable pub of_thread : ℕ → List TurnMade → List TurnMade
of_thread t [] = []
of_thread t (v ∷ vs) = pick (eqb v.thread t) (v ∷ of_thread t vs) (of_thread t vs)

abbrev pub sum : List ℕ → ℕ
sum [] = 0
sum (n ∷ ns) = n + sum ns

-- of a group's figures: all accesses, which are those of the six kinds, and all operations answered, the last four
abbrev pub accesses : List ℕ → ℕ
accesses fs = sum (take 6 fs)

abbrev pub operations : List ℕ → ℕ
operations fs = sum (take 4 (drop 7 fs))

-- "accesses per operation as a whole quotient and remainder", "A group without operations prints 0 and 0"
unfoldable pub whole : ℕ → ℕ → ℕ
whole a n = pick (eqb n 0) 0 (a / n)

unfoldable pub rest : ℕ → ℕ → ℕ
rest a n = pick (eqb n 0) 0 (a % n)
