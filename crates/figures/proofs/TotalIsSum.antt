-- The total is the sum of the groups: counts add up over joined lists, a turn of one of a script's threads is in the group of that thread
-- alone, and a turn of any other thread is refused and passes no test; a script that is read has an accepted setup, whose threads are the
-- region's all along. Assumes nothing.
use Prim.Native.Nat.{ℕ, zero, suc, ◌+◌, ◌≤◌, ◌<◌}
use native.Mathlib.Nat.{zero-add}
use native.Mathlib.Omega.{arith}
use mathlib.Core.Path.{◌≡◌, refl, sym, ap, subst, ◌∙◌}
use mathlib.Core.Bool.{Bool, true, false, true≢false}
use mathlib.Core.List.{List, [], ◌∷◌, ◌++◌}
use borrow.Author.Tests.{eqb-true, eqb-false, ne_eqb}
use lib.Dec.{eqb, leb}
use lib.ListN.{length}
use Rattle.std.specs.Prelude.{Option, Some, None}
use Rattle.region.specs.Refusal.{done}
use Rattle.region.specs.declared.refusal.Refusal.{Refusal}
use Rattle.region.specs.declared.refusal.Refusal.TheVariants.{BadThread}
use Rattle.region.specs.Frame.{frame_of_width}
use Rattle.region.specs.Pick.{pick}
use Rattle.region.specs.Shape.{between}
use Rattle.region.specs.Thread.{idle_thread}
use Rattle.region.specs.declared.place.Place.{Place}
use Rattle.region.specs.declared.thread.Thread.{Thread}
use Rattle.region.proofs.Picks.{pick_good}
use Rattle.region.proofs.Shapes.{and_not_left, and_not_right, between_least, between_most, is_between}
use Rattle.access.specs.Plan.{refused}
use Rattle.readable.specs.Readable.{readable, shape_in}
use Rattle.machine.specs.Turn.{turn_plan}
use Rattle.kinds.specs.Kind.{access_kind, failed_update, is_update, makes_access}
use Rattle.script.specs.Reading.{opening_at}
use Rattle.script.specs.Script.{call_bytes, laid_region, setup_refusal}
use Rattle.script.specs.declared.reading.ScriptLine.{ScriptLine}
use Rattle.script.specs.declared.reading.Setup.{Setup}
use Rattle.script.specs.declared.reading.What.{What}
use Rattle.script.proofs.Regions.{call_keeps_readable, call_keeps_shape, laid_readable, laid_shape}
use Rattle.figures.specs.Scripts.{Found, found, unfound, Script, found_then, input_most, lines_at, opening_and_lines, read_scripts, script_at, scripts_at, scripts_most}
use Rattle.figures.specs.Turns.{TurnMade, all_turns, turn_made, turns_in}
use Rattle.figures.specs.Figures.{Test, answered_empty, answered_list, answered_put, answered_take, count, counts, figures, of_thread, is_of_kind, tests}
use Rattle.figures.specs.Report.{Group, all_groups, thread_groups}
use Rattle.figures.specs.Theorems.{TotalIsSum, plus, sums}
use Rattle.figures.proofs.Every.{Every, none, and, every_turn}
use Rattle.figures.proofs.Tally.{count_group, count_none}

-- Counts of joined lists add up, and so the groups' figures are those of their turns joined.
count-append : (test : Test) (vs ws : List TurnMade) → count test (vs ++ ws) ≡ count test vs + count test ws
unfolding count
count-append test [] ws = sym (zero-add _)
count-append test (v ∷ vs) ws = omega (arith, count-append test vs ws)

counts-append : (ts : List Test) (vs ws : List TurnMade) → counts ts (vs ++ ws) ≡ plus (counts ts vs) (counts ts ws)
unfolding counts
counts-append [] vs ws = refl
counts-append (test ∷ ts) vs ws =
    λ i. count-append test vs ws i ∷ counts-append ts vs ws i

joined : List Group → List TurnMade
joined [] = []
joined (g ∷ gs) = g.turns ++ joined gs

sums-joined : (gs : List Group) → sums gs ≡ figures (joined gs)
unfolding sums joined figures
sums-joined [] = refl
sums-joined (g ∷ gs) = ap (plus (figures g.turns)) (sums-joined gs) ∙ sym (counts-append tests g.turns (joined gs))

joined-append : (test : Test) (gs hs : List Group)
    → count test (joined (gs ++ hs)) ≡ count test (joined gs) + count test (joined hs)
unfolding joined count
joined-append test [] hs = sym (zero-add _)
joined-append test (g ∷ gs) hs =
    omega (
      arith,
      count-append test g.turns (joined (gs ++ hs)),
      count-append test g.turns (joined gs),
      joined-append test gs hs,
    )

-- By a test and its outcome.
either : {P : Type 0} (q : Bool) → (q ≡ true → P) → (q ≡ false → P) → P
either true h g = h refl
either false h g = g refl

picked : {q : Bool} → q ≡ true → (n : ℕ) → pick q n 0 ≡ n
unfolding pick
picked e n = rw e refl

picked_not : {q : Bool} → q ≡ false → (n : ℕ) → pick q n 0 ≡ 0
unfolding pick
picked_not e n = rw e refl

after : (t k : ℕ) → t ≤ k → (k ≡ t → ⊥) → suc t ≤ k
after t k l n = omega arith

-- A turn is in the groups of n threads from thread t on once if it is of one of them, else not at all.
module _ (test : Test) (script : ℕ) where
  first_group : (vs : List TurnMade) (t n : ℕ)
      → count test (joined (thread_groups script vs t (suc n))) ≡ count test (of_thread t vs) + count test (joined (thread_groups script vs (suc t) n))
  unfolding joined thread_groups
  first_group vs t n = count-append test (of_thread t vs) (joined (thread_groups script vs (suc t) n))

  no_turns : (t n : ℕ) → count test (joined (thread_groups script [] t n)) ≡ 0
  unfolding joined thread_groups count
  no_turns t zero = refl
  no_turns t (suc n) = omega (arith, first_group [] t n, count_none test t, no_turns (suc t) n)

  module _ (v : TurnMade) (vs : List TurnMade) where
    in_no_group : (t n : ℕ) → ((k : ℕ) → t ≤ k → k < t + n → v.thread ≡ k → ⊥)
        → count test (joined (thread_groups script (v ∷ vs) t n)) ≡ count test (joined (thread_groups script vs t n))
    unfolding joined thread_groups
    in_no_group t zero apart = refl
    in_no_group t (suc n) apart =
        omega (
          arith,
          first_group (v ∷ vs) t n,
          first_group vs t n,
          count_group test t v vs,
          picked_not (ne_eqb v.thread t (apart t (omega arith) (omega arith))) (pick (test v.place v.plan) 1 0),
          in_no_group (suc t) n (λ k l h. apart k (omega arith) (omega arith)),
        )

    in_one_group : (t n : ℕ) → t ≤ v.thread → v.thread < t + n
        → count test (joined (thread_groups script (v ∷ vs) t n))
        ≡ pick (test v.place v.plan) 1 0 + count test (joined (thread_groups script vs t n))
    in_one_group t zero l h = absurd (omega arith)
    in_one_group t (suc n) l h =
        let all = first_group (v ∷ vs) t n in
        let others = first_group vs t n in
        let grown = count_group test t v vs in
        let one : ℕ = pick (test v.place v.plan) 1 0 in
        either (eqb v.thread t)
        (λ e. omega (
          arith,
          all,
          others,
          grown,
          picked e one,
          in_no_group (suc t) n (λ k m b s. omega (arith, eqb-true v.thread t e)),
        ))
        (λ e. omega (
          arith,
          all,
          others,
          grown,
          picked_not e one,
          in_one_group (suc t) n (after t v.thread l (eqb-false v.thread t e)) (omega arith),
        ))

-- Every test skips the turns that were refused.
record Skips (test : Test) : Type 0 where
  fails_refused : (p : Place) (t : Thread) (y : Refusal) → test p (refused t y) ≡ false

kind_skips : (k : ℕ) → Skips (is_of_kind k)
unfolding is_of_kind makes_access refused
kind_skips k = record { fails_refused = λ p t y. refl }

failed_skips : Skips failed_update
unfolding failed_update refused
failed_skips = record { fails_refused = λ p t y. and_not_left true (and_not_right (is_update (access_kind p)) refl) }

each_skips : Every Skips tests
unfolding answered_put answered_take answered_list answered_empty refused
each_skips =
    and (kind_skips 0) (and (kind_skips 1) (and (kind_skips 2) (and (kind_skips 3) (and (kind_skips 4) (and (kind_skips 5)
    (and failed_skips
    (and (record { fails_refused = λ p t y. refl })
    (and (record { fails_refused = λ p t y. refl })
    (and (record { fails_refused = λ p t y. refl })
    (and (record { fails_refused = λ p t y. refl }) none))))))))))

same_counts : {ts : List Test} (vs ws : List TurnMade) → Every Skips ts → ((test : Test) → Skips test → count test vs ≡ count test ws)
    → counts ts vs ≡ counts ts ws
unfolding counts
same_counts vs ws none f = refl
same_counts vs ws (and {x = test} h hs) f = λ i. f test h i ∷ same_counts vs ws hs f i

-- A turn on a region with n threads, of none of them, is refused.
record RefusedPast (n : ℕ) (v : TurnMade) : Type 0 where
  past : between 1 v.thread n ≡ false → v.plan ≡ refused (idle_thread 0) BadThread

groups_count : (test : Test) → Skips test → (script n : ℕ) {vs : List TurnMade} → Every (RefusedPast n) vs
    → count test vs ≡ count test (joined (thread_groups script vs 1 n))
unfolding count
groups_count test h script n none = sym (no_turns test script 1 n)
groups_count test h script n (and {x = v} {xs = vs} r rs) =
    either (between 1 v.thread n)
    (λ e. omega (
      arith,
      groups_count test h script n rs,
      in_one_group test script v vs 1 n (between_least 1 v.thread n e) (omega (arith, between_most 1 v.thread n e)),
    ))
    (λ e. omega (
      arith,
      groups_count test h script n rs,
      picked_not (ap (test v.place) (r.past e) ∙ h.fails_refused v.place (idle_thread 0) BadThread) 1,
      in_no_group test script v vs 1 n (λ k l m s. true≢false (sym (is_between 1 v.thread n (omega arith) (omega arith)) ∙ e)),
    ))

-- The regions along a script are readable and have the setup's shape.
record Laid (n : ℕ) (b : List ℕ) : Type 0 where
  reads : readable b ≡ true
  threads : (shape_in b).threads ≡ n

call_keeps : (n : ℕ) (b : List ℕ) → Laid n b → (what : What) (t : ℕ) → Laid n (call_bytes b what t)
call_keeps n b r what t =
    record {
      reads = call_keeps_readable b r.reads what t;
      threads = ap (λ s. s.threads) (call_keeps_shape b r.reads what t) ∙ r.threads;
    }

turn_refused : (n : ℕ) (b : List ℕ) → Laid n b → (t c : ℕ) → RefusedPast n (turn_made b t c)
unfolding turn_made turn_plan frame_of_width pick
turn_refused n b r t c = record { past = λ e. rw (r.threads, e) refl }

-- The scripts that are read have accepted setups.
abbrev Accepted : Script → Type 0
Accepted x = setup_refusal x.setup ≡ done

script_turns : (x : Script) → Accepted x → Every (RefusedPast x.setup.shape.threads) (turns_in x)
unfolding turns_in
script_turns x e =
    let n = x.setup.shape.threads in
    every_turn (RefusedPast n) (Laid n) (call_keeps n) (turn_refused n) x.lines (laid_region x.setup)
    (record { reads = laid_readable x.setup e; threads = ap (λ s. s.threads) (laid_shape x.setup e) })

abbrev Holds : {A : Type 0} → (A → Type 0) → Found A → Type 0
Holds P (found x next) = P x
Holds P unfound = Unit {0}

holds_then : {A B : Type 0} (P : A → Type 0) (Q : B → Type 0) (r : Found A) (f : A → ℕ → Found B) → Holds P r
    → ((x : A) (next : ℕ) → P x → Holds Q (f x next)) → Holds Q (found_then r f)
holds_then P Q (found x next) f h g = g x next h
holds_then P Q unfound f h g = tt

lines_accepted : (u : Setup) → setup_refusal u ≡ done → (r : Found (List ScriptLine))
    → Holds Accepted (found_then r λ ls next. found (record { setup = u; lines = ls }) next)
lines_accepted u e (found ls next) = e
lines_accepted u e unfound = tt

opening_accepted : (s : List ℕ) (o : Option Setup) → Holds Accepted (opening_and_lines s o)
opening_accepted s None = tt
opening_accepted s (Some u) =
    pick_good (Holds Accepted) (eqb (setup_refusal u) done)
    (λ e. lines_accepted u (eqb-true (setup_refusal u) done e) (lines_at (length s) s u.next))
    (λ e. tt)

scripts_accepted : (n : ℕ) (s : List ℕ) (at : ℕ) → Holds (Every Accepted) (scripts_at n s at)
unfolding scripts_at
scripts_accepted zero s at = pick_good (Holds (Every Accepted)) (leb (length s) at) (λ e. none) (λ e. tt)
scripts_accepted (suc n) s at =
    pick_good (Holds (Every Accepted)) (leb (length s) at) (λ e. none)
    (λ e. holds_then Accepted (Every Accepted) (script_at s at) _ (opening_accepted s (opening_at s at))
    (λ x next h. holds_then (Every Accepted) (Every Accepted) (scripts_at n s next) _ (scripts_accepted n s next)
    (λ xs last hs. and h hs)))

all_accepted : (s : List ℕ) → Holds (Every Accepted) (read_scripts s)
unfolding read_scripts
all_accepted s = pick_good (Holds (Every Accepted)) (leb (length s) input_most) (λ e. scripts_accepted scripts_most s 0) (λ e. tt)

-- So the turns of all scripts are counted as often in the groups.
all_counted : (test : Test) → Skips test → (k : ℕ) {xs : List Script} → Every Accepted xs
    → count test (all_turns xs) ≡ count test (joined (all_groups k xs))
unfolding all_turns all_groups joined
all_counted test h k none = refl
all_counted test h k (and {x = x} {xs = xs} a more) =
    omega (
      arith,
      count-append test (turns_in x) (all_turns xs),
      joined-append test (thread_groups k (turns_in x) 1 x.setup.shape.threads) (all_groups (suc k) xs),
      groups_count test h k x.setup.shape.threads (script_turns x a),
      all_counted test h (suc k) more,
    )

pub total_is_sum : TotalIsSum
unfolding figures
total_is_sum s xs end e =
    let accepted = subst (Holds (Every Accepted)) e (all_accepted s) in
    same_counts (all_turns xs) (joined (all_groups 1 xs)) each_skips (λ test h. all_counted test h 1 accepted)
    ∙ sym (sums-joined (all_groups 1 xs))
