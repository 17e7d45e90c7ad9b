-- What a run that is not refused has, and how great its counts can be. Assumes nothing.
use Prim.Native.Nat.{ℕ, zero, suc, ◌+◌, ◌*◌, ◌/◌, ◌%◌, ◌≤◌}
use native.Mathlib.Omega.{arith}
use mathlib.Core.Path.{◌≡◌, refl, ap}
use mathlib.Core.Bool.{Bool, true, false, ◌&&◌}
use mathlib.Core.List.{List, [], ◌∷◌}
use borrow.Author.Tests.{leb-true, eqb-true}
use lib.Dec.{leb, eqb}
use lib.ListN.{length}
use Rattle.region.specs.Refusal.{granted, code_of, done, ◌unless◌otherwise◌}
use Rattle.region.specs.declared.refusal.Refusal.TheVariants.{ShortAnswers, BadSchedule, Unreadable}
use Rattle.region.specs.Pick.{pick}
use Rattle.region.specs.declared.answer.Answer.{Answer}
use Rattle.region.specs.declared.answer.Answer.TheVariants.{Moved, Idle, Inserted, Took, Empty, Refused, Withdrawn}
use Rattle.region.specs.declared.frame.Frame.{Frame}
use Rattle.access.specs.Plan.{accesses_of}
use Rattle.readable.specs.Readable.{frame_in, readable}
use Rattle.std.specs.Prelude.{Result, Ok, Err}
use Rattle.run.specs.Run.{Served, Turn, run_refusal, run_result, schedule_check, schedule_refusal, serve, serve_all, so_far, turns_from}
use Rattle.machine.specs.Turn.{turn_answer}

pub one_access : (x : Answer) → accesses_of x ≤ 1
one_access Moved = omega arith
one_access Idle = omega arith
one_access Inserted = omega arith
one_access (Took i) = omega arith
one_access Empty = omega arith
one_access (Refused n) = omega arith
one_access Withdrawn = omega arith

-- "6, 5": with neither, the schedule and the answers are as long as serving asks; l is the answers' length
pub record Passed (s : List ℕ) (l : ℕ) : Type 0 where
  pub few : length s / 8 ≤ 4096
  pub room : 12 * (length s / 8) ≤ l

module _ (s : List ℕ) (l : ℕ) where
  conditions : (w m x : Bool) → leb (length s / 8) 4096 ≡ m → leb (12 * (length s / 8)) l ≡ x
      → code_of (BadSchedule unless w && m otherwise ShortAnswers unless x otherwise granted) ≡ done → Passed s l
  unfolding pick
  conditions true true true em ex z = record { few = leb-true (length s / 8) 4096 em; room = leb-true (12 * (length s / 8)) l ex }
  conditions true true false em ex z = absurd (omega arith)
  conditions true false x em ex z = absurd (omega arith)
  conditions false m x em ex z = absurd (omega arith)

  pub passed : schedule_refusal s l ≡ done → Passed s l
  unfolding schedule_refusal
  passed e = conditions (eqb (length s % 8) 0) (leb (length s / 8) 4096) (leb (12 * (length s / 8)) l) refl refl e

-- so do a run's, with none of 7, 6 and 5
run_passed : (b s : List ℕ) (l : ℕ) → run_refusal b s l ≡ done → Passed s l
unfolding run_refusal schedule_refusal pick
run_passed b s l = go (readable b)
  where
    go : (q : Bool) → code_of (Unreadable unless q otherwise schedule_check s l) ≡ done → Passed s l
    go true e = passed s l e
    go false e = absurd (omega arith)

-- no refusal is greater than 7
pub refusal_most : (b s : List ℕ) (l : ℕ) → run_refusal b s l ≤ 7
unfolding run_refusal pick
refusal_most b s l = go (readable b) (eqb (length s % 8) 0 && leb (length s / 8) 4096) (leb (12 * (length s / 8)) l)
  where
    go : (q w x : Bool)
        → code_of (Unreadable unless q otherwise BadSchedule unless w otherwise ShortAnswers unless x otherwise granted) ≤ 7
    go true true true = omega arith
    go true true false = omega arith
    go true false x = omega arith
    go false w x = omega arith

-- a run serves at most the turns of its list, and a turn makes at most one access
record Counted (ts : List Turn) (r r' : Served) : Type 0 where
  turns : r'.turns ≤ r.turns + length ts
  accesses : r'.accesses + r.turns ≤ r.accesses + r'.turns

counted : (f : Frame) (limit : ℕ) (ts : List Turn) (r : Served) → Counted ts r (serve_all f limit ts r)
unfolding serve_all serve pick
counted f limit [] r = record { turns = omega arith; accesses = omega arith }
counted f limit (t ∷ ts) r = go (eqb r.accesses limit) (counted f limit ts (serve f t r))
  where
    go : (q : Bool) → Counted ts (serve f t r) (serve_all f limit ts (serve f t r))
        → Counted (t ∷ ts) r (pick q r (serve_all f limit ts (serve f t r)))
    go true h = record { turns = omega arith; accesses = omega arith }
    go false h =
        let x = turn_answer f r.region t.thread t.choice in
        record { turns = omega (arith, h.turns); accesses = omega (arith, h.accesses, one_access x) }

length-turns_from : (s : List ℕ) (k n : ℕ) → length (turns_from s k n) ≡ n
unfolding turns_from
length-turns_from s k zero = refl
length-turns_from s k (suc n) = ap suc (length-turns_from s (suc k) n)

-- "over 4,096" is refused, so no count is greater
pub record CountsMost (r : Served) : Type 0 where
  pub turns : r.turns ≤ 4096
  pub accesses : r.accesses ≤ r.turns

module _ (b s : List ℕ) (limit : ℕ) (a : List ℕ) where
  pub counts_most : CountsMost (run_result b s limit a)
  unfolding run_result pick
  counts_most = go (eqb (run_refusal b s (length a)) done) refl
    where
      go : (q : Bool) → eqb (run_refusal b s (length a)) done ≡ q
          → CountsMost (pick q (serve_all (frame_in b) limit (turns_from s 0 (length s / 8)) (so_far b a 0 0)) (so_far b a 0 0))
      go true e =
          let h = counted (frame_in b) limit (turns_from s 0 (length s / 8)) (so_far b a 0 0) in
          let few = (run_passed b s (length a) (eqb-true (run_refusal b s (length a)) done e)).few in
          record {
            turns = omega (arith, h.turns, length-turns_from s 0 (length s / 8), few);
            accesses = omega (arith, h.accesses);
          }
      go false e = record { turns = omega arith; accesses = omega arith }
