-- A run of one turn is the turn by itself: its refusal is decided by the region alone, and the list of its turns has one.
-- Assumes nothing.
use Prim.Native.Nat.{ℕ, ◌/◌, ◌≤◌}
use native.Mathlib.Nat.{zero-add}
use native.Mathlib.Omega.{arith}
use mathlib.Core.Path.{◌≡◌, refl, sym, ap, ◌∙◌}
use mathlib.Core.Bool.{Bool, true, false}
use mathlib.Core.List.{List}
use borrow.Author.Tests.{le-leb, ne_eqb}
use lib.Dec.{eqb}
use lib.ListN.{length}
use Rattle.words.specs.Word.{word, set_words}
use Rattle.region.specs.Answer.{answer_words}
use Rattle.std.specs.Prelude.{Result, Ok, Err}
use Rattle.region.specs.Refusal.{Checked, granted, code_of, done, ◌unless◌otherwise◌}
use Rattle.region.specs.declared.answer.Answer.{Answer}
use Rattle.region.specs.declared.refusal.Refusal.{Refusal}
use Rattle.region.specs.declared.refusal.Refusal.TheVariants.{Unreadable}
use Rattle.region.specs.Pick.{pick}
use Rattle.region.specs.declared.answer.Answer.TheVariants.{Moved, Refused}
use Rattle.access.specs.Plan.{accesses_of}
use Rattle.readable.specs.Readable.{frame_in, readable}
use Rattle.run.specs.Run.{run_check, run_refusal, run_result, serve, serve_all, so_far, turn_at, turns_from}
use Rattle.machine.specs.Turn.{turn_answer, turn_bytes, turn_on_answer, turn_on_bytes}
use Rattle.run.specs.Theorems.{RunOfOneIsTurn}

by_refusal : {A : Type 0} (q : Bool) (x y : A) → pick (eqb (code_of (Unreadable unless q otherwise granted)) done) x y ≡ pick q x y
unfolding pick
by_refusal true x y = refl
by_refusal false x y = refl

module _ (b s : List ℕ) (limit : ℕ) (a : List ℕ) (one : length s ≡ 8) (room : 12 ≤ length a) (some : 1 ≤ limit) where
  t : ℕ
  t = word s 0

  c : ℕ
  c = word s 1

  check : run_check b s (length a) ≡ (Unreadable unless readable b otherwise granted)
  unfolding pick
  check = rw (one, le-leb 12 (length a) room) refl

  refusal : run_refusal b s (length a) ≡ code_of (Unreadable unless readable b otherwise granted)
  unfolding run_refusal pick
  refusal = rw (one, le-leb 12 (length a) room) refl

  turns : serve_all (frame_in b) limit (turns_from s 0 (length s / 8)) (so_far b a 0 0) ≡ serve (frame_in b) (turn_at s 0) (so_far b a 0 0)
  unfolding serve_all turns_from pick
  turns = rw (one, ne_eqb 0 limit (omega arith)) refl

  -- what the run makes, by the test of the region
  result : run_result b s limit a ≡ pick (readable b) (serve (frame_in b) (turn_at s 0) (so_far b a 0 0)) (so_far b a 0 0)
  unfolding run_result
  result = rw (refusal, turns) (by_refusal (readable b) (serve (frame_in b) (turn_at s 0) (so_far b a 0 0)) (so_far b a 0 0))

  region : (run_result b s limit a).region ≡ turn_on_bytes b t c
  unfolding turn_on_bytes serve pick t c
  region = ap (λ r. r.region) result ∙ go (readable b)
    where
      go : (q : Bool) → (pick q (serve (frame_in b) (turn_at s 0) (so_far b a 0 0)) (so_far b a 0 0)).region
          ≡ pick q (turn_bytes (frame_in b) b t c) b
      go true = refl
      go false = refl

  served : readable b ≡ true → run_result b s limit a
      ≡ so_far (turn_on_bytes b t c) (set_words a 0 (answer_words (turn_on_answer b t c))) 1 (accesses_of (turn_on_answer b t c))
  unfolding turn_on_answer turn_on_bytes serve pick t c
  served e =
      let x = turn_answer (frame_in b) b t c in
      result ∙ rw e (ap (so_far (turn_bytes (frame_in b) b t c) (set_words a 0 (answer_words x)) 1) (zero-add (accesses_of x)))

  unreadable : readable b ≡ false → run_check b s (length a) ≡ Err Unreadable
  unfolding pick
  unreadable e = check ∙ ap (λ q. Unreadable unless q otherwise granted) e

  refused : (r : Refusal) → readable b ≡ false → run_check b s (length a) ≡ Err r → turn_on_answer b t c ≡ Refused r
  unfolding turn_on_answer pick
  refused r e h = rw e (ap told (sym (unreadable e) ∙ h))
    where
      told : Checked → Answer
      told (Ok x) = Moved
      told (Err y) = Refused y

pub run_of_one_is_turn : RunOfOneIsTurn
unfolding t c pick
run_of_one_is_turn b s limit a one room some =
    record {
      region = region b s limit a one room some;
      accepted = λ e. refusal b s limit a one room some ∙ ap (λ q. code_of (Unreadable unless q otherwise granted)) e;
      served = served b s limit a one room some;
      refused = refused b s limit a one room some;
      unreadable = unreadable b s limit a one room some;
    }
