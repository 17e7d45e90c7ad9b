-- What the exported functions promise is what the calls of a history do, and a run has a moment for each turn that it serves: the contracts
-- and the calls are said by the same definitions. Assumes nothing.
use Prim.Native.Nat.{ℕ, ◌+◌, ◌/◌, ◌%◌}
use native.Mathlib.Omega.{arith}
use mathlib.Core.Path.{◌≡◌, refl, ap, ◌∙◌}
use mathlib.Core.Bool.{Bool, true, false}
use mathlib.Core.List.{List, [], ◌∷◌}
use lib.Dec.{eqb}
use lib.ListN.{length}
use Rattle.region.specs.Refusal.{done}
use Rattle.region.specs.Pick.{pick}
use Rattle.region.specs.declared.frame.Frame.{Frame}
use Rattle.readable.specs.Readable.{frame_in}
use Rattle.run.specs.Run.{Served, Turn, run_refusal, run_result, serve, serve_all, so_far, turns_from}
use Rattle.mound.proofs.RunAnswerTellsAll.{run_answer_tells_all}
use Rattle.bag.specs.Calls.{refusal_of, after, run}
use Rattle.bag.specs.Exported.{CallsAreExported}
use Rattle.bag.specs.History.{Moment, served_moments, turn_moments}

-- a moment for each turn that is served
turns_counted : (f : Frame) (limit : ℕ) (ts : List Turn) (r : Served)
    → r.turns + length (turn_moments f limit ts r) ≡ (serve_all f limit ts r).turns
unfolding turn_moments serve_all serve pick
turns_counted f limit [] r = omega arith
turns_counted f limit (t ∷ ts) r = go (eqb r.accesses limit) _ (turns_counted f limit ts (serve f t r))
  where
    go : (q : Bool) (m : Moment) → r.turns + 1 + length (turn_moments f limit ts (serve f t r)) ≡ (serve_all f limit ts (serve f t r)).turns
        → r.turns + length (pick q [] (m ∷ turn_moments f limit ts (serve f t r)))
        ≡ (pick q r (serve_all f limit ts (serve f t r))).turns
    go true m h = omega arith
    go false m h = omega (arith, h)

turns_seen : (b schedule : List ℕ) (limit : ℕ) (a : List ℕ)
    → length (served_moments b (run schedule limit a)) ≡ (run_result b schedule limit a).turns
unfolding served_moments run_result pick
turns_seen b schedule limit a = go (eqb (run_refusal b schedule (length a)) done)
  where
    ts : List Turn
    ts = turns_from schedule 0 (length schedule / 8)

    go : (q : Bool) → length (pick q (turn_moments (frame_in b) limit ts (so_far b a 0 0)) [])
        ≡ (pick q (serve_all (frame_in b) limit ts (so_far b a 0 0)) (so_far b a 0 0)).turns
    go true = omega (arith, turns_counted (frame_in b) limit ts (so_far b a 0 0))
    go false = refl

pub calls_are_exported : CallsAreExported
unfolding refusal_of after
calls_are_exported =
    record {
      layout_made = λ s ps b b' r h. record { answer = h.answer; region = h.bytes };
      convert_made = λ old b b' r h. record { answer = h.answer; region = h.bytes };
      put_made = λ b b' t i r h. record { answer = h.answer; region = h.bytes };
      take_made = λ b b' t r h. record { answer = h.answer; region = h.bytes };
      list_made = λ b b' t r h. record { answer = h.answer; region = h.bytes };
      permit_made = λ b b' t p r h. record { answer = h.answer; region = h.bytes };
      run_made = λ b b' schedule limit a a' r h.
          record { answer = ap (λ n. n % 65536) h.answer ∙ (run_answer_tells_all b schedule limit a).refusal; region = h.region };
      check_made = λ b r h. record { answer = h; region = refl };
      turns_seen = turns_seen;
    }
