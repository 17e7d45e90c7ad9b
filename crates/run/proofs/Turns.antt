-- The run over plain variables: one turn, the loop's invariant and one pass of it, the refusals in their order, and the whole call.
-- Assumes nothing.
use Prim.Native.Nat.{ℕ, suc, ◌+◌, ◌-◌, ◌*◌, ◌/◌, ◌%◌, ◌≤◌, ◌<◌}
use native.Mathlib.Numerals.{add-one}
use native.Mathlib.Omega.{arith}
use mathlib.Core.Path.{◌≡◌, refl, sym, ap, subst, ◌∙◌}
use mathlib.Core.Bool.{Bool, true, false, not}
use mathlib.Core.List.{List, [], ◌∷◌}
use borrow.Author.Tests.{le-leb, lt-leb, eq-eqb, ne_eqb, not-true, not-false}
use lib.Dec.{eqb}
use lib.ListN.{length}
use Rattle.words.specs.Word.{word, set_words}
use Rattle.region.specs.Answer.{answer_code, answer_key, answer_tag, answer_words}
use Rattle.region.specs.Refusal.{done}
use Rattle.region.specs.declared.refusal.Refusal.TheVariants.{ShortAnswers, BadSchedule, Unreadable}
use Rattle.region.specs.Inner.{Within}
use Rattle.region.specs.Pick.{pick}
use Rattle.region.specs.declared.answer.Answer.{Answer}
use Rattle.region.specs.declared.frame.Frame.{Frame}
use Rattle.access.specs.Plan.{accesses_of}
use Rattle.readable.specs.Readable.{frame_in, readable}
use Rattle.readable.proofs.Laws.{readable_within}
use Rattle.run.specs.Run.{run_refusal, run_result, run_result_in, schedule_refusal, serve, serve_all, so_far, turn_at, turns_from}
use Rattle.machine.specs.Turn.{Turned, turn_answer, turn_bytes}
use Rattle.run.specs.Inner.{RunWithin, TurnWithin}
use Rattle.run.proofs.Laws.{one_access, passed}

-- One turn.
pub one_served : (f : Frame) (b b' s a a' : List ℕ) (k n t c r : ℕ) (x : Answer) → t ≡ word s (2 * k) → c ≡ word s (2 * k + 1)
    → Turned f b b' t c x → a' ≡ set_words a (3 * k) (answer_words x) → r ≡ accesses_of x
    → so_far b' a' (k + 1) (n + r) ≡ serve f (turn_at s k) (so_far b a k n)
unfolding serve
one_served f b b' s a a' k n t c r x et ec h ea er =
    let ex : x ≡ turn_answer f b (word s (2 * k)) (word s (2 * k + 1)) = h.answer ∙ (λ i. turn_answer f b (et i) (ec i)) in
    let eb : b' ≡ turn_bytes f b (word s (2 * k)) (word s (2 * k + 1)) = h.bytes ∙ (λ i. turn_bytes f b (et i) (ec i)) in
    λ i.
    so_far (eb i) ((ea ∙ ap (λ y. set_words a (3 * k) (answer_words y)) ex) i) (k + 1) (n + (er ∙ ap accesses_of ex) i)

-- The loop: serving the turns that are left gives what serving all gives.
pub record Serving (f : Frame) (limit count : ℕ) (s b₀ a₀ b a : List ℕ) (k n : ℕ) : Type 0 where
  pub all_within : RunWithin (length s) (length a₀)
  pub total : count ≡ length s / 8
  pub within : k ≤ count
  pub made : n ≤ k
  pub answers_same : length a ≡ length a₀
  pub left : serve_all f limit (turns_from s k (count - k)) (so_far b a k n) ≡ serve_all f limit (turns_from s 0 count) (so_far b₀ a₀ 0 0)

pub serve_start : (f : Frame) (limit : ℕ) (s b a : List ℕ) → RunWithin (length s) (length a)
    → Serving f limit (length s / 8) s b a b a 0 0
serve_start f limit s b a h =
    record {
      all_within = h;
      total = refl;
      within = omega arith;
      made = omega arith;
      answers_same = refl;
      left = ap (λ m. serve_all f limit (turns_from s 0 m) (so_far b a 0 0)) (omega arith);
    }

module _ {f : Frame} {limit count : ℕ} {s b₀ a₀ b a : List ℕ} {k n : ℕ} (e : Serving f limit count s b₀ a₀ b a k n) where
  pub turn_within : k < count → TurnWithin (length s) (length a) k n
  turn_within h =
      record {
        turn = omega arith;
        answer = omega arith;
        few = omega arith;
        made = e.made;
      }

  -- the next turn is served, unless the limit is reached
  next : k < count → serve_all f limit (turns_from s k (count - k)) (so_far b a k n)
      ≡ pick (eqb n limit) (so_far b a k n)
      (serve_all f limit (turns_from s (k + 1) (count - (k + 1))) (serve f (turn_at s k) (so_far b a k n)))
  unfolding serve_all turns_from
  next h =
      let m : count - k ≡ suc (count - (k + 1)) = omega arith in
      ap (λ j. serve_all f limit (turns_from s k j) (so_far b a k n)) m
      ∙ ap (λ j. pick (eqb n limit) (so_far b a k n)
      (serve_all f limit (turns_from s j (count - (k + 1))) (serve f (turn_at s k) (so_far b a k n)))) (sym (add-one k))

  pub serve_stop : k < count → n ≡ limit → so_far b a k n ≡ serve_all f limit (turns_from s 0 count) (so_far b₀ a₀ 0 0)
  unfolding pick
  serve_stop h g =
      let rest = serve_all f limit (turns_from s (k + 1) (count - (k + 1))) (serve f (turn_at s k) (so_far b a k n)) in
      ap (λ q. pick q (so_far b a k n) rest) (sym (eq-eqb n limit g)) ∙ sym (next h) ∙ e.left

  pub serve_more : {b' a' : List ℕ} {r : ℕ} → k < count → (n ≡ limit → ⊥) → length a' ≡ length a → {f₁ : Frame} → f₁ ≡ f
      → so_far b' a' (k + 1) r ≡ serve f₁ (turn_at s k) (so_far b a k n) → Serving f limit count s b₀ a₀ b' a' (k + 1) r
  unfolding pick serve
  serve_more {b'} {a'} {r} h g ea {f₁} ef er₁ =
      let er : so_far b' a' (k + 1) r ≡ serve f (turn_at s k) (so_far b a k n)
      = er₁ ∙ ap (λ y. serve y (turn_at s k) (so_far b a k n)) ef in
      let rest = serve_all f limit (turns_from s (k + 1) (count - (k + 1))) (serve f (turn_at s k) (so_far b a k n)) in
      let x = turn_answer f b (turn_at s k).thread (turn_at s k).choice in
      let more : r ≡ n + accesses_of x = ap (λ z. z.accesses) er in
      record {
        all_within = e.all_within;
        total = e.total;
        within = omega arith;
        made = omega (arith, one_access x);
        answers_same = ea ∙ e.answers_same;
        left =
            ap (serve_all f limit (turns_from s (k + 1) (count - (k + 1)))) er
            ∙ ap (λ q. pick q (so_far b a k n) rest) (sym (ne_eqb n limit g))
            ∙ sym (next h)
            ∙ e.left;
      }

  pub serve_end : count ≤ k → so_far b a count n ≡ serve_all f limit (turns_from s 0 count) (so_far b₀ a₀ 0 0)
  unfolding serve_all turns_from
  serve_end h =
      let ek : count ≡ k = omega arith in
      let z : 0 ≡ count - k = omega arith in
      ap (λ j. so_far b a j n) ek ∙ ap (λ j. serve_all f limit (turns_from s k j) (so_far b a k n)) z ∙ e.left
