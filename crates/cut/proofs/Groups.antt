-- Turns served together: entered into a schedule, run, and their answers looked through. What they leave and show is what the lines one by one
-- do. Assumes nothing.
use Prim.Native.Nat.{ℕ, zero, suc, ◌+◌, ◌-◌, ◌*◌, ◌/◌, ◌%◌, ◌^◌, ◌≤◌, ◌<◌, min}
use native.Mathlib.Nat.{add-zero, zero-add}
use native.Mathlib.Numerals.{add-one}
use native.Mathlib.Omega.{arith}
use mathlib.Core.Path.{◌≡◌, refl, sym, ap, subst, ◌∙◌}
use mathlib.Core.Logic.{inl}
use mathlib.Core.Bool.{Bool, true, false, ◌&&◌, ◌||◌}
use mathlib.Core.List.{List, [], ◌∷◌, ◌++◌, map}
use borrow.Author.Tests.{eq-eqb, eqb-false, eqb-true, le-leb, ne_eqb}
use lib.Dec.{eqb}
use lib.ListN.{length, drop, get_or, take, replicate, length-replicate}
use lib.Seq.{drop-cons, get_or-take, length-take-le}
use Rattle.words.specs.Word.{set_word, set_words, word}
use Rattle.words.proofs.Laws.{length-set_word, length-set_words, word_apart, word_other, word_same}
use Rattle.region.specs.Answer.{answer_words}
use Rattle.std.specs.Prelude.{Result}
use Rattle.region.specs.Refusal.{done}
use Rattle.region.specs.declared.refusal.Refusal.{Refusal}
use Rattle.region.specs.Pick.{pick}
use Rattle.region.specs.declared.answer.Answer.{Answer}
use Rattle.region.specs.declared.frame.Frame.{Frame}
use Rattle.access.specs.Plan.{accesses_of}
use Rattle.readable.specs.Readable.{frame_in}
use Rattle.machine.specs.Turn.{turn_answer, turn_bytes}
use Rattle.run.specs.Inner.{Ran, counts_of}
use Rattle.run.specs.Run.{Served, Turn as ScheduleTurn, run_refusal, run_result, schedule_refusal, serve, serve_all, so_far, turn_at, turns_from}
use Rattle.run.specs.declared.Counts.{Counts}
use Rattle.run.proofs.Laws.{one_access}
use Rattle.script.specs.Inner.{CallMade, Ready}
use Rattle.script.specs.Script.{call_bytes, call_outcome}
use Rattle.script.specs.declared.printing.Outcome.TheVariants.{Answered}
use Rattle.script.specs.declared.reading.What.{What}
use Rattle.script.specs.declared.reading.What.TheVariants.{Permit, Put, Take, TakeList, Turn}
use Rattle.script.proofs.LineCalls.{turn_made}
use Rattle.script.proofs.Regions.{still_ready}
use Rattle.cut.specs.Shown.{is_refusal}
use Rattle.cut.specs.Inner.{Gatherable, Gathered, TurnStored, TurnsReady, TurnsShown, any_refused_at, calls_of, calls_show, is_turn, no_line, refused_at, region_after, turn_call}
use Rattle.cut.specs.declared.lines.Call.{Call}
use Rattle.cut.specs.declared.lines.Line.{Line}
use Rattle.cut.proofs.TriedOn.{or_assoc}
use Rattle.cut.proofs.TurnAnswers.{stored_refusal}

-- A turn is entered.
pub turn_stored : (s : List ℕ) (k t c : ℕ) → 8 * k + 8 ≤ length s → t < 2 ^ 32 → c < 2 ^ 32 → (s₁ : List ℕ) → s₁ ≡ set_word s (2 * k) t
    → (s₂ : List ℕ) → s₂ ≡ set_word s₁ (2 * k + 1) c → TurnStored s k t c s₂
turn_stored s k t c room ft fc s₁ e₁ s₂ e₂ =
    let all : s₂ ≡ set_word (set_word s (2 * k) t) (2 * k + 1) c = e₂ ∙ ap (λ l. set_word l (2 * k + 1) c) e₁ in
    let thread : word s₂ (2 * k) ≡ t =
    ap (λ l. word l (2 * k)) all
    ∙ word_other (set_word s (2 * k) t) (2 * k + 1) (2 * k) c (omega arith)
    ∙ word_same s (2 * k) t (omega arith) ft in
    let choice : word s₂ (2 * k + 1) ≡ c =
    ap (λ l. word l (2 * k + 1)) all
    ∙ word_same (set_word s (2 * k) t) (2 * k + 1) c (omega (arith, length-set_word s (2 * k) t)) fc in
    let kept : (j : ℕ) → j < 2 * k → word s₂ j ≡ word s j =
    λ j h.
    ap (λ l. word l j) all
    ∙ word_other (set_word s (2 * k) t) (2 * k + 1) j c (omega arith)
    ∙ word_other s (2 * k) j t (omega arith) in
    record {
      same = ap length all ∙ length-set_word (set_word s (2 * k) t) (2 * k + 1) c ∙ length-set_word s (2 * k) t;
      stored = λ i. record { thread = thread i; choice = choice i };
      others = λ j h i. record { thread = kept (2 * j) (omega arith) i; choice = kept (2 * j + 1) (omega arith) i };
    }

not_turn : (w : What) → ((x : ℕ) → w ≡ Turn x → ⊥) → is_turn w ≡ false
not_turn (Put i) n = refl
not_turn Take n = refl
not_turn TakeList n = refl
not_turn (Permit p) n = refl
not_turn (Turn c) n = absurd (n c refl)

-- The loop that enters turns: so many lines were turns, and stand in the schedule.
pub record Gathering (ls : List Line) (s₀ s : List ℕ) (k : ℕ) : Type 0 where
  pub able : Gatherable ls (length s₀)
  pub same : length s ≡ length s₀
  pub few : k ≤ 16
  pub before : k ≤ length ls
  pub each : (j : ℕ) → j < k → (get_or ls j no_line).call ≡ turn_call (turn_at s j)

module _ {ls : List Line} {s₀ s : List ℕ} {k : ℕ} (e : Gathering ls s₀ s k) where
  gathered : (k ≡ 0 → is_turn (get_or ls 0 no_line).call.what ≡ false) → Gathered ls s k
  gathered h = record { room = e.same ∙ e.able.room; few = e.few; before = e.before; each = e.each; none = h }

  pub gather_end : (most : ℕ) → most ≡ min (length ls) 16 → k ≤ most → most ≤ k → Gathered ls s most
  gather_end most em h g =
      let same : k ≡ most = omega arith in
      subst (Gathered ls s) same (gathered (λ z. absurd (omega (arith, e.able.some))))

  -- the line is not a turn
  pub gather_stops : ((x : ℕ) → (get_or ls k no_line).call.what ≡ Turn x → ⊥) → Gathered ls s k
  gather_stops n =
      gathered (λ z. ap (λ j. is_turn (get_or ls j no_line).call.what) (sym z) ∙ not_turn (get_or ls k no_line).call.what n)

  module _ (most : ℕ) (em : most ≡ min (length ls) 16) (h : k < most) where
    pub gather_more : (choice : ℕ) → (get_or ls k no_line).call.what ≡ Turn choice → (s' : List ℕ)
        → TurnStored s k (get_or ls k no_line).call.thread choice s' → Gathering ls s₀ s' (k + 1)
    gather_more choice w s' m =
        record {
          able = e.able;
          same = m.same ∙ e.same;
          few = omega arith;
          before = omega arith;
          each = λ j v. go j v (eqb j k) refl;
        }
      where
        now : (get_or ls k no_line).call ≡ turn_call (turn_at s' k)
        now = ap (λ x. record { what = x; thread = (get_or ls k no_line).call.thread }) w ∙ ap turn_call (sym m.stored)

        go : (j : ℕ) → j < k + 1 → (q : Bool) → eqb j k ≡ q → (get_or ls j no_line).call ≡ turn_call (turn_at s' j)
        go j v true q =
            let same : j ≡ k = eqb-true j k q in
            subst (λ i. (get_or ls i no_line).call ≡ turn_call (turn_at s' i)) (sym same) now
        go j v false q =
            let other : j < k = omega (arith, eqb-false j k q) in
            e.each j other ∙ ap turn_call (sym (m.others j other))

-- The loop over answers.
pub record Scanning (n : ℕ) (a : List ℕ) (count k : ℕ) : Type 0 where
  pub room : 12 * count ≤ length a
  pub within : k ≤ count
  pub left : any_refused_at n a k (count - k) ≡ any_refused_at n a 0 count

module _ {n : ℕ} {a : List ℕ} {count k : ℕ} (e : Scanning n a count k) where
  pub scan_end : count ≤ k → false ≡ any_refused_at n a 0 count
  unfolding any_refused_at
  scan_end h = let none : 0 ≡ count - k = omega arith in ap (any_refused_at n a k) none ∙ e.left

  module _ (h : k < count) where
    module _ (q : Bool) (eq : q ≡ refused_at n a k) where
      next : any_refused_at n a k (count - k) ≡ (q || any_refused_at n a (k + 1) (count - (k + 1)))
      unfolding any_refused_at
      next =
          let less : count - k ≡ suc (count - (k + 1)) = omega arith in
          ap (any_refused_at n a k) less
          ∙ ap (λ p. p || any_refused_at n a (suc k) (count - (k + 1))) (sym eq)
          ∙ ap (λ j. q || any_refused_at n a j (count - (k + 1))) (sym (add-one k))

      pub scan_found : q ≡ true → true ≡ any_refused_at n a 0 count
      scan_found g = ap (λ p. p || any_refused_at n a (k + 1) (count - (k + 1))) (sym g) ∙ sym next ∙ e.left

      pub scan_more : q ≡ false → Scanning n a count (k + 1)
      scan_more g =
          record {
            room = e.room;
            within = omega arith;
            left = ap (λ p. p || any_refused_at n a (k + 1) (count - (k + 1))) (sym g) ∙ sym next ∙ e.left;
          }

-- Turns served one after the other, k before them: the region, the answers, and the words of the answers before.
record TurnsServed (n : ℕ) (ts : List ScheduleTurn) (b a : List ℕ) (k : ℕ) (r : Served) : Type 0 where
  region : r.region ≡ region_after (map turn_call ts) b
  shown : any_refused_at n r.answers k (length ts) ≡ calls_show n (map turn_call ts) b
  before : (j : ℕ) → j < 3 * k → word r.answers j ≡ word a j

-- one turn, and then the others
module _ (n : ℕ) (f : Frame) (t : ScheduleTurn) (ts : List ScheduleTurn) (b a : List ℕ) (k : ℕ) where
  abbrev answer : Answer
  answer = turn_answer f b t.thread t.choice

  abbrev left : List ℕ
  left = turn_bytes f b t.thread t.choice

  abbrev stored : List ℕ
  stored = set_words a (3 * k) (answer_words answer)

  made : Ready f b → CallMade b left (Turn t.choice) t.thread (Answered answer)
  made h = turn_made f b left h (Turn t.choice) t.thread t.choice refl answer (record { answer = refl; bytes = refl })

  step : (limit acc : ℕ) → acc < limit
      → serve_all f limit (t ∷ ts) (so_far b a k acc) ≡ serve_all f limit ts (so_far left stored (k + 1) (acc + accesses_of answer))
  unfolding serve_all serve pick
  step limit acc h =
      ap (λ q. pick q (so_far b a k acc) (serve_all f limit ts (so_far left stored (k + 1) (acc + accesses_of answer))))
      (ne_eqb acc limit (omega arith))

  joined : Ready f b → 12 * k + 12 ≤ length a → (r : Served) → TurnsServed n ts left stored (k + 1) r → TurnsServed n (t ∷ ts) b a k r
  unfolding region_after refused_at any_refused_at calls_show
  joined h room r e =
      let m = made h in
      let q : Bool = is_refusal n (call_outcome b (Turn t.choice) t.thread) in
      record {
        region = e.region ∙ ap (region_after (map turn_call ts)) m.bytes;
        shown =
            ap (λ p. p || any_refused_at n r.answers (suc k) (length ts)) this
            ∙ ap (λ j. q || any_refused_at n r.answers j (length ts)) (sym (add-one k))
            ∙ ap (λ p. q || p) e.shown
            ∙ ap (λ y. q || calls_show n (map turn_call ts) y) m.bytes;
        before = λ j w. e.before j (omega arith) ∙ word_apart (answer_words answer) a (3 * k) j (inl w);
      }
    where
      kept : refused_at n r.answers k ≡ refused_at n stored k
      kept =
          let code : word r.answers (3 * k) ≡ word stored (3 * k) = e.before (3 * k) (omega arith) in
          let key : word r.answers (3 * k + 1) ≡ word stored (3 * k + 1) = e.before (3 * k + 1) (omega arith) in
          λ i. eqb (code i) 5 && eqb (key i) n

      this : refused_at n r.answers k ≡ is_refusal n (call_outcome b (Turn t.choice) t.thread)
      this =
          kept
          ∙ stored_refusal n a k room answer
          ∙ ap (is_refusal n) (made h).outcome

served : (n : ℕ) (f : Frame) (limit : ℕ) (ts : List ScheduleTurn) (b a : List ℕ) (k acc : ℕ) → Ready f b → acc ≤ k
    → k + length ts ≤ limit → 12 * (k + length ts) ≤ length a → TurnsServed n ts b a k (serve_all f limit ts (so_far b a k acc))
unfolding serve_all region_after any_refused_at calls_show
served n f limit [] b a k acc h most few room = record { region = refl; shown = refl; before = λ j w. refl }
served n f limit (t ∷ ts) b a k acc h most few room =
    let x : Answer = answer n f t ts b a k in
    let b' : List ℕ = left n f t ts b a k in
    let a' : List ℕ = stored n f t ts b a k in
    let r : Served = serve_all f limit ts (so_far b' a' (k + 1) (acc + accesses_of x)) in
    let again : Ready f b' = still_ready f b b' h (Turn t.choice) t.thread (Answered x) (made n f t ts b a k h) in
    let rest : TurnsServed n ts b' a' (k + 1) r =
    served n f limit ts b' a' (k + 1) (acc + accesses_of x) again (omega (arith, most, one_access x)) (omega (arith, few))
    (omega (arith, room, length-set_words (answer_words x) a (3 * k))) in
    subst (TurnsServed n (t ∷ ts) b a k) (sym (step n f t ts b a k limit acc (omega (arith, most, few))))
    (joined n f t ts b a k h (omega (arith, room)) r rest)

-- The first turns of a schedule.
word-take : (m : ℕ) (s : List ℕ) (j : ℕ) → 4 * j + 4 ≤ m → word (take m s) j ≡ word s j
unfolding word
word-take m s j h =
    rw (
      get_or-take m s (4 * j) 0 (omega arith),
      get_or-take m s (4 * j + 1) 0 (omega arith),
      get_or-take m s (4 * j + 2) 0 (omega arith),
      get_or-take m s (4 * j + 3) 0 (omega arith),
    )
    refl

turns_same : (m : ℕ) (s : List ℕ) (k n : ℕ) → 8 * (k + n) ≤ m → turns_from (take m s) k n ≡ turns_from s k n
unfolding turns_from
turns_same m s k zero h = refl
turns_same m s k (suc n) h =
    let thread : word (take m s) (2 * k) ≡ word s (2 * k) = word-take m s (2 * k) (omega arith) in
    let choice : word (take m s) (2 * k + 1) ≡ word s (2 * k + 1) = word-take m s (2 * k + 1) (omega arith) in
    let rest : turns_from (take m s) (suc k) n ≡ turns_from s (suc k) n = turns_same m s (suc k) n (omega arith) in
    λ i. record { thread = thread i; choice = choice i } ∷ rest i

turns_count : (s : List ℕ) (k n : ℕ) → length (turns_from s k n) ≡ n
unfolding turns_from
turns_count s k zero = refl
turns_count s k (suc n) = ap suc (turns_count s (suc k) n)

-- A run of them.
module _ (n : ℕ) (b s : List ℕ) (turns : ℕ) (h : TurnsReady b (length s) turns) where
  fits : 8 * turns ≤ length s
  fits = omega (arith, h.room, h.few)

  abbrev limit : ℕ
  limit = 4294967295

  abbrev first : List ℕ
  first = take (8 * turns) s

  long : length first ≡ 8 * turns
  long = length-take-le (8 * turns) s fits

  many : length first / 8 ≡ turns
  many = omega (arith, long)

  room : length {A = ℕ} (replicate 192 0) ≡ 192
  room = length-replicate {A = ℕ} 192 0

  accepted : run_refusal b first (length {A = ℕ} (replicate 192 0)) ≡ done
  unfolding run_refusal schedule_refusal pick
  accepted =
      rw (
        h.region,
        eq-eqb (length first % 8) 0 (omega (arith, long)),
        le-leb (length first / 8) 4096 (omega (arith, many, h.few)),
        le-leb (12 * (length first / 8)) (length {A = ℕ} (replicate 192 0)) (omega (arith, many, h.few, room)),
      )
      refl

  result : run_result b first limit (replicate 192 0) ≡ serve_all (frame_in b) limit (turns_from s 0 turns) (so_far b (replicate 192 0) 0 0)
  unfolding run_result pick
  result =
      ap (λ q. pick q (serve_all (frame_in b) limit (turns_from first 0 (length first / 8)) (so_far b (replicate 192 0) 0 0)) (so_far b (replicate 192 0) 0 0))
      (eq-eqb (run_refusal b first (length {A = ℕ} (replicate 192 0))) done accepted)
      ∙ ap (λ m. serve_all (frame_in b) limit (turns_from first 0 m) (so_far b (replicate 192 0) 0 0)) many
      ∙ ap (λ l. serve_all (frame_in b) limit l (so_far b (replicate 192 0) 0 0)) (turns_same (8 * turns) s 0 turns (omega arith))

  pub turns_shown : (b' a' : List ℕ) (x : Result Counts Refusal) → Ran b b' first limit (replicate 192 0) a' x
      → (q : Bool) → q ≡ any_refused_at n a' 0 turns → TurnsShown n (turns_from s 0 turns) b b' q
  turns_shown b' a' x m q eq =
      let count : length (turns_from s 0 turns) ≡ turns = turns_count s 0 turns in
      let e : so_far b' a' (counts_of x).turns (counts_of x).accesses
      ≡ serve_all (frame_in b) limit (turns_from s 0 turns) (so_far b (replicate 192 0) 0 0) = m.served ∙ result in
      let t = served n (frame_in b) limit (turns_from s 0 turns) b (replicate 192 0) 0 0 (record { region = h.region; frame = refl })
      (omega arith) (omega (arith, count, h.few)) (omega (arith, count, h.few, room)) in
      record {
        shown =
            eq
            ∙ ap (λ y. any_refused_at n y.answers 0 turns) e
            ∙ ap (any_refused_at n (serve_all (frame_in b) limit (turns_from s 0 turns) (so_far b (replicate 192 0) 0 0)).answers 0) (sym count)
            ∙ t.shown;
        bytes = ap (λ y. y.region) e ∙ t.region;
      }

-- Lines that start with turns: these, and then the rest.
module _ (ls : List Line) (s : List ℕ) where
  lines_split : (m i : ℕ) → i + m ≤ length ls → ((j : ℕ) → j < i + m → (get_or ls j no_line).call ≡ turn_call (turn_at s j))
      → calls_of (drop i ls) ≡ map turn_call (turns_from s i m) ++ calls_of (drop (i + m) ls)
  unfolding turns_from
  lines_split zero i h each = ap (λ j. calls_of (drop j ls)) (sym (add-zero i))
  lines_split (suc m) i h each =
      let same : suc i + m ≡ i + suc m = omega arith in
      ap calls_of (drop-cons ls i no_line (omega arith))
      ∙ ap (λ c. c ∷ calls_of (drop (suc i) ls)) (each i (omega arith))
      ∙ ap (λ l. turn_call (turn_at s i) ∷ l) (lines_split m (suc i) (omega arith) (λ j w. each j (omega arith)))
      ∙ ap (λ j. turn_call (turn_at s i) ∷ (map turn_call (turns_from s (suc i) m) ++ calls_of (drop j ls))) same

  pub turns_then : (turns : ℕ) → Gathered ls s turns → calls_of ls ≡ map turn_call (turns_from s 0 turns) ++ calls_of (drop turns ls)
  turns_then turns g =
      let all : 0 + turns ≡ turns = zero-add turns in
      lines_split turns 0 (omega (arith, g.before)) (λ j w. g.each j (omega arith))
      ∙ ap (λ j. map turn_call (turns_from s 0 turns) ++ calls_of (drop j ls)) all

-- Calls one after the other.
pub calls_both : (n : ℕ) (xs ys : List Call) (b : List ℕ) → calls_show n (xs ++ ys) b ≡ (calls_show n xs b || calls_show n ys (region_after xs b))
unfolding calls_show region_after
calls_both n [] ys b = refl
calls_both n (x ∷ xs) ys b =
    let now : Bool = is_refusal n (call_outcome b x.what x.thread) in
    let b' : List ℕ = call_bytes b x.what x.thread in
    ap (λ q. now || q) (calls_both n xs ys b') ∙ or_assoc now (calls_show n xs b') (calls_show n ys (region_after xs b'))

pub regions_both : (xs ys : List Call) (b : List ℕ) → region_after (xs ++ ys) b ≡ region_after ys (region_after xs b)
unfolding region_after
regions_both [] ys b = refl
regions_both (x ∷ xs) ys b = regions_both xs ys (call_bytes b x.what x.thread)

pub calls_ready : (f : Frame) (xs : List Call) (b : List ℕ) → Ready f b → Ready f (region_after xs b)
unfolding region_after
calls_ready f [] b h = h
calls_ready f (x ∷ xs) b h =
    let b' : List ℕ = call_bytes b x.what x.thread in
    calls_ready f xs b'
    (still_ready f b b' h x.what x.thread (call_outcome b x.what x.thread) (record { outcome = refl; bytes = refl }))
