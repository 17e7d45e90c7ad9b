-- The statements of specs/Theorems.antt. Assumes nothing.
use Prim.Native.Nat.{ℕ, ◌+◌, ◌*◌, ◌/◌}
use mathlib.Core.Path.{◌≡◌, refl, sym, ap, subst, subst₂, ◌∙◌}
use mathlib.Core.Bool.{Bool, true, false}
use mathlib.Core.List.{List, [], ◌∷◌, ◌++◌, append_assoc}
use lib.Dec.{eqb}
use lib.ListN.{length}
use Rattle.words.specs.Word.{set_words}
use Rattle.region.specs.Answer.{answer_words}
use Rattle.region.specs.Refusal.{done}
use Rattle.region.specs.declared.refusal.Refusal.TheVariants.{CounterSpent}
use Rattle.region.specs.Frame.{frame_of_width}
use Rattle.region.specs.Pick.{pick}
use Rattle.region.specs.Shape.{node_count}
use Rattle.region.specs.Shared.{shared_in, thread_in}
use Rattle.region.specs.declared.answer.Answer.TheVariants.{Refused}
use Rattle.region.specs.declared.frame.Frame.{Frame}
use Rattle.region.specs.declared.shape.Shape.{Shape}
use Rattle.access.specs.Plan.{accesses_of, refused}
use Rattle.region.specs.Record.{same_item}
use Rattle.readable.specs.Readable.{check_answer, frame_in, shape_in}
use Rattle.machine.specs.Turn.{carried_out, turn_answer, turn_bytes, turn_plan}
use Rattle.permission.specs.Permit.{permit_bytes, permit_refusal}
use Rattle.begin.specs.Begin.{put_bytes, put_refusal, take_bytes, take_refusal}
use Rattle.theory.specs.Tree.{in_nodes}
use Rattle.bag.specs.Calls.{after, refusal_of, run as run_call}
use Rattle.bag.specs.History.{Moment, turned as served_turn, served_moments, served_on, turn_moments}
use Rattle.bag.specs.Demand3.{in_tree}
use Rattle.run.specs.Run.{Served, Turn, run_refusal, run_result, schedule_served, serve, serve_all, so_far, turns_from}
use Rattle.convert.specs.Convert.{converted_bytes}
use Rattle.convert.proofs.Loops.{accepted_readable}
use Rattle.convert.proofs.NoValueLost.{no_value_lost}
use Rattle.converted.specs.Forms.{capped, new_form, nodes_stored, old_counters_fit, old_form}
use Rattle.converted.specs.Replies.{QueueCall, put, take, list, permit, run, check, Reply, turned, answered, ran, accepted_by, after_by, all_replies, refusal_by, replies, serve_all_by, serve_by, served_by, turns_of, turns_replied}
use Rattle.converted.specs.Theorems.{AlikeUntilSpent, both_end, alike, spent, AnswersAsBefore, NewFormIsExported, TreeHoldsTheSame, call_of, turns_seen}
use Rattle.converted.proofs.Alike.{Alike, new_frame, old_frame, same_plan, turn_alike}
use Rattle.converted.proofs.Calls.{accepted_alike, after_alike, refusal_same}

either : (P : Bool → Type 0) → P true → P false → (q : Bool) → P q
either P t f true = t
either P t f false = f

-- A run on both: the regions are alike, and answers and totals the same.
record Same (s : Shape) (r r' : Served) : Type 0 where
  regions : Alike s r.region r'.region
  answers : r'.answers ≡ r.answers
  turns : r'.turns ≡ r.turns
  accesses : r'.accesses ≡ r.accesses

module _ (s : Shape) (limit : ℕ) where
  abbrev f : Frame
  f = old_frame s

  abbrev f' : Frame
  f' = new_frame s

  -- one turn: the old plan is the new one, or it is capped
  module _ (t : Turn) (r r' : Served) (m : Same s r r') where
    abbrev fits : Bool
    fits = old_counters_fit (nodes_stored (turn_plan f r.region t.thread t.choice).effect)

    not_capped : fits ≡ true → old_form.plan f r.region t.thread t.choice ≡ turn_plan f r.region t.thread t.choice
    unfolding capped pick
    not_capped e = rw e refl

    capped_answer : fits ≡ false → (old_form.plan f r.region t.thread t.choice).answer ≡ Refused CounterSpent
    unfolding capped pick refused
    capped_answer e = rw e refl

    same_answer : fits ≡ true
        → (new_form.plan f' r'.region t.thread t.choice).answer ≡ (old_form.plan f r.region t.thread t.choice).answer
    same_answer e = ap (λ p. p.answer) (same_plan m.regions t.thread t.choice ∙ sym (not_capped e))

    serve_same : fits ≡ true → Same s (serve_by old_form f t r) (serve_by new_form f' t r')
    unfolding serve_by
    serve_same e =
        record {
          regions =
              subst (λ p. Alike s (carried_out f r.region t.thread p) (carried_out f' r'.region t.thread (turn_plan f' r'.region t.thread t.choice)))
              (sym (not_capped e)) (turn_alike m.regions t.thread t.choice e);
          answers = λ i. set_words (m.answers i) (3 * m.turns i) (answer_words (same_answer e i));
          turns = ap (λ n. n + 1) m.turns;
          accesses = λ i. m.accesses i + accesses_of (same_answer e i);
        }

    -- alike, or the old machine is refused 11 here
    one_turn : (xs ys : List Reply) → (fits ≡ true → AlikeUntilSpent xs ys)
        → AlikeUntilSpent (turned (old_form.plan f r.region t.thread t.choice).answer ∷ xs)
        (turned (new_form.plan f' r'.region t.thread t.choice).answer ∷ ys)
    one_turn xs ys h = go fits refl
      where
        go : (q : Bool) → fits ≡ q
            → AlikeUntilSpent (turned (old_form.plan f r.region t.thread t.choice).answer ∷ xs)
            (turned (new_form.plan f' r'.region t.thread t.choice).answer ∷ ys)
        go true e =
            subst (λ x. AlikeUntilSpent (turned (old_form.plan f r.region t.thread t.choice).answer ∷ xs) (turned x ∷ ys))
            (sym (same_answer e)) (alike (turned (old_form.plan f r.region t.thread t.choice).answer) (h e))
        go false e =
            subst (λ x. AlikeUntilSpent (turned x ∷ xs) (turned (new_form.plan f' r'.region t.thread t.choice).answer ∷ ys))
            (sym (capped_answer e)) (spent xs _)

  -- all turns, and whatever is replied behind them
  turns_until : (ts : List Turn) (r r' : Served) → Same s r r' → (xs ys : List Reply)
      → (Same s (serve_all_by old_form f limit ts r) (serve_all_by new_form f' limit ts r') → AlikeUntilSpent xs ys)
      → AlikeUntilSpent (turns_replied old_form f limit ts r ++ xs) (turns_replied new_form f' limit ts r' ++ ys)
  unfolding turns_replied serve_all_by pick
  turns_until [] r r' m xs ys k = k m
  turns_until (t ∷ ts) r r' m xs ys k =
      let o = serve_by old_form f t r in
      let n = serve_by new_form f' t r' in
      let x = turned (old_form.plan f r.region t.thread t.choice).answer in
      let y = turned (new_form.plan f' r'.region t.thread t.choice).answer in
      let G : Bool → Bool → Type 0 = λ q q'.
      (Same s (pick q r (serve_all_by old_form f limit ts o)) (pick q' r' (serve_all_by new_form f' limit ts n)) → AlikeUntilSpent xs ys)
      → AlikeUntilSpent (pick q [] (x ∷ turns_replied old_form f limit ts o) ++ xs) (pick q' [] (y ∷ turns_replied new_form f' limit ts n) ++ ys) in
      subst (G (eqb r.accesses limit)) (ap (λ a. eqb a limit) (sym m.accesses))
      (either (λ q. G q q) (λ h. h m)
      (λ h. one_turn t r r' m (turns_replied old_form f limit ts o ++ xs) (turns_replied new_form f' limit ts n ++ ys)
      (λ e. turns_until ts o n (serve_same t r r' m e) xs ys h))
      (eqb r.accesses limit))
      k

-- a run, refused or not, and whatever is replied behind it
module _ {s : Shape} {b b' : List ℕ} (a : Alike s b b') (schedule : List ℕ) (limit : ℕ) (answers : List ℕ) where
  abbrev c : QueueCall
  c = run schedule limit answers

  abbrev ts : List Turn
  ts = turns_from schedule 0 (length schedule / 8)

  abbrev start : List ℕ → Served
  start l = so_far l answers 0 0

  first : Same s (start b) (start b')
  first = record { regions = a; answers = refl; turns = refl; accesses = refl }

  run_until : (xs ys : List Reply)
      → (Same s (served_by old_form b schedule limit answers) (served_by new_form b' schedule limit answers) → AlikeUntilSpent xs ys)
      → AlikeUntilSpent (turns_of old_form b schedule limit answers ++ xs) (turns_of new_form b' schedule limit answers ++ ys)
  unfolding turns_of served_by pick
  run_until xs ys k =
      let H : Shape → Shape → ℕ → ℕ → Type 0 = λ x y n m.
      (Same s (pick (eqb n done) (serve_all_by old_form (old_frame x) limit ts (start b)) (start b))
      (pick (eqb m done) (serve_all_by new_form (new_frame y) limit ts (start b')) (start b')) → AlikeUntilSpent xs ys)
      → AlikeUntilSpent (pick (eqb n done) (turns_replied old_form (old_frame x) limit ts (start b)) [] ++ xs)
      (pick (eqb m done) (turns_replied new_form (new_frame y) limit ts (start b')) [] ++ ys) in
      let G : Bool → Type 0 = λ q.
      (Same s (pick q (serve_all_by old_form (old_frame s) limit ts (start b)) (start b))
      (pick q (serve_all_by new_form (new_frame s) limit ts (start b')) (start b')) → AlikeUntilSpent xs ys)
      → AlikeUntilSpent (pick q (turns_replied old_form (old_frame s) limit ts (start b)) [] ++ xs)
      (pick q (turns_replied new_form (new_frame s) limit ts (start b')) [] ++ ys) in
      let n = refusal_by old_form b c in
      let same : H s s n n = either G (λ h. turns_until s limit ts (start b) (start b') first xs ys h) (λ h. h first) (eqb n done) in
      subst (H (shape_in b) (shape_in b') n) (sym (refusal_same a c))
      (subst₂ (λ x y. H x y n n) (sym a.old_shape) (sym a.new_shape) same)
      k

-- one number answered by both
answered_same : {n m : ℕ} {xs ys : List Reply} → m ≡ n → AlikeUntilSpent xs ys → AlikeUntilSpent (answered n ∷ xs) (answered m ∷ ys)
answered_same {n} {m} {xs} {ys} e h = subst (λ k. AlikeUntilSpent (answered n ∷ xs) (answered k ∷ ys)) (sym e) (alike (answered n) h)

-- A list of calls.
all_until : {s : Shape} (cs : List QueueCall) (b b' : List ℕ) → Alike s b b'
    → AlikeUntilSpent (all_replies old_form b cs) (all_replies new_form b' cs)
unfolding all_replies replies
all_until [] b b' a = both_end
all_until (put t i ∷ cs) b b' a =
    answered_same (refusal_same a (put t i)) (all_until cs _ _ (after_alike a (put t i) (accepted_alike a (put t i) tt)))
all_until (take t ∷ cs) b b' a = answered_same (refusal_same a (take t)) (all_until cs _ _ (after_alike a (take t) (accepted_alike a (take t) tt)))
all_until (list t ∷ cs) b b' a = answered_same (refusal_same a (list t)) (all_until cs _ _ (after_alike a (list t) (accepted_alike a (list t) tt)))
all_until (permit t p ∷ cs) b b' a =
    answered_same (refusal_same a (permit t p)) (all_until cs _ _ (after_alike a (permit t p) (accepted_alike a (permit t p) tt)))
all_until (check ∷ cs) b b' a = answered_same (refusal_same a check) (all_until cs _ _ (after_alike a check (accepted_alike a check tt)))
all_until {s} (run schedule limit answers ∷ cs) b b' a =
    let c = run schedule limit answers in
    let o = served_by old_form b schedule limit answers in
    let n = served_by new_form b' schedule limit answers in
    let rest = all_replies old_form (after_by old_form b c) cs in
    let rest' = all_replies new_form (after_by new_form b' c) cs in
    let total = ran (refusal_by old_form b c) o.turns o.accesses o.answers in
    let total' = ran (refusal_by new_form b' c) n.turns n.accesses n.answers in
    subst₂ AlikeUntilSpent (sym (append_assoc (turns_of old_form b schedule limit answers) (total ∷ []) rest))
    (sym (append_assoc (turns_of new_form b' schedule limit answers) (total' ∷ []) rest'))
    (run_until a schedule limit answers (total ∷ rest) (total' ∷ rest') λ m.
    subst (λ x. AlikeUntilSpent (total ∷ rest) (x ∷ rest'))
    (λ i. ran (sym (refusal_same a c) i) (sym m.turns i) (sym m.accesses i) (sym m.answers i))
    (alike total (all_until cs _ _ (after_alike a c (λ e. m.regions)))))

pub answers_as_before : AnswersAsBefore
answers_as_before old new e calls =
    let r = no_value_lost old new e in
    all_until calls old (converted_bytes old new)
    (record {
      old = accepted_readable old (length new) e;
      new = r.ready;
      old_shape = refl;
      new_shape = r.shape;
      shared = ap (λ x. shared_in (new_frame x) (converted_bytes old new)) (sym r.shape) ∙ r.shared;
      threads = ap (λ x. thread_in (new_frame x) (converted_bytes old new)) (sym r.shape) ∙ r.threads;
    })

-- The calls of the new form are the calls of histories.
same_either : (q : Bool) (b : List ℕ) → pick q b b ≡ b
unfolding pick
same_either true b = refl
same_either false b = refl

answers_are : (b : List ℕ) (c : QueueCall) → refusal_by new_form b c ≡ refusal_of b (call_of c)
unfolding refusal_by refusal_of put_refusal take_refusal permit_refusal run_refusal check_answer
answers_are b (put t i) = refl
answers_are b (take t) = refl
answers_are b (list t) = refl
answers_are b (permit t p) = refl
answers_are b (run schedule limit a) = refl
answers_are b check = refl

serve_is : (f : Frame) (t : Turn) (r : Served) → serve_by new_form f t r ≡ serve f t r
unfolding serve_by serve turn_bytes turn_answer
serve_is f t r = refl

serve_all_is : (f : Frame) (limit : ℕ) (ts : List Turn) (r : Served) → serve_all_by new_form f limit ts r ≡ serve_all f limit ts r
unfolding serve_all_by serve_all
serve_all_is f limit [] r = refl
serve_all_is f limit (t ∷ ts) r =
    ap (λ x. pick (eqb r.accesses limit) r (serve_all_by new_form f limit ts x)) (serve_is f t r)
    ∙ ap (pick (eqb r.accesses limit) r) (serve_all_is f limit ts (serve f t r))

runs_are : (b schedule : List ℕ) (limit : ℕ) (a : List ℕ) → served_by new_form b schedule limit a ≡ run_result b schedule limit a
unfolding served_by run_result refusal_by run_refusal
runs_are b schedule limit a =
    ap (λ x. pick (eqb (run_refusal b schedule (length a)) done) x (so_far b a 0 0))
    (serve_all_is (frame_in b) limit (turns_from schedule 0 (length schedule / 8)) (so_far b a 0 0))

turns_seen_lem : (f : Frame) (limit : ℕ) (ts : List Turn) (r : Served) → turns_replied new_form f limit ts r ≡ turns_seen (turn_moments f limit ts r)
unfolding turns_replied turn_moments served_on turn_answer pick
turns_seen_lem f limit [] r = refl
turns_seen_lem f limit (t ∷ ts) r =
    let rest = ap (turns_replied new_form f limit ts) (serve_is f t r) ∙ turns_seen_lem f limit ts (serve f t r) in
    let x = turned (turn_plan f r.region t.thread t.choice).answer in
    let m : Moment = record { event = served_turn (served_on f r.region t); region = (serve f t r).region } in
    either (λ q. pick q [] (x ∷ turns_replied new_form f limit ts (serve_by new_form f t r)) ≡ turns_seen (pick q [] (m ∷ turn_moments f limit ts (serve f t r))))
    refl (λ i. x ∷ rest i) (eqb r.accesses limit)

turns_are : (b schedule : List ℕ) (limit : ℕ) (a : List ℕ)
    → turns_of new_form b schedule limit a ≡ turns_seen (served_moments b (run_call schedule limit a))
unfolding turns_of served_moments refusal_by run_refusal pick
turns_are b schedule limit a =
    let ts = turns_from schedule 0 (length schedule / 8) in
    let r = so_far b a 0 0 in
    either (λ q. pick q (turns_replied new_form (frame_in b) limit ts r) [] ≡ turns_seen (pick q (turn_moments (frame_in b) limit ts r) []))
    (turns_seen_lem (frame_in b) limit ts r) refl (eqb (run_refusal b schedule (length a)) done)

-- a refused run leaves the region alone
run-region : (b schedule : List ℕ) (limit : ℕ) (a : List ℕ) → after_by new_form b (run schedule limit a) ≡ (run_result b schedule limit a).region
unfolding after_by accepted_by run_result refusal_by run_refusal pick
run-region b schedule limit a =
    let q = eqb (run_refusal b schedule (length a)) done in
    let r = schedule_served (frame_in b) b schedule limit a in
    let none = so_far b a 0 0 in
    ap (λ x. pick q x.region b) (runs_are b schedule limit a)
    ∙ either (λ q. pick q (pick q r none).region b ≡ (pick q r none).region) refl refl q

regions_are : (b : List ℕ) (c : QueueCall) → after_by new_form b c ≡ after b (call_of c)
unfolding after_by accepted_by refusal_by after put_bytes put_refusal take_bytes take_refusal permit_bytes permit_refusal run_refusal check_answer
regions_are b (put t i) = refl
regions_are b (take t) = refl
regions_are b (list t) = refl
regions_are b (permit t p) = refl
regions_are b (run schedule limit a) = run-region b schedule limit a
regions_are b check = same_either (eqb (refusal_by new_form b check) done) b

pub new_form_is_exported : NewFormIsExported
new_form_is_exported = record { answers = answers_are; regions = regions_are; runs = runs_are; turns = turns_are }

pub tree_holds_the_same : TreeHoldsTheSame
unfolding in_tree frame_of_width
tree_holds_the_same old new e i =
    let r = no_value_lost old new e in
    λ j. in_nodes (r.shared j) (same_item i) (r.shape j).cells (node_count (r.shape j))
