-- In every history an operation begins only with a thread and an item in range: the calls refuse others. Assumes nothing.
use Prim.Native.Nat.{ℕ, ◌/◌}
use native.Mathlib.Omega.{arith}
use mathlib.Core.Path.{◌≡◌, refl}
use mathlib.Core.Bool.{Bool, true, false}
use mathlib.Core.List.{List, [], ◌∷◌, ◌++◌}
use borrow.Author.Tests.{eqb-true}
use lib.Dec.{eqb}
use lib.ListN.{length}
use Rattle.region.specs.Refusal.{Checked, code_of, done, ◌unless◌otherwise◌}
use Rattle.region.specs.declared.refusal.Refusal.TheVariants.{Unreadable}
use Rattle.region.specs.Pick.{pick}
use Rattle.region.specs.Record.{is_item}
use Rattle.region.specs.Shape.{between}
use Rattle.region.specs.declared.frame.Frame.{Frame}
use Rattle.region.specs.declared.record.Item.{Item}
use Rattle.region.proofs.Picks.{pick_good}
use Rattle.region.proofs.Shapes.{between_least, between_most, is_between}
use Rattle.readable.specs.Readable.{frame_in, readable}
use Rattle.readable.proofs.Laws.{good}
use Rattle.begin.specs.Begin.{put_check_in, put_refusal, put_refusal_in, take_check_in, take_refusal, take_refusal_in}
use Rattle.run.specs.Run.{Served, Turn, run_refusal, serve, so_far, turns_from}
use Rattle.preserved.proofs.Proved.{put_passed, take_passed}
use Rattle.theory.specs.Told.{Told, nothing, begins_put, begins_take, begins_list, decides_put, decides_take, decides_list, decides_empty, answers_took, withdraws}
use Rattle.bag.specs.Calls.{Call, after, check, convert, layout, list, permit, put, refusal_of, run, take}
use Rattle.bag.specs.History.{Moment, ServedTurn, call_moments, called, history, served_moments, served_on, turn_moments, turned}
use Rattle.bag.specs.Told.{call_tells, tells}
use Rattle.bag.proofs.Histories.{turned_so}

-- a beginning is in range
abbrev pub BeginsInRange : Told → Type 0
BeginsInRange nothing = Unit
BeginsInRange (begins_put t i) = (between 1 t 64 ≡ true) × (is_item i ≡ true)
BeginsInRange (begins_take t) = between 1 t 64 ≡ true
BeginsInRange (begins_list t) = Unit
BeginsInRange (decides_put t) = Unit
BeginsInRange (decides_take t i) = Unit
BeginsInRange (decides_list t is) = Unit
BeginsInRange (decides_empty t) = Unit
BeginsInRange (answers_took t i) = Unit
BeginsInRange (withdraws t) = Unit

abbrev pub AllBegin : List Moment → Type 0
AllBegin [] = Unit
AllBegin (m ∷ ms) = BeginsInRange (tells m.event) × AllBegin ms

begin_append : (xs ys : List Moment) → AllBegin xs → AllBegin ys → AllBegin (xs ++ ys)
begin_append [] ys a b = b
begin_append (x ∷ xs) ys a b = (a.0, begin_append xs ys a.1 b)

-- a call that is not refused 7 has the rest of its tests passed
passed : (q : Bool) (x : Checked) → code_of (Unreadable unless q otherwise x) ≡ done → (q ≡ true) × (code_of x ≡ done)
unfolding pick
passed true n e = (refl, e)
passed false n e = absurd (omega (arith, e))

few_threads : (b : List ℕ) → readable b ≡ true → (t : ℕ) → between 1 t (frame_in b).shape.threads ≡ true → between 1 t 64 ≡ true
few_threads b e t h =
    let r = (good b e).range in
    is_between 1 t 64 (between_least 1 t (frame_in b).shape.threads h)
    (let m = between_most 1 t (frame_in b).shape.threads h in omega (arith, m, r.threads_most))

put_in_range : (b : List ℕ) (t : ℕ) (i : Item) → put_refusal b t i ≡ done → (between 1 t 64 ≡ true) × (is_item i ≡ true)
unfolding put_refusal put_refusal_in
put_in_range b t i e =
    let a = passed (readable b) (put_check_in (frame_in b) b t i) e in
    let p = put_passed (frame_in b) b t i a.1 in
    (few_threads b a.0 t p.thread, p.item)

take_in_range : (b : List ℕ) (t : ℕ) → take_refusal b t ≡ done → between 1 t 64 ≡ true
unfolding take_refusal take_refusal_in
take_in_range b t e =
    let a = passed (readable b) (take_check_in (frame_in b) b t) e in
    few_threads b a.0 t (take_passed (frame_in b) b t a.1).thread

call_begins : (b : List ℕ) (c : Call) → BeginsInRange (tells (called c (refusal_of b c)))
unfolding refusal_of
call_begins b c = pick_good BeginsInRange (eqb (refusal_of b c) done) (λ e. go c (eqb-true (refusal_of b c) done e)) (λ e. tt)
  where
    go : (c : Call) → refusal_of b c ≡ done → BeginsInRange (call_tells c)
    go (layout s permissions) e = tt
    go (convert old) e = tt
    go (put t i) e = put_in_range b t i e
    go (take t) e = take_in_range b t e
    go (list t) e = tt
    go (permit t p) e = tt
    go (run schedule limit answers) e = tt
    go check e = tt

turn_begins : (y : ServedTurn) → BeginsInRange (tells (turned y))
turn_begins y = turned_so BeginsInRange y tt (λ e k. tt) (λ e k. tt) (λ e k. tt) (λ i. tt) (λ e k. tt) (λ e. tt)

turns_begin : (f : Frame) (limit : ℕ) (ts : List Turn) (r : Served) → AllBegin (turn_moments f limit ts r)
unfolding turn_moments pick
turns_begin f limit [] r = tt
turns_begin f limit (t ∷ ts) r = go (eqb r.accesses limit) (turns_begin f limit ts (serve f t r))
  where
    go : (q : Bool) → AllBegin (turn_moments f limit ts (serve f t r))
        → AllBegin (pick q [] (record { event = turned (served_on f r.region t); region = (serve f t r).region } ∷ turn_moments f limit ts (serve f t r)))
    go true a = tt
    go false a = (turn_begins (served_on f r.region t), a)

served_begin : (b : List ℕ) (c : Call) → AllBegin (served_moments b c)
unfolding served_moments pick
served_begin b (layout s permissions) = tt
served_begin b (convert old) = tt
served_begin b (put t i) = tt
served_begin b (take t) = tt
served_begin b (list t) = tt
served_begin b (permit t p) = tt
served_begin b (run schedule limit answers) = go (eqb (run_refusal b schedule (length answers)) done)
  where
    ts : List Turn
    ts = turns_from schedule 0 (length schedule / 8)

    go : (q : Bool) → AllBegin (pick q (turn_moments (frame_in b) limit ts (so_far b answers 0 0)) [])
    go true = turns_begin (frame_in b) limit ts (so_far b answers 0 0)
    go false = tt
served_begin b check = tt

pub history_begins : (calls : List Call) (b : List ℕ) → AllBegin (history b calls)
unfolding history call_moments
history_begins [] b = tt
history_begins (c ∷ cs) b =
    begin_append (call_moments b c) (history (after b c) cs)
    (begin_append (served_moments b c) (record { event = called c (refusal_of b c); region = after b c } ∷ []) (served_begin b c) (call_begins b c, tt))
    (history_begins cs (after b c))
