-- Every statement of specs/ about histories, under its name: demand 3, and what else holds throughout. Assumes nothing.
use Prim.Native.Nat.{ℕ}
use native.Mathlib.Omega.{arith}
use mathlib.Core.Path.{◌≡◌, refl, sym, ap, subst, ◌∙◌}
use mathlib.Core.Bool.{Bool, true, false, true≢false}
use mathlib.Core.List.{List, ◌++◌}
use lib.ListN.{length}
use Rattle.region.specs.Refusal.{done, number_of}
use Rattle.region.specs.declared.refusal.Refusal.TheVariants.{BadThread, CounterSpent, Unreadable}
use Rattle.region.specs.Frame.{frame_of, frame_of_width}
use Rattle.region.specs.Shape.{between}
use Rattle.region.specs.Shared.{Shared, shared_in, thread_in}
use Rattle.region.specs.Thread.{gone_idle, idle_thread}
use Rattle.region.specs.declared.answer.Answer.{Answer}
use Rattle.region.specs.declared.answer.Answer.TheVariants.{Moved, Idle, Inserted, Took, Empty, Refused, Withdrawn}
use Rattle.region.specs.declared.frame.Frame.{Frame}
use Rattle.region.specs.declared.shape.Shape.{Shape}
use Rattle.region.proofs.Shapes.{between_least, between_most}
use Rattle.access.specs.Plan.{changes_nothing, plan, refused}
use Rattle.layout.specs.Layout.{layout_bytes, layout_refusal}
use Rattle.layout.proofs.Laws.{laid_shape}
use Rattle.readable.specs.Readable.{frame_in, shape_in}
use Rattle.readable.proofs.Laws.{good}
use Rattle.machine.specs.Turn.{turn_answer, turn_plan}
use Rattle.theory.specs.Ledger.{Ledger, Operation, empty_ledger}
use Rattle.theory.proofs.Leaves.{Remembers, gone_remembers}
use Rattle.theory.proofs.Plans.{Planned, moves, refuses, rests, operation_moves}
use Rattle.theory.proofs.Steps.{owns}
use Rattle.bag.specs.History.{Moment, history}
use Rattle.bag.specs.Moments.{EachMoment, InEveryHistory, Throughout, region_after}
use Rattle.bag.specs.Theorems.{CellsAccounted, LeafWordTells, NoLeafWhenIdle, NoTurnUnreadable, NoneFree, PutsEndInTime, RefusedTenWhenFull, SmallerTagFirst, StaysReadable, TakesCostExactly, TakesEndInTime}
use Rattle.bag.specs.Tries.{tried_since}
use Rattle.bag.proofs.Account.{all_cells_accounted, none_free_when_full, puts_refused_when_full}
use Rattle.bag.proofs.Histories.{Kept, kept_after, kept_each}
use Rattle.bag.proofs.LeastFirst.{stays_behind}
use Rattle.bag.proofs.PutCost.{puts_end}
use Rattle.bag.proofs.Proved.{Moves, QueueRegion, history_kept, laid_queue, region_is_a_bag}
use Rattle.bag.proofs.Regions.{Region, plan_fits, nowhere}
use Rattle.bag.proofs.Start.{laid_idle}
use Rattle.bag.proofs.TakeCost.{costs_end, take_costs}
use Rattle.bag.proofs.Tries.{RemembersIn, TriesKept, tries_remembered, word_tells}
pub use Rattle.bag.proofs.Proved.{region_is_a_bag}
pub use Rattle.bag.proofs.Exported.{calls_are_exported}
pub use Rattle.bag.proofs.LeastFirst.{least_has_least_key, least_is_one}

-- every thread of a laid-out region is idle
laid_remembers : (s : Shape) (ps b : List ℕ) → layout_refusal s ps (length b) ≡ done → (t : ℕ)
    → RemembersIn (frame_in (layout_bytes s ps b)) (layout_bytes s ps b) t false
unfolding gone_idle frame_of_width
laid_remembers s ps b e t =
    let laid = layout_bytes s ps b in
    let th = laid_idle s ps b e t in
    subst (λ x. RemembersIn (frame_of x) laid t false) (sym (laid_queue s ps b e).shape)
    (subst (λ x. Remembers s (shared_in (frame_of s) laid).depth x false) (sym th.1)
    (gone_remembers s (shared_in (frame_of s) laid).depth (idle_thread th.0) false))

-- the invariant holds of every region of a history, with some ledger
holds : Throughout λ s permissions b. (l : Ledger) × QueueRegion s b l
holds s ps b e calls n earlier later split =
    kept_after (QueueRegion s) Moves earlier later (layout_bytes s ps b) empty_ledger (laid_queue s ps b e)
    (subst (Kept (QueueRegion s) Moves (layout_bytes s ps b) empty_ledger) split (history_kept s ps b e calls n))

pub stays_readable : StaysReadable
stays_readable s ps b e calls n earlier later split =
    let g = (holds s ps b e calls n earlier later split).1 in
    (g.reads, g.shape)

-- no plan on a region in order is refused 7
refusal : Answer → ℕ
refusal Moved = 0
refusal Idle = 0
refusal Inserted = 0
refusal (Took i) = 0
refusal Empty = 0
refusal (Refused r) = number_of r
refusal Withdrawn = 0

module _ (f : Frame) (all : ℕ) (b : List ℕ) (l : Ledger) (g : Region f all b l) (t c : ℕ) where
  abbrev answer : Answer
  answer = (turn_plan f b t c).answer

  other : (x : Answer) → answer ≡ x → (refusal x ≡ 7 → ⊥) → answer ≡ Refused Unreadable → ⊥
  unfolding refusal
  other x k n e = n (sym (ap refusal k) ∙ ap refusal e)

  planned_answer : {m : Shared} {own : ℕ → ℕ} {o : ℕ} {op : Operation} → Planned f.shape m own t o op (turn_plan f b t c)
      → answer ≡ Refused Unreadable → ⊥
  unfolding refusal
  planned_answer (rests x y) = other Idle y (λ z. omega arith)
  planned_answer (refuses x y) = other (Refused CounterSpent) y (λ z. omega arith)
  planned_answer (moves op' al sp ow at) = λ e. true≢false (sym (ap changes_nothing e) ∙ operation_moves sp)

  never_unreadable : turn_answer f b t c ≡ Refused Unreadable → ⊥
  unfolding turn_answer refusal refused plan
  never_unreadable = go (between 1 t f.shape.threads) refl
    where
      go : (q : Bool) → between 1 t f.shape.threads ≡ q → (turn_plan f b t c).answer ≡ Refused Unreadable → ⊥
      go true h = planned_answer (plan_fits f all b l g t c (between_least 1 t f.shape.threads h) (between_most 1 t f.shape.threads h))
      go false h = other (Refused BadThread) (ap (λ p. p.answer) (nowhere f all b l g t c h)) (λ z. omega arith)

pub no_turn_unreadable : NoTurnUnreadable
no_turn_unreadable s ps b e calls n earlier later split t c =
    let w = holds s ps b e calls n earlier later split in
    let b' = region_after (layout_bytes s ps b) earlier in
    never_unreadable (frame_in b') (shape_in b').cells b' w.0 w.1.region t c

pub cells_accounted : CellsAccounted
unfolding frame_of_width
cells_accounted s ps b e calls n earlier later split =
    let w = holds s ps b e calls n earlier later split in
    all_cells_accounted (region_after (layout_bytes s ps b) earlier) w.0 w.1.region.holds

pub none_free : NoneFree
unfolding frame_of_width
none_free s ps b e calls n earlier later split =
    let w = holds s ps b e calls n earlier later split in
    none_free_when_full (region_after (layout_bytes s ps b) earlier) w.0 w.1.region.holds

pub refused_ten_when_full : RefusedTenWhenFull
unfolding frame_of_width
refused_ten_when_full s ps b e calls n earlier later split =
    let w = holds s ps b e calls n earlier later split in
    puts_refused_when_full (region_after (layout_bytes s ps b) earlier) w.0 w.1.region.holds

pub takes_cost_exactly : TakesCostExactly
unfolding frame_of_width
takes_cost_exactly s ps b e calls n earlier later split =
    let w = holds s ps b e calls n earlier later split in
    let b' = region_after (layout_bytes s ps b) earlier in
    take_costs b' w.1.reads (owns (thread_in (frame_in b') b')) w.1.region.holds.mound

-- the ceiling is the figure's
pub takes_end_in_time : TakesEndInTime
unfolding shared_in
takes_end_in_time s ps b e calls n earlier later split =
    let b' = region_after (layout_bytes s ps b) earlier in
    costs_end b' (good b' (stays_readable s ps b e calls n earlier later split).0).depth_least
    (takes_cost_exactly s ps b e calls n earlier later split)

pub puts_end_in_time : PutsEndInTime
puts_end_in_time s ps b e calls n earlier later split =
    puts_end (region_after (layout_bytes s ps b) earlier) (stays_readable s ps b e calls n earlier later split).0
    (cells_accounted s ps b e calls n earlier later split)

-- leaf words remember tries, from a laid-out region on
remembers : InEveryHistory λ s permissions b ms. (earlier later : List Moment) → ms ≡ earlier ++ later → (t : ℕ)
    → RemembersIn (frame_in (region_after b earlier)) (region_after b earlier) t (tried_since t false b earlier)
remembers s ps b e calls n earlier later split t =
    let laid = layout_bytes s ps b in
    tries_remembered t earlier later laid false
    (subst (EachMoment TriesKept laid) split
    (kept_each (QueueRegion s) Moves TriesKept (λ b m l l' h. h.tries) (history laid calls) laid empty_ledger (history_kept s ps b e calls n)))
    (laid_remembers s ps b e t)

pub leaf_word_tells : LeafWordTells
leaf_word_tells s ps b e calls n earlier later split t =
    let laid = layout_bytes s ps b in
    let reads = stays_readable s ps b e calls n earlier later split in
    word_tells s (region_after laid earlier) t (tried_since t false laid earlier) reads.1 (laid_shape s ps b e).depth_least
    (remembers s ps b e calls n earlier later split t)

pub no_leaf_when_idle : NoLeafWhenIdle
no_leaf_when_idle s ps b e calls n earlier later split t = (remembers s ps b e calls n earlier later split t).idle

-- from demand 3's ledger
pub smaller_tag_first : SmallerTagFirst
smaller_tag_first s ps b e calls n =
    stays_behind empty_ledger (layout_bytes s ps b) (history (layout_bytes s ps b) calls) (region_is_a_bag s ps b e calls n).bag
