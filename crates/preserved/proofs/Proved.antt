-- The theorems of specs/Theorems.antt: bytes in range under a frame are read as records in range (readable's laws), every plan is in
-- range (PlansGood), carrying it out keeps them in range (EffectsGood), and what is stored elsewhere is left alone (region's views). All
-- this is shown of any frame; a readable region is one instance. Assumes nothing.
use Prim.Native.Nat.{ℕ, ◌^◌, ◌≤◌, ◌<◌}
use native.Mathlib.Omega.{arith}
use mathlib.Core.Path.{◌≡◌, refl, sym, ap, subst, ◌∙◌}
use mathlib.Core.Bool.{Bool, true, false, not, ◌&&◌, true≢false}
use mathlib.Core.List.{List}
use borrow.Author.Tests.{eqb-true, eqb-false, eq-eqb, leb-true}
use lib.Dec.{leb, eqb}
use lib.ListN.{length}
use Rattle.words.specs.Word.{word, set_word}
use Rattle.words.proofs.Laws.{word_other, word_same, length-set_word}
use Rattle.region.specs.Refusal.{done}
use Rattle.region.specs.declared.refusal.Refusal.TheVariants.{BadThread}
use Rattle.region.specs.Frame.{frame_of_width, threads_of}
use Rattle.region.specs.Inner.{Framed, InRange, ThreadFits}
use Rattle.region.specs.Pick.{pick}
use Rattle.region.specs.Record.{counter_size, greatest_key, greatest_tag, is_item}
use Rattle.region.specs.Shape.{between}
use Rattle.region.specs.Shared.{Shared, cell_in, entry, set_cell_in, set_node_in, set_permission_in, thread_in, set_thread_in, shared_in}
use Rattle.region.specs.Thread.{at_place, begun_put, greatest_permission, idle_thread, is_idle}
use Rattle.region.specs.declared.answer.Answer.TheVariants.{Idle as AnswerIdle}
use Rattle.region.specs.declared.frame.Frame.{Frame}
use Rattle.region.specs.declared.place.Place.{Place}
use Rattle.region.specs.declared.place.Place.TheVariants.{Idle, ReadDepth, ReadLeaf, ReadAncestor, GrowDepth, ReadTarget, InsertAtRoot, ReadParent, InsertBelow, ReadRoot, RemoveHead, MendReadNode, MendReadDepth, MendReadLeft, MendReadRight, MendSwap, MendClean, ListReadRoot, RemoveList, HandOut}
use Rattle.region.specs.declared.record.Cell.{Cell}
use Rattle.region.specs.declared.record.Item.{Item}
use Rattle.region.specs.declared.refusal.Refusal.{Refusal}
use Rattle.region.specs.declared.shape.Shape.{Shape}
use Rattle.region.specs.declared.thread.Thread.{Thread}
use Rattle.region.proofs.Entries.{entry_end}
use Rattle.region.proofs.Picks.{pick_good, upd_other}
use Rattle.region.proofs.Refusals.{passes}
use Rattle.region.proofs.Shapes.{and_left, and_right, between_least, between_most}
use Rattle.region.proofs.Views.{length-set_cell_in, length-set_thread_in, others_set_permission, outside_word, permission_there, shared_set_cell, shared_set_free, threads_kept, threads_outside, threads_set_cell, threads_set_free, threads_set_thread, word_set_cell, word-set_cell_in, word_set_node, word_set_permission, word_set_thread}
use Rattle.access.specs.Effect.{effect_bytes, freed_bytes, push_bytes}
use Rattle.access.specs.Order.{item_lt, top_item}
use Rattle.access.specs.Plan.{changes_nothing, refused}
use Rattle.access.specs.declared.effect.Effect.{Effect}
use Rattle.access.specs.declared.effect.Effect.TheVariants.{Nothing, Grow, Push, Pop, Exchange, Clean, Detach, Free}
use Rattle.access.specs.declared.plan.Plan.{Plan}
use Rattle.access.proofs.EffectLaws.{effect_word, framed_node}
use Rattle.access.proofs.OrderLaws.{item_below_top}
use Rattle.readable.specs.Readable.{readable, frame_in}
use Rattle.readable.proofs.Laws.{Good, GoodOfWidth, good}
use Rattle.readable.proofs.Stores.{CellGood, FieldsGood, Keeps, KeepsOfWidth, PlaceGood, SharedGood, ThreadGood, cell_fits, few_cells, good_shared, good_thread, keeps_more, keeps_same, keeps_set_permission, keeps_set_thread, make_good, readable_kept, shape_kept, thread_fit, threads_pass}
use Rattle.permission.specs.Grants.{may_put, may_take}
use Rattle.permission.specs.Permit.{permit_bytes, permit_bytes_in, permit_refusal_in}
use Rattle.permission.specs.Withdraw.{is_unreadable, lacks_permission, permitted}
use Rattle.permission.proofs.Laws.{permit_bytes_in_lem, permit_refusal_in_lem}
use Rattle.begin.specs.Begin.{BeginsAt, one_item, whole_list, accepted_put, accepted_take, has_free_cell, put_bytes, put_bytes_in, put_refusal_in, take_bytes, take_bytes_in, take_refusal_in}
use Rattle.begin.proofs.Laws.{put_bytes_in_lem, take_bytes_in_lem}
use Rattle.machine.specs.Turn.{carried_out, decide, decide_at, turn_bytes, turn_plan}
use Rattle.preserved.specs.Theorems.{EmptyIsAbove, OutsideEffect, TurnKeepsReadable, PutKeepsReadable, TakeKeepsReadable, PermitKeepsReadable, TurnKeepsShape, PutKeepsShape, TakeKeepsShape, PermitKeepsShape, TurnLeavesOthers, PutLeavesOthers, TakeLeavesOthers, PermitLeavesOthers, PermitChangesOneWord, TurnLeavesWords}
use Rattle.preserved.proofs.EffectsGood.{keeps_effect, set_cell}
use Rattle.preserved.proofs.PlansGood.{EffectGood, PlanGood, at_good, fields_item, fields_own, plan_good, read_depth_good, read_leaf_good, read_ancestor_good, grow_depth_good, read_target_good, insert_at_root_good, read_parent_good, insert_below_good, read_root_good, remove_head_good, mend_read_node_good, mend_read_depth_good, mend_read_left_good, mend_read_right_good, mend_swap_good, mend_clean_good, list_read_root_good, remove_list_good, hand_out_good, withdrawal_good}

-- every place's plan is in range, and so is its withdrawal
module _ {width : ℕ} (s : Shape) (r : InRange s) (m : Shared) (sm : SharedGood width s m) (t : Thread) (gt : ThreadGood width s t) (c : ℕ) where
  at_place_lem : (p : Place) → PlaceGood s t p → PlanGood width s (decide_at s m t c p)
  at_place_lem Idle h = plan_good s Nothing t AnswerIdle tt gt
  at_place_lem ReadDepth h = read_depth_good s r m sm t gt
  at_place_lem ReadLeaf h = read_leaf_good s r m sm t gt c
  at_place_lem ReadAncestor h = read_ancestor_good s r m sm t gt
  at_place_lem GrowDepth h = grow_depth_good s r m sm t gt
  at_place_lem ReadTarget h = read_target_good s r m sm t gt
  at_place_lem InsertAtRoot h = insert_at_root_good s r m sm t gt
  at_place_lem ReadParent h = read_parent_good s r m sm t gt
  at_place_lem InsertBelow h = insert_below_good s r m sm t gt
  at_place_lem ReadRoot h = read_root_good s r m sm t gt
  at_place_lem RemoveHead h = remove_head_good s r m sm t gt
  at_place_lem (MendReadNode w) h = mend_read_node_good s r m sm t gt w h
  at_place_lem (MendReadDepth w) h = mend_read_depth_good s r m sm t gt w h
  at_place_lem (MendReadLeft w) h = mend_read_left_good s r m sm t gt w h
  at_place_lem (MendReadRight w) h = mend_read_right_good s r m sm t gt w h
  at_place_lem (MendSwap w) h = mend_swap_good s r m sm t gt w h
  at_place_lem (MendClean w) h = mend_clean_good s r m sm t gt w h
  at_place_lem ListReadRoot h = list_read_root_good s r m sm t gt
  at_place_lem RemoveList h = remove_list_good s r m sm t gt
  at_place_lem HandOut h = hand_out_good s r m sm t gt

  pub decided : PlanGood width s (decide s m t c)
  unfolding decide permitted
  decided =
      pick_good (PlanGood width s) (lacks_permission t && not (is_unreadable (decide_at s m t c t.place).answer))
      (λ h. withdrawal_good s r m sm t gt)
      (λ h. at_place_lem t.place gt.place)

-- Carrying out a plan in range.
module _ {width : ℕ} (f : Frame) (b : List ℕ) (g : GoodOfWidth width f b) (t : ℕ) (l : 1 ≤ t) (u : t ≤ f.shape.threads) (p : Plan)
    (gp : PlanGood width f.shape p) where
  pub record_keeps : KeepsOfWidth width f b (set_thread_in f b t p.thread)
  record_keeps = keeps_set_thread f b g t l u p.thread gp.thread

  -- its effect in range for the frame's counters too
  pub carried_keeps : EffectGood width f.shape p.effect → KeepsOfWidth width f b (carried_out f b t p)
  unfolding carried_out
  carried_keeps ge =
      pick_good (KeepsOfWidth width f b) (changes_nothing p.answer) (λ e. keeps_same g)
      (λ e. keeps_more record_keeps
      (keeps_effect f (set_thread_in f b t p.thread) record_keeps.good p.effect ge))

pub refused_stays : (f : Frame) (b : List ℕ) (t : ℕ) (v : Thread) (n : Refusal) → carried_out f b t (refused v n) ≡ b
unfolding carried_out refused pick
refused_stays f b t v n = refl

-- A turn, of a thread that exists or not.
pub plan_in_range : {width : ℕ} (f : Frame) (b : List ℕ) → GoodOfWidth width f b → (t c : ℕ)
    → PlanGood width f.shape (decide f.shape (shared_in f b) (thread_in f b t) c)
plan_in_range f b g t c = decided f.shape g.range (shared_in f b) (good_shared f b g) (thread_in f b t) (good_thread f b g t) c

module _ (f : Frame) (b : List ℕ) (g : Good f b) (t c : ℕ) where
  pub turn_keeps : Keeps f b (turn_bytes f b t c)
  unfolding turn_bytes turn_plan
  turn_keeps =
      let p = plan_in_range f b g t c in
      pick_good (λ p. Keeps f b (carried_out f b t p)) (between 1 t f.shape.threads)
      (λ e. carried_keeps f b g t (between_least 1 t f.shape.threads e) (between_most 1 t f.shape.threads e) _ p p.effect)
      (λ e. subst (Keeps f b) (sym (refused_stays f b t (idle_thread 0) BadThread)) (keeps_same g))

pub turn_keeps_readable : TurnKeepsReadable
turn_keeps_readable b e t c = readable_kept b _ e (turn_keeps (frame_in b) b (good b e) t c)

pub turn_keeps_shape : TurnKeepsShape
turn_keeps_shape b e t c = shape_kept b _ e (turn_keeps (frame_in b) b (good b e) t c)

-- Beginnings.
-- A take: what one that is not refused passed
pub record TakePassed (f : Frame) (b : List ℕ) (t : ℕ) : Type 0 where
  pub thread : between 1 t f.shape.threads ≡ true
  pub permitted : may_take (thread_in f b t) ≡ true
  pub idle : is_idle (thread_in f b t) ≡ true

pub take_passed : (f : Frame) (b : List ℕ) (t : ℕ) → take_refusal_in f b t ≡ done → TakePassed f b t
unfolding take_refusal_in
take_passed f b t e =
    let x = thread_in f b t in
    let thread = passes (between 1 t f.shape.threads) _ _ e in
    let permitted = passes (may_take x) _ _ thread.1 in
    let idle = passes (is_idle x) _ _ permitted.1 in
    record { thread = thread.0; permitted = permitted.0; idle = idle.0 }

pub begun_take_good : {width : ℕ} (s : Shape) (t : Thread) → ThreadGood width s t → (p : Place) → BeginsAt p → ThreadGood width s (at_place t p)
begun_take_good s t g ReadRoot one_item = at_good s t g.fields ReadRoot tt
begun_take_good s t g ListReadRoot whole_list = at_good s t g.fields ListReadRoot tt
begun_take_good s t g _ x = elim x [ ]

module _ (f : Frame) (b : List ℕ) (t : ℕ) (passed : TakePassed f b t) where
  pub take_least : 1 ≤ t
  take_least = between_least 1 t f.shape.threads passed.thread

  pub take_most : t ≤ f.shape.threads
  take_most = between_most 1 t f.shape.threads passed.thread

  module _ {width : ℕ} (g : GoodOfWidth width f b) where
    pub taker_good : (p : Place) → BeginsAt p → ThreadGood width f.shape (at_place (thread_in f b t) p)
    taker_good = begun_take_good f.shape _ (good_thread f b g t)

    pub accepted_take_keeps : (p : Place) → BeginsAt p → KeepsOfWidth width f b (accepted_take f b t p)
    accepted_take_keeps p h = keeps_set_thread f b g t take_least take_most _ (taker_good p h)

pub take_keeps : {width : ℕ} (f : Frame) (b : List ℕ) → GoodOfWidth width f b → (t : ℕ) (p : Place) → BeginsAt p → KeepsOfWidth width f b (take_bytes_in f b t p)
unfolding take_bytes_in
take_keeps f b g t p h =
    pick_good (KeepsOfWidth _ f b) (eqb (take_refusal_in f b t) done)
    (λ e. accepted_take_keeps f b t (take_passed f b t (eqb-true (take_refusal_in f b t) done e)) g p h)
    (λ e. keeps_same g)

-- on a readable region
take_keeps_on : (b : List ℕ) → readable b ≡ true → (t : ℕ) (p : Place) → BeginsAt p → Keeps (frame_in b) b (take_bytes b t p)
take_keeps_on b e t p h = subst (Keeps (frame_in b) b) (sym (take_bytes_in_lem b e t p)) (take_keeps (frame_in b) b (good b e) t p h)

pub take_keeps_readable : TakeKeepsReadable
take_keeps_readable b e t p h = readable_kept b _ e (take_keeps_on b e t p h)

pub take_keeps_shape : TakeKeepsShape
take_keeps_shape b e t p h = shape_kept b _ e (take_keeps_on b e t p h)

-- Stores of the first free cell and of a cell keep the bytes in range.
module _ {width : ℕ} (f : Frame) (b : List ℕ) (g : GoodOfWidth width f b) where
  abbrev s : Shape
  s = f.shape

  keeps_set_free : (v : ℕ) → v ≤ f.shape.cells → KeepsOfWidth width f b (set_word b f.free v)
  keeps_set_free v h =
      let m = good_shared f b g in
      let few : v < 2 ^ 32 = omega (arith, h, few_cells s g.range) in
      let long = length-set_word b f.free v in
      record {
        good =
            make_good f (set_word b f.free v) g.width g.range (subst (Framed f) (sym long) g.framed)
            (subst (SharedGood width s) (sym (shared_set_free f b g.framed v few))
            (record { node = m.node; cell = m.cell; depth_least = m.depth_least; depth_most = m.depth_most; free = h }))
            (threads_pass f b (set_word b f.free v) g λ j lo hi.
            word_other b f.free j v (outside_word (threads_outside f (length b) g.framed j lo hi).free));
        long = long;
        outside = λ j o. word_other b f.free j v (outside_word o.shared.free);
      }

  keeps_set_cell : (c : ℕ) (v : Cell) → 1 ≤ c → c ≤ f.shape.cells → CellGood f.shape.cells v → KeepsOfWidth width f b (set_cell_in f b c v)
  keeps_set_cell c v l u h =
      let m = good_shared f b g in
      let long = length-set_cell_in f b c v in
      record {
        good =
            make_good f (set_cell_in f b c v) g.width g.range (subst (Framed f) (sym long) g.framed)
            (subst (SharedGood width s) (sym (shared_set_cell f b g.framed c v l u (cell_fits s g.range v h)))
            (record {
              node = m.node;
              cell = set_cell s (shared_in f b) m c v h;
              depth_least = m.depth_least;
              depth_most = m.depth_most;
              free = m.free;
            }))
            (threads_pass f b (set_cell_in f b c v) g λ j lo hi.
            word-set_cell_in f b g.framed c j v (threads_outside f (length b) g.framed j lo hi).cells);
        long = long;
        outside = λ j o. word-set_cell_in f b g.framed c j v o.shared.cells;
      }

-- A put: what one that is not refused passed
pub record PutPassed (f : Frame) (b : List ℕ) (t : ℕ) (i : Item) : Type 0 where
  pub thread : between 1 t f.shape.threads ≡ true
  pub item : is_item i ≡ true
  pub permitted : may_put (thread_in f b t) ≡ true
  pub idle : is_idle (thread_in f b t) ≡ true
  pub cell : has_free_cell f b ≡ true

pub put_passed : (f : Frame) (b : List ℕ) (t : ℕ) (i : Item) → put_refusal_in f b t i ≡ done → PutPassed f b t i
unfolding put_refusal_in
put_passed f b t i e =
    let x = thread_in f b t in
    let thread = passes (between 1 t f.shape.threads) _ _ e in
    let item = passes (is_item i) _ _ thread.1 in
    let permitted = passes (may_put x) _ _ item.1 in
    let idle = passes (is_idle x) _ _ permitted.1 in
    let cell = passes (has_free_cell f b) _ _ idle.1 in
    record { thread = thread.0; item = item.0; permitted = permitted.0; idle = idle.0; cell = cell.0 }

pub begun_put_good : {width : ℕ} (s : Shape) (t : Thread) → ThreadGood width s t → (i : Item) → i.key < 2 ^ 32 → i.tag ≤ greatest_tag → (own : ℕ)
    → own ≤ s.cells
    → ThreadGood width s (begun_put t i own)
unfolding begun_put
begun_put_good s t g i hk ht own h =
    at_good s _ (fields_own s _ (fields_item s t g.fields i hk ht) own h) ReadDepth tt

-- the first free cell moves on, the own cell holds the item, the thread begins
module _ (f : Frame) (b : List ℕ) (t : ℕ) (i : Item) (p : PutPassed f b t i) where
  pub put_least : 1 ≤ t
  put_least = between_least 1 t f.shape.threads p.thread

  pub put_most : t ≤ f.shape.threads
  put_most = between_most 1 t f.shape.threads p.thread

  pub put_key : i.key ≤ greatest_key
  unfolding is_item
  put_key = leb-true i.key greatest_key (and_left (leb i.key greatest_key) (leb i.tag greatest_tag) p.item)

  pub put_key_fits : i.key < 2 ^ 32
  put_key_fits = omega (arith, put_key)

  pub put_tag : i.tag ≤ greatest_tag
  unfolding is_item
  put_tag = leb-true i.tag greatest_tag (and_right (leb i.key greatest_key) (leb i.tag greatest_tag) p.item)

  pub put_free : word b f.free ≡ 0 → ⊥
  unfolding has_free_cell
  put_free z = true≢false (sym p.cell ∙ ap not (eq-eqb (word b f.free) 0 z))

  -- the cell that becomes the put's own, and the bytes before the thread's record is stored
  abbrev pub own : ℕ
  own = word b f.free

  abbrev pub mine : Cell
  mine = record { item = i; next = 0 }

  abbrev pub free_moved : List ℕ
  free_moved = set_word b f.free (cell_in f b own).next

  abbrev pub own_stored : List ℕ
  own_stored = set_cell_in f free_moved own mine

  module _ {width : ℕ} (g : GoodOfWidth width f b) where
    pub next_few : (cell_in f b own).next ≤ f.shape.cells
    unfolding shared_in
    next_few = ((good_shared f b g).cell own).next

    pub moved_keeps : KeepsOfWidth width f b free_moved
    moved_keeps = keeps_set_free f b g (cell_in f b own).next next_few

    pub mine_good : CellGood f.shape.cells mine
    mine_good = record { key = put_key_fits; tag = put_tag; next = omega arith }

    pub stored_keeps : KeepsOfWidth width f free_moved own_stored
    stored_keeps = keeps_set_cell f free_moved moved_keeps.good own mine (omega (arith, put_free)) g.free_most mine_good

    pub putter_good : ThreadGood width f.shape (begun_put (thread_in f b t) i own)
    putter_good = begun_put_good f.shape _ (good_thread f b g t) i put_key_fits put_tag own g.free_most

    pub accepted_put_keeps : KeepsOfWidth width f b (accepted_put f b t i)
    unfolding accepted_put
    accepted_put_keeps =
        keeps_more moved_keeps
        (keeps_more stored_keeps (keeps_set_thread f own_stored stored_keeps.good t put_least put_most _ putter_good))

pub put_keeps : {width : ℕ} (f : Frame) (b : List ℕ) → GoodOfWidth width f b → (t : ℕ) (i : Item) → KeepsOfWidth width f b (put_bytes_in f b t i)
unfolding put_bytes_in
put_keeps f b g t i =
    pick_good (KeepsOfWidth _ f b) (eqb (put_refusal_in f b t i) done)
    (λ h. accepted_put_keeps f b t i (put_passed f b t i (eqb-true (put_refusal_in f b t i) done h)) g)
    (λ h. keeps_same g)

-- on a readable region
put_keeps_on : (b : List ℕ) → readable b ≡ true → (t : ℕ) (i : Item) → Keeps (frame_in b) b (put_bytes b t i)
put_keeps_on b e t i = subst (Keeps (frame_in b) b) (sym (put_bytes_in_lem b e t i)) (put_keeps (frame_in b) b (good b e) t i)

pub put_keeps_readable : PutKeepsReadable
put_keeps_readable b e t i = readable_kept b _ e (put_keeps_on b e t i)

pub put_keeps_shape : PutKeepsShape
put_keeps_shape b e t i = shape_kept b _ e (put_keeps_on b e t i)

-- A permission: what a call that is not refused passed
pub record PermitPassed (f : Frame) (t p : ℕ) : Type 0 where
  pub thread : between 1 t f.shape.threads ≡ true
  pub permission : p ≤ greatest_permission

pub permit_passed : (f : Frame) (t p : ℕ) → permit_refusal_in f t p ≡ done → PermitPassed f t p
unfolding permit_refusal_in
permit_passed f t p e =
    let thread = passes (between 1 t f.shape.threads) _ _ e in
    let permission = passes (leb p greatest_permission) _ _ thread.1 in
    record { thread = thread.0; permission = leb-true p greatest_permission permission.0 }

module _ (f : Frame) (t p : ℕ) (passed : PermitPassed f t p) where
  pub permit_least : 1 ≤ t
  permit_least = between_least 1 t f.shape.threads passed.thread

  pub permit_most : t ≤ f.shape.threads
  permit_most = between_most 1 t f.shape.threads passed.thread

-- the call sets the permission, or is refused and leaves the bytes alone
module _ (f : Frame) (b : List ℕ) (t p : ℕ) where
  pub permit_either : (P : List ℕ → Type 0) → (PermitPassed f t p → P (set_permission_in f b t p)) → ((permit_refusal_in f t p ≡ done → ⊥) → P b)
      → P (permit_bytes_in f b t p)
  unfolding permit_bytes_in
  permit_either P set same =
      pick_good P (eqb (permit_refusal_in f t p) done) (λ e. set (permit_passed f t p (eqb-true (permit_refusal_in f t p) done e)))
      (λ e. same (eqb-false (permit_refusal_in f t p) done e))

  permit_others : Framed f (length b) → (u : ℕ) → (u ≡ t → ⊥) → thread_in f (permit_bytes_in f b t p) u ≡ thread_in f b u
  permit_others framed u n =
      permit_either (λ x. thread_in f x u ≡ thread_in f b u)
      (λ passed. others_set_permission f b framed t p (permit_least f t p passed) (permit_most f t p passed) u n)
      (λ h. refl)

  permit_words : (j : ℕ) → (j ≡ entry (threads_of f) t → ⊥) → word (permit_bytes_in f b t p) j ≡ word b j
  permit_words j n = permit_either (λ x. word x j ≡ word b j) (λ passed. word_set_permission f b t j p n) (λ h. refl)

  permit_sets : Framed f (length b) → permit_refusal_in f t p ≡ done → word (permit_bytes_in f b t p) (entry (threads_of f) t) ≡ p
  permit_sets framed e =
      let at = entry (threads_of f) t in
      permit_either (λ x. word x at ≡ p)
      (λ passed. let l = permit_least f t p passed in
      let u = permit_most f t p passed in
      ap (λ x. word x at) (permission_there f b framed t p l u)
      ∙ word_same b at p (omega (arith, entry_end (threads_of f) t (λ z. omega arith) u, framed)) (omega (arith, passed.permission)))
      (λ h. absurd (h e))

pub permit_keeps : {width : ℕ} (f : Frame) (b : List ℕ) → GoodOfWidth width f b → (t p : ℕ) → KeepsOfWidth width f b (permit_bytes_in f b t p)
permit_keeps f b g t p =
    permit_either f b t p (KeepsOfWidth _ f b)
    (λ passed. keeps_set_permission f b g t p (permit_least f t p passed) (permit_most f t p passed) passed.permission)
    (λ h. keeps_same g)

-- on a readable region
permit_keeps_on : (b : List ℕ) → readable b ≡ true → (t p : ℕ) → Keeps (frame_in b) b (permit_bytes b t p)
permit_keeps_on b e t p = subst (Keeps (frame_in b) b) (sym (permit_bytes_in_lem b e t p)) (permit_keeps (frame_in b) b (good b e) t p)

pub permit_keeps_readable : PermitKeepsReadable
permit_keeps_readable b e t p = readable_kept b _ e (permit_keeps_on b e t p)

pub permit_keeps_shape : PermitKeepsShape
permit_keeps_shape b e t p = shape_kept b _ e (permit_keeps_on b e t p)

pub permit_leaves_others : PermitLeavesOthers
permit_leaves_others b e t p u n =
    ap (λ x. thread_in (frame_in b) x u) (permit_bytes_in_lem b e t p) ∙ permit_others (frame_in b) b t p (good b e).framed u n

pub permit_changes_one_word : PermitChangesOneWord
permit_changes_one_word b e t p =
    let f = frame_in b in
    record {
      others = λ j n. ap (λ x. word x j) (permit_bytes_in_lem b e t p) ∙ permit_words f b t p j n;
      permission = λ h.
          ap (λ x. word x (entry (threads_of f) t)) (permit_bytes_in_lem b e t p)
          ∙ permit_sets f b t p (good b e).framed (sym (permit_refusal_in_lem b e t p) ∙ h);
    }

-- a record in range fits the words of its frame
pub record_fits : {width : ℕ} (f : Frame) (b : List ℕ) → GoodOfWidth width f b → (v : Thread) → ThreadGood width f.shape v
    → ThreadFits f.width v
record_fits f b g v gv = subst (λ w. ThreadFits w v) (sym g.width) (thread_fit f.shape g.range v gv)

-- What a turn leaves alone: storing a record of thread t's leaves every other thread's alone
store_others : (f : Frame) (b : List ℕ) → Good f b → (t : ℕ) → 1 ≤ t → t ≤ f.shape.threads → (v : Thread) → ThreadGood counter_size f.shape v
    → (u : ℕ) → (u ≡ t → ⊥) → thread_in f (set_thread_in f b t v) u ≡ thread_in f b u
store_others f b g t l m v gv u n =
    ap (λ h. h u) (threads_set_thread f b g.framed t v l m (record_fits f b g v gv))
    ∙ upd_other (thread_in f b) t u v n

pub effect_threads : {width : ℕ} (f : Frame) (b : List ℕ) → GoodOfWidth width f b → (e : Effect) → thread_in f (effect_bytes f b e) ≡ thread_in f b
effect_threads f b g e =
    threads_kept f b g.framed (effect_bytes f b e) λ j l u.
    effect_word f j (threads_outside f (length b) g.framed j l u) b g.framed e

module _ (f : Frame) (b : List ℕ) (g : Good f b) where
  module _ (t : ℕ) (l : 1 ≤ t) (r : t ≤ f.shape.threads) (p : Plan) (gp : PlanGood counter_size f.shape p) (u : ℕ) (n : u ≡ t → ⊥) where
    carried_others : thread_in f (carried_out f b t p) u ≡ thread_in f b u
    unfolding carried_out
    carried_others =
        pick_good (λ x. thread_in f x u ≡ thread_in f b u) (changes_nothing p.answer) (λ e. refl)
        (λ e. ap (λ h. h u)
        (effect_threads f (set_thread_in f b t p.thread) (record_keeps f b g t l r p gp).good p.effect)
        ∙ store_others f b g t l r p.thread gp.thread u n)

  turn_others : (t c u : ℕ) → (u ≡ t → ⊥) → thread_in f (turn_bytes f b t c) u ≡ thread_in f b u
  unfolding turn_bytes turn_plan
  turn_others t c u n =
      pick_good (λ p. thread_in f (carried_out f b t p) u ≡ thread_in f b u) (between 1 t f.shape.threads)
      (λ e. carried_others t (between_least 1 t f.shape.threads e) (between_most 1 t f.shape.threads e) _
      (plan_in_range f b g t c) u n)
      (λ e. ap (λ x. thread_in f x u) (refused_stays f b t (idle_thread 0) BadThread))

pub turn_leaves_others : TurnLeavesOthers
turn_leaves_others b e t c u n = turn_others (frame_in b) b (good b e) t c u n

-- What a beginning leaves alone.
take_others : (f : Frame) (b : List ℕ) → Good f b → (t : ℕ) (p : Place) → BeginsAt p → (u : ℕ) → (u ≡ t → ⊥)
    → thread_in f (take_bytes_in f b t p) u ≡ thread_in f b u
unfolding take_bytes_in
take_others f b g t p h u n =
    pick_good (λ x. thread_in f x u ≡ thread_in f b u) (eqb (take_refusal_in f b t) done)
    (λ e. let passed = take_passed f b t (eqb-true (take_refusal_in f b t) done e) in
    store_others f b g t (take_least f b t passed) (take_most f b t passed) _ (taker_good f b t passed g p h) u n)
    (λ e. refl)

pub take_leaves_others : TakeLeavesOthers
take_leaves_others b e t p h u n =
    ap (λ x. thread_in (frame_in b) x u) (take_bytes_in_lem b e t p) ∙ take_others (frame_in b) b (good b e) t p h u n

accepted_put_others : (f : Frame) (b : List ℕ) (t : ℕ) (i : Item) → PutPassed f b t i → Good f b → (u : ℕ) → (u ≡ t → ⊥)
    → thread_in f (accepted_put f b t i) u ≡ thread_in f b u
unfolding accepted_put
accepted_put_others f b t i p g u n =
    let c = own f b t i p in
    let moved = (moved_keeps f b t i p g).good in
    let stored = (stored_keeps f b t i p g).good in
    store_others f (own_stored f b t i p) stored t (put_least f b t i p) (put_most f b t i p) _ (putter_good f b t i p g) u n
    ∙ ap (λ h. h u)
    (threads_set_cell f (free_moved f b t i p) moved.framed c (mine f b t i p)
    ∙ threads_set_free f b g.framed (cell_in f b c).next)

put_others : (f : Frame) (b : List ℕ) → Good f b → (t : ℕ) (i : Item) (u : ℕ) → (u ≡ t → ⊥)
    → thread_in f (put_bytes_in f b t i) u ≡ thread_in f b u
unfolding put_bytes_in
put_others f b g t i u n =
    pick_good (λ x. thread_in f x u ≡ thread_in f b u) (eqb (put_refusal_in f b t i) done)
    (λ h. accepted_put_others f b t i (put_passed f b t i (eqb-true (put_refusal_in f b t i) done h)) g u n)
    (λ h. refl)

pub put_leaves_others : PutLeavesOthers
put_leaves_others b e t i u n =
    ap (λ x. thread_in (frame_in b) x u) (put_bytes_in_lem b e t i) ∙ put_others (frame_in b) b (good b e) t i u n

-- an effect changes none but its own words
module _ (f : Frame) (j : ℕ) where
  effect_leaves : (b : List ℕ) → Framed f (length b) → (e : Effect) → OutsideEffect f e j → word (effect_bytes f b e) j ≡ word b j
  unfolding effect_bytes push_bytes freed_bytes
  effect_leaves b framed Nothing o = refl
  effect_leaves b framed (Grow d) o = word_other b f.depth j d o
  effect_leaves b framed (Push n v c x) o =
      word_set_cell f (set_node_in f b n v) (framed_node f b n v framed) c j _ o.1 ∙ word_set_node f b framed n j v o.0
  effect_leaves b framed (Pop v c) o =
      word_other _ f.free j c o.2
      ∙ word_set_cell f (set_node_in f b 1 v) (framed_node f b 1 v framed) c j _ o.1
      ∙ word_set_node f b framed 1 j v o.0
  effect_leaves b framed (Exchange n v k x) o =
      word_set_node f (set_node_in f b n v) (framed_node f b n v framed) k j x o.1 ∙ word_set_node f b framed n j v o.0
  effect_leaves b framed (Clean n v) o = word_set_node f b framed n j v o
  effect_leaves b framed (Detach v) o = word_set_node f b framed 1 j v o
  effect_leaves b framed (Free c) o = word_other _ f.free j c o.1 ∙ word_set_cell f b framed c j _ o.0

pub turn_leaves_words : TurnLeavesWords
unfolding turn_bytes carried_out frame_of_width
turn_leaves_words b e t c j o a =
    let f = frame_in b in
    let p = turn_plan f b t c in
    let framed = (good b e).framed in
    pick_good (λ x. word x j ≡ word b j) (changes_nothing p.answer) (λ k. refl)
    (λ k. effect_leaves f j (set_thread_in f b t p.thread)
    (subst (Framed f) (sym (length-set_thread_in f b t p.thread)) framed) p.effect o
    ∙ word_set_thread f b framed t j p.thread a)

-- an item in range is less than the value of an empty node
less_than_empty : (i : Item) → i.key < 2 ^ 32 → i.tag ≤ greatest_tag → item_lt i top_item ≡ true
unfolding item_lt
less_than_empty i key tag = ap not (item_below_top i (omega arith) tag)

pub empty_is_above : EmptyIsAbove
unfolding shared_in
empty_is_above b e =
    let f = frame_in b in
    let g = good b e in
    let cell = (good_shared f b g).cell in
    let thread : (t : ℕ) → FieldsGood counter_size f.shape (thread_in f b t) = λ t. (good_thread f b g t).fields in
    record {
      cells = λ c. less_than_empty _ (cell c).key (cell c).tag;
      items = λ t. less_than_empty _ (thread t).item_key (thread t).item_tag;
      first = λ t. less_than_empty _ (thread t).first.head.key (thread t).first.head.tag;
      second = λ t. less_than_empty _ (thread t).second.head.key (thread t).second.head.tag;
      third = λ t. less_than_empty _ (thread t).third.head.key (thread t).third.head.tag;
    }
