-- Demand 3: the invariant holds of a laid-out region with the empty ledger, and every call and turn keeps it. Assumes nothing.
use Prim.Native.Nat.{ℕ, ◌*◌}
use native.Mathlib.Omega.{arith}
use mathlib.Core.Path.{◌≡◌, refl, sym, ap, subst, subst₂, ◌∙◌}
use mathlib.Core.Bool.{Bool, true, false, ◌||◌, true≢false}
use mathlib.Core.List.{List, [], ◌∷◌, ◌++◌}
use borrow.Author.Tests.{eqb-true}
use lib.Dec.{eqb}
use lib.ListN.{length}
use Rattle.region.specs.Refusal.{done}
use Rattle.region.specs.Frame.{frame_of, frame_of_width}
use Rattle.region.specs.Pick.{pick}
use Rattle.region.specs.Shape.{region_words}
use Rattle.region.specs.Shared.{shared_in, thread_in}
use Rattle.region.specs.Thread.{gone_idle, is_idle}
use Rattle.region.specs.declared.frame.Frame.{Frame}
use Rattle.region.specs.declared.place.Place.{Place}
use Rattle.region.specs.declared.place.Place.TheVariants.{ReadRoot, ListReadRoot}
use Rattle.region.specs.declared.record.Item.{Item}
use Rattle.region.specs.declared.shape.Shape.{Shape}
use Rattle.layout.specs.Layout.{layout_bytes, layout_refusal}
use Rattle.layout.proofs.Laws.{laid_exact}
use Rattle.readable.specs.Readable.{readable, frame_in, shape_in}
use Rattle.readable.proofs.Laws.{readable-length}
use Rattle.readable.proofs.Stores.{Keeps, readable_kept, shape_kept}
use Rattle.permission.specs.Permit.{permit_bytes, permit_refusal}
use Rattle.permission.proofs.Laws.{permit_bytes_in_lem}
use Rattle.begin.specs.Begin.{BeginsAt, one_item, put_bytes, put_refusal, take_bytes, take_bytes_in, take_refusal, take_refusal_in, whole_list}
use Rattle.begin.proofs.Laws.{put_bytes_in_lem, put_refusal_in_lem, take_bytes_in_lem, take_refusal_in_lem}
use Rattle.run.specs.Run.{Turn}
use Rattle.machine.specs.Turn.{turn_bytes, turn_plan}
use Rattle.preserved.proofs.Proved.{permit_keeps, put_keeps, take_keeps, turn_keeps}
use Rattle.preserved.proofs.LaidOutIsReadable.{laid_out_is_readable, same_shape}
use Rattle.theory.specs.Ledger.{Ledger, Follows, empty_ledger, none, still, still_owing}
use Rattle.theory.specs.Told.{Told, nothing, begins_put, begins_take, begins_list}
use Rattle.theory.proofs.Facts.{idle_without, none_when_idle, stage}
use Rattle.theory.proofs.Leaves.{or_none}
use Rattle.theory.proofs.Steps.{root_sorted}
use Rattle.bag.specs.Calls.{Call, NoAcceptedLayout, put, take, list, permit}
use Rattle.bag.specs.Demand3.{Agrees, AnswerSays, HoldsTheSame, RegionIsABag, in_tree}
use Rattle.bag.specs.History.{Event, called, turned, Moment, history, root_item, root_items, served_on}
use Rattle.bag.specs.Moments.{EachMoment, InEveryHistory, region_after}
use Rattle.bag.specs.Operations.{beginning, withdrawing}
use Rattle.bag.specs.Permission.{FreeAgain, Granted, StaysBarred, WithdrawnLeaves, Withdrew, makes}
use Rattle.bag.specs.Told.{call_tells, tells}
use Rattle.bag.specs.TookInOrder.{TookInOrder}
use Rattle.bag.specs.Tries.{tried_after}
use Rattle.bag.proofs.Answers.{turn_says, turn_tells}
use Rattle.bag.proofs.Histories.{Kept, Next, Then, called_so, calls_kept, kept_each, kept_on}
use Rattle.bag.proofs.Operations.{Followed, at_most_once, exactly_once, withdrawn_never}
use Rattle.bag.proofs.Permission.{barred_put, barred_take, barred_turn, turn_granted, turn_withdrawn, withdrawn_frees, withdrawn_idle}
use Rattle.bag.proofs.Regions.{Follow, Region, list_follows, permit_follows, put_follows, take_follows, turn_next}
use Rattle.bag.proofs.Start.{laid_region}
use Rattle.bag.proofs.TookInOrder.{Rises, all_paid, effect_rises, removal_owes, removal_rises, sorted_rises}
use Rattle.bag.proofs.Tries.{RemembersIn, TriesKept, permit_remembers, put_remembers, take_remembers, tries, turn_begins_none, turned_remembers}

-- the readable region of one queue of shape s, on which the invariant holds with all its cells accounted for
pub record QueueRegion (s : Shape) (b : List ℕ) (l : Ledger) : Type 0 where
  pub reads : readable b ≡ true
  pub shape : shape_in b ≡ s
  pub region : Region (frame_in b) (shape_in b).cells b l

module _ (s : Shape) (b : List ℕ) (l : Ledger) (g : QueueRegion s b l) where
  abbrev f : Frame
  f = frame_in b

  abbrev all : ℕ
  all = (shape_in b).cells

  pub queue_frame : frame_in b ≡ frame_of s
  queue_frame = ap frame_of g.shape

  pub queue_long : length b ≡ 4 * region_words s
  queue_long = readable-length b g.reads ∙ ap (λ x. 4 * region_words x) g.shape

  -- what keeps the bytes in range keeps the region one of this queue
  still_queue : {told : Told} {b' : List ℕ} → Keeps f b b' → Follow f all l told b' → Next (QueueRegion s) Follows l told b'
  still_queue {b' = b'} k n =
      let same = shape_kept b b' g.reads k in
      record {
        next = n.next;
        follows = n.follows;
        region =
            record {
              reads = readable_kept b b' g.reads k;
              shape = same ∙ g.shape;
              region = subst (λ x. Region (frame_of x) x.cells b' n.next) (sym same) n.region;
            };
      }

  -- a turn
  turn_followed : (x : Turn) → Next (QueueRegion s) Follows l (tells (turned (served_on (frame_of s) b x)))
      (turn_bytes (frame_of s) b x.thread x.choice)
  turn_followed x =
      subst (λ y. Next (QueueRegion s) Follows l (tells (turned (served_on y b x))) (turn_bytes y b x.thread x.choice)) queue_frame
      (still_queue (turn_keeps f b g.region.good x.thread x.choice) (turn_next f all b l g.region x))

  turn_answered : (x : Turn) → AnswerSays (turned (served_on (frame_of s) b x))
  unfolding served_on
  turn_answered x = subst (λ y. AnswerSays (turned (served_on y b x))) queue_frame (turn_says f b g.region.good x)

  turn_rises : (x : Turn) → Rises (tells (turned (served_on (frame_of s) b x)))
  turn_rises x =
      let t = x.thread in
      let p = turn_plan f b t x.choice in
      subst (λ y. Rises (tells (turned (served_on y b x)))) queue_frame
      (subst Rises (sym (turn_tells f b g.region.good x))
      (effect_rises (root_item f b) (root_items f b) t (sorted_rises (root_items f b) (root_sorted f.shape (shared_in f b) _ g.region.holds.mound))
      p.answer p.effect))

  -- the beginnings, refused or not
  put_followed : (t : ℕ) (i : Item)
      → Next (QueueRegion s) Follows l (pick (eqb (put_refusal b t i) done) (begins_put t i) nothing) (put_bytes b t i)
  put_followed t i =
      subst₂ (λ n x. Next (QueueRegion s) Follows l (pick (eqb n done) (begins_put t i) nothing) x)
      (sym (put_refusal_in_lem b g.reads t i)) (sym (put_bytes_in_lem b g.reads t i))
      (still_queue (put_keeps f b g.region.good t i) (put_follows f all b l g.region t i))

  begins_so : (t : ℕ) (p : Place) → BeginsAt p → (told : Told)
      → Follow f all l (pick (eqb (take_refusal_in f b t) done) told nothing) (take_bytes_in f b t p)
      → Next (QueueRegion s) Follows l (pick (eqb (take_refusal b t) done) told nothing) (take_bytes b t p)
  begins_so t p at told n =
      subst₂ (λ n x. Next (QueueRegion s) Follows l (pick (eqb n done) told nothing) x)
      (sym (take_refusal_in_lem b g.reads t)) (sym (take_bytes_in_lem b g.reads t p))
      (still_queue (take_keeps f b g.region.good t p at) n)

  take_followed : (t : ℕ) → Next (QueueRegion s) Follows l (pick (eqb (take_refusal b t) done) (begins_take t) nothing) (take_bytes b t ReadRoot)
  take_followed t = begins_so t ReadRoot one_item (begins_take t) (take_follows f all b l g.region t)

  list_followed : (t : ℕ) → Next (QueueRegion s) Follows l (pick (eqb (take_refusal b t) done) (begins_list t) nothing) (take_bytes b t ListReadRoot)
  list_followed t = begins_so t ListReadRoot whole_list (begins_list t) (list_follows f all b l g.region t)

  permit_followed : (t p : ℕ) → Next (QueueRegion s) Follows l nothing (permit_bytes b t p)
  permit_followed t p =
      subst (Next (QueueRegion s) Follows l nothing) (sym (permit_bytes_in_lem b g.reads t p))
      (still_queue (permit_keeps f b g.region.good t p) (permit_follows f all b l g.region t p))

  -- A thread that is idle with an empty list: of whose call or turn only the bytes of its own are asked.
  turn_barred : (x : Turn) → StaysBarred b (record { event = turned (served_on (frame_of s) b x); region = turn_bytes (frame_of s) b x.thread x.choice })
  unfolding served_on
  turn_barred x t idle empty made =
      subst (λ y. turn_bytes y b x.thread x.choice ≡ b) queue_frame
      (subst (λ u. turn_bytes f b u x.choice ≡ b) (eqb-true t x.thread made) (barred_turn f b t idle empty x.choice))

  put_barred : (u r : ℕ) (i : Item) → StaysBarred b (record { event = called (put u i) r; region = put_bytes b u i })
  put_barred u r i t idle empty made =
      subst (λ v. put_bytes b v i ≡ b) (eqb-true t u made) (put_bytes_in_lem b g.reads t i ∙ barred_put f b t idle empty i)

  take_barred : (u : ℕ) (p : Place) (e : Event) → ((t : ℕ) → makes t e ≡ true → t ≡ u) → StaysBarred b (record { event = e; region = take_bytes b u p })
  take_barred u p e same t idle empty made =
      subst (λ v. take_bytes b v p ≡ b) (same t made) (take_bytes_in_lem b g.reads t p ∙ barred_take f b t idle empty p)

  -- what is remembered of a put's tries
  put_tries : (u : ℕ) (i : Item) (t : ℕ) (q : Bool) → RemembersIn f b t q
      → RemembersIn f (put_bytes b u i) t (tried_after t q b (called (put u i) (put_refusal b u i)))
  put_tries u i t q h =
      subst₂ (λ n x. RemembersIn f x t (tried_after t q b (called (put u i) n)))
      (sym (put_refusal_in_lem b g.reads u i)) (sym (put_bytes_in_lem b g.reads u i)) (put_remembers f all b l g.region u i t q h)

  begin_tries : (p : Place) → BeginsAt p → (c : ℕ → Call) → ((t u : ℕ) → beginning t (call_tells (c u)) ≡ eqb t u) → (u t : ℕ) (q : Bool)
      → RemembersIn f b t q → RemembersIn f (take_bytes b u p) t (tried_after t q b (called (c u) (take_refusal b u)))
  begin_tries p at c begins_it u t q h =
      subst₂ (λ n x. RemembersIn f x t (tried_after t q b (called (c u) n)))
      (sym (take_refusal_in_lem b g.reads u)) (sym (take_bytes_in_lem b g.reads u p))
      (take_remembers f all b l g.region p at (λ v. call_tells (c v)) begins_it u t q h)

  -- a call that tells nothing
  quiet_tries : (c : Call) (r : ℕ) (b' : List ℕ) → call_tells c ≡ nothing → (t : ℕ) (q : Bool) → RemembersIn f b' t (q || false)
      → RemembersIn f b' t (tried_after t q b (called c r))
  unfolding pick
  quiet_tries c r b' quiet t q h = go (eqb r done)
    where
      go : (x : Bool) → RemembersIn f b' t (pick (beginning t (pick x (call_tells c) nothing)) false (q || false))
      go true = subst (λ x. RemembersIn f b' t (pick (beginning t x) false (q || false))) (sym quiet) h
      go false = h

  permit_tries : (u p t : ℕ) (q : Bool) → RemembersIn f b t q
      → RemembersIn f (permit_bytes b u p) t (tried_after t q b (called (permit u p) (permit_refusal b u p)))
  permit_tries u p t q h =
      quiet_tries (permit u p) (permit_refusal b u p) (permit_bytes b u p) refl t q
      (subst (λ x. RemembersIn f x t (q || false)) (sym (permit_bytes_in_lem b g.reads u p)) (permit_remembers f all b l g.region u p t q h))

  still_tries : (c : Call) (r : ℕ) → call_tells c ≡ nothing → (t : ℕ) (q : Bool) → RemembersIn f b t q
      → RemembersIn f b t (tried_after t q b (called c r))
  still_tries c r quiet t q h = quiet_tries c r b quiet t q (subst (RemembersIn f b t) (sym (or_none q)) h)

  turn_tries : (x : Turn) (t : ℕ) (q : Bool) → RemembersIn f b t q
      → RemembersIn f (turn_bytes f b x.thread x.choice) t (tried_after t q b (turned (served_on f b x)))
  unfolding served_on pick frame_of_width
  turn_tries x t q h =
      let y = served_on f b x in
      subst
      (λ begun. RemembersIn f (turn_bytes f b x.thread x.choice) t (pick begun false (q || tries f all b l g.region x t)))
      (sym (turn_begins_none t y)) (turned_remembers f all b l g.region x t q h)

  -- in a region of the same shape
  tries_kept : (e : Event) (b' : List ℕ) → shape_in b' ≡ s
      → ((t : ℕ) (q : Bool) → RemembersIn f b t q → RemembersIn f b' t (tried_after t q b e))
      → TriesKept b (record { event = e; region = b' })
  tries_kept e b' same h t q r = subst (λ y. RemembersIn y b' t (tried_after t q b e)) (ap frame_of (g.shape ∙ sym same)) (h t q r)

  -- a withdrawn turn
  turn_leaves : (x : Turn) → WithdrawnLeaves b (record { event = turned (served_on (frame_of s) b x); region = turn_bytes (frame_of s) b x.thread x.choice })
  turn_leaves x =
      subst
      (λ y. WithdrawnLeaves b (record { event = turned (served_on y b x); region = turn_bytes y b x.thread x.choice })) queue_frame
      (λ t h.
      let w = turn_withdrawn f b x t h in
      let b' = turn_bytes f b x.thread x.choice in
      let n = still_queue (turn_keeps f b g.region.good x.thread x.choice) (turn_next f all b l g.region x) in
      let same : frame_in b' ≡ f = ap frame_of (n.region.shape ∙ sym g.shape) in
      subst (λ u. Withdrew u b b') (sym w.1)
      (record {
        idle = subst (λ y. thread_in y b' x.thread ≡ gone_idle (thread_in f b x.thread)) (sym same) (withdrawn_idle f b g.region.good x.thread x.choice w.0);
        cell = λ k.
            subst (λ y. FreeAgain y b' (thread_in f b x.thread).own) (sym same)
            (withdrawn_frees f b g.region.good x.thread x.choice w.0 k
            (turn_next f all b l g.region x).region.holds);
      }))

  -- the bag holds exactly what the tree holds
  tree_agrees : HoldsTheSame l b
  unfolding in_tree frame_of_width
  tree_agrees i = g.region.holds.bag i

  -- any other call tells nothing
  call_still : (c : Call) (r : ℕ) → call_tells c ≡ nothing → Next (QueueRegion s) Follows l (tells (called c r)) b
  unfolding pick
  call_still c r e = go (eqb r done)
    where
      go : (q : Bool) → Next (QueueRegion s) Follows l (pick q (call_tells c) nothing) b
      go true = record { next = l; follows = subst (λ x. Follows x l l) (sym e) still; region = g }
      go false = record { next = l; follows = still; region = g }

-- it begins with a layout
pub laid_queue : (s : Shape) (ps b : List ℕ) → layout_refusal s ps (length b) ≡ done → QueueRegion s (layout_bytes s ps b) empty_ledger
laid_queue s ps b e =
    let same = same_shape s ps b e in
    record {
      reads = laid_out_is_readable s ps b e;
      shape = same;
      region = subst (λ x. Region (frame_of x) x.cells (layout_bytes s ps b) empty_ledger) (sym same) (laid_region s ps b e);
    }

-- at every moment, b being the region before it, the ledger follows, the answer says what was told, a list that is removed never falls, what
-- request 5 says holds, and leaf words remember tries (request 8)
pub record Moves (b : List ℕ) (m : Moment) (l l' : Ledger) : Type 0 where
  pub follows : Follows (tells m.event) l l'
  pub says : AnswerSays m.event
  pub rises : Rises (tells m.event)
  pub granted : Granted b (tells m.event)
  pub leaves : WithdrawnLeaves b m
  pub barred : StaysBarred b m
  pub tries : TriesKept b m

-- a call removes no list, decides nothing and withdraws nothing
called_next : (s : Shape) (b : List ℕ) (l : Ledger) → QueueRegion s b l → (c : Call) (r : ℕ) {b' : List ℕ}
    → StaysBarred b (record { event = called c r; region = b' })
    → ((t : ℕ) (q : Bool) → RemembersIn (frame_in b) b t q → RemembersIn (frame_in b) b' t (tried_after t q b (called c r)))
    → Next (QueueRegion s) Follows l (tells (called c r)) b' → Then (QueueRegion s) Moves b l (called c r) b'
called_next s b l g c r {b'} h tries n =
    record {
      next = n.next;
      follows =
          record {
            follows = n.follows;
            says = tt;
            rises = called_so Rises tt (λ t i. tt) (λ t. tt) (λ t. tt) c r;
            granted = called_so (Granted b) tt (λ t i. tt) (λ t. tt) (λ t. tt) c r;
            leaves = λ t w.
                absurd (true≢false
                (sym w ∙ called_so (λ x. withdrawing t x ≡ false) refl (λ u i. refl) (λ u. refl) (λ u. refl) c r));
            barred = h;
            tries = tries_kept s b l g (called c r) b' n.region.shape tries;
          };
      region = n.region;
    }

turned_next : (s : Shape) (b : List ℕ) (l : Ledger) → QueueRegion s b l → (x : Turn)
    → Then (QueueRegion s) Moves b l (turned (served_on (frame_of s) b x)) (turn_bytes (frame_of s) b x.thread x.choice)
turned_next s b l g x =
    let n = turn_followed s b l g x in
    record {
      next = n.next;
      follows =
          record {
            follows = n.follows;
            says = turn_answered s b l g x;
            rises = turn_rises s b l g x;
            granted = subst (λ y. Granted b (tells (turned (served_on y b x)))) (queue_frame s b l g) (turn_granted b x);
            leaves = turn_leaves s b l g x;
            barred = turn_barred s b l g x;
            tries =
                tries_kept s b l g (turned (served_on (frame_of s) b x)) (turn_bytes (frame_of s) b x.thread x.choice) n.region.shape
                (subst
                (λ y. (t : ℕ) (q : Bool) → RemembersIn (frame_in b) b t q
                → RemembersIn (frame_in b) (turn_bytes y b x.thread x.choice) t (tried_after t q b (turned (served_on y b x))))
                (queue_frame s b l g) (turn_tries s b l g x));
          };
      region = n.region;
    }

nothing_told : (q : Bool) → nothing ≡ pick q nothing nothing
unfolding pick
nothing_told true = refl
nothing_told false = refl

-- every history of a laid-out region keeps the invariant
pub history_kept : InEveryHistory λ s permissions b ms. Kept (QueueRegion s) Moves b empty_ledger ms
history_kept s ps b e calls h =
    let laid = laid_queue s ps b e in
    calls_kept (QueueRegion s) Moves (frame_of s) (4 * region_words s)
    (λ b l g. queue_frame s b l g) (λ b l g. queue_long s b l g)
    (λ b l g t i. called_next s b l g (put t i) (put_refusal b t i) (put_barred s b l g t (put_refusal b t i) i) (put_tries s b l g t i)
    (put_followed s b l g t i))
    (λ b l g t. called_next s b l g (take t) (take_refusal b t)
    (take_barred s b l g t ReadRoot (called (take t) (take_refusal b t)) (λ u k. eqb-true u t k))
    (begin_tries s b l g ReadRoot one_item take (λ u v. refl) t) (take_followed s b l g t))
    (λ b l g t. called_next s b l g (list t) (take_refusal b t)
    (take_barred s b l g t ListReadRoot (called (list t) (take_refusal b t)) (λ u k. eqb-true u t k))
    (begin_tries s b l g ListReadRoot whole_list list (λ u v. refl) t) (list_followed s b l g t))
    (λ b l g t p. called_next s b l g (permit t p) (permit_refusal b t p) (λ u idle empty made. absurd (true≢false (sym made)))
    (permit_tries s b l g t p)
    (subst (λ x. Next (QueueRegion s) Follows l x (permit_bytes b t p)) (nothing_told (eqb (permit_refusal b t p) done)) (permit_followed s b l g t p)))
    (λ b l g x. turned_next s b l g x)
    (λ b l g c r k. called_next s b l g c r (λ t idle empty made. refl) (still_tries s b l g c r k) (call_still s b l g c r k))
    calls (layout_bytes s ps b) empty_ledger laid
    (subst (λ n. NoAcceptedLayout n calls) (laid_exact s ps b e ∙ sym (queue_long s (layout_bytes s ps b) empty_ledger laid)) h)

-- an operation that owes nothing has no item left
nothing_owed : (is : List Item) → still_owing is ≡ none → is ≡ []
nothing_owed [] e = refl
nothing_owed (i ∷ is) e = absurd (let k = ap stage e in omega arith)

-- what that says of each clause
module _ (s : Shape) where
  agrees : (ms : List Moment) (b : List ℕ) (l : Ledger) → QueueRegion s b l → Kept (QueueRegion s) Moves b l ms → Agrees l b ms
  agrees [] b l g k = tree_agrees s b l g
  agrees (m ∷ ms) b l g k = (tree_agrees s b l g, (k.0, k.1.follows, agrees ms m.region k.0 k.2 k.3))

  followed : (ms : List Moment) (b : List ℕ) (l : Ledger) → Kept (QueueRegion s) Moves b l ms → Followed l ms
  followed [] b l k = tt
  followed (m ∷ ms) b l k = (k.0, k.1.follows, k.1.says, followed ms m.region k.0 k.3)

  took_in_order : (ms : List Moment) (b : List ℕ) (l : Ledger) → Kept (QueueRegion s) Moves b l ms → TookInOrder ms
  unfolding is_idle frame_of_width
  took_in_order ms b l k t x removed before since later split takes z =
      let on = kept_on (QueueRegion s) Moves before (x ∷ (since ++ later)) b l (subst (Kept (QueueRegion s) Moves b l) split k) in
      let now = on.1 in
      let told = tells x.event in
      let p = all_paid t (QueueRegion s) Moves (λ b m l l' f. (f.follows, f.says)) since later x.region now.0 now.2 now.3 z removed
      (removal_owes t told removed takes on.0 now.0 now.1.follows) in
      let b' = region_after x.region since in
      let g = p.region.region.holds in
      let here = thread_in (frame_in b') b' t in
      record {
        rises = removal_rises t told removed takes now.1.rises;
        rest = p.rest;
        next_by_next = p.split;
        all_come = λ e. nothing_owed p.rest
            (sym p.now ∙ none_when_idle (shape_in b') (shared_in (frame_in b') b') here (p.ledger.operation t) here.place (g.at t) e);
        idle_then = λ e.
            idle_without (shape_in b') (shared_in (frame_in b') b') here (p.ledger.operation t) here.place (g.at t)
            (ap stage p.now ∙ ap (λ is. stage (still_owing is)) e);
      }

pub region_is_a_bag : RegionIsABag
region_is_a_bag s ps b e calls n =
    let laid = layout_bytes s ps b in
    let ms = history laid calls in
    let k = history_kept s ps b e calls n in
    let f = followed s ms laid empty_ledger k in
    let each : (Q : List ℕ → Moment → Type 0) → ((b : List ℕ) (m : Moment) (l l' : Ledger) → Moves b m l l' → Q b m) → EachMoment Q laid ms =
    λ Q h. kept_each (QueueRegion s) Moves Q h ms laid empty_ledger k
    in
    record {
      bag = agrees s ms laid empty_ledger (laid_queue s ps b e) k;
      at_most_once = at_most_once empty_ledger ms f;
      answered_once = exactly_once empty_ledger ms f;
      took_in_order = took_in_order s ms laid empty_ledger k;
      answers_say = each (λ before m. AnswerSays m.event) (λ b m l l' h. h.says);
      permitted = each (λ before m. Granted before (tells m.event)) (λ b m l l' h. h.granted);
      withdrawn_never = withdrawn_never empty_ledger ms f;
      withdrawn_leaves = each WithdrawnLeaves (λ b m l l' h. h.leaves);
      empty_list = each StaysBarred (λ b m l l' h. h.barred);
    }
