-- A property that every call and every turn keeps holds all along a history. P holds of a region and of what is known beside it, for demand
-- 3 the ledger; F says of the region before a moment and of the moment how the latter follows. Assumes nothing.
use Prim.Native.Nat.{ℕ, ◌/◌}
use mathlib.Core.Path.{◌≡◌, refl, sym, subst, ◌∙◌}
use mathlib.Core.Bool.{Bool, true, false, ◌||◌}
use mathlib.Core.List.{List, [], ◌∷◌, ◌++◌, append_assoc}
use borrow.Author.Tests.{ne_eqb}
use lib.Dec.{eqb}
use lib.ListN.{length}
use Rattle.region.specs.Refusal.{done}
use Rattle.region.specs.Pick.{pick}
use Rattle.region.specs.declared.answer.Answer.{Answer}
use Rattle.region.specs.declared.answer.Answer.TheVariants.{Moved, Idle, Inserted, Took, Empty, Refused, Withdrawn}
use Rattle.region.specs.declared.frame.Frame.{Frame}
use Rattle.region.specs.declared.place.Place.TheVariants.{InsertAtRoot, InsertBelow, ReadRoot, RemoveHead, MendReadNode, ListReadRoot, RemoveList}
use Rattle.region.specs.declared.record.Item.{Item}
use Rattle.region.specs.declared.shape.Shape.{Shape}
use Rattle.region.proofs.Picks.{pick_good}
use Rattle.layout.specs.Layout.{layout_refusal, layout_bytes}
use Rattle.convert.specs.Convert.{convert_refusal, converted_bytes}
use Rattle.readable.specs.Readable.{check_answer, frame_in}
use Rattle.permission.specs.Permit.{permit_bytes, permit_refusal}
use Rattle.begin.specs.Begin.{put_bytes, put_refusal, take_bytes, take_refusal}
use Rattle.run.specs.Run.{Served, Turn, run_refusal, run_result, serve, serve_all, so_far, turns_from}
use Rattle.machine.specs.Turn.{turn_bytes}
use Rattle.theory.specs.Told.{Told, nothing, begins_put, begins_take, begins_list, decides_put, decides_take, decides_list, decides_empty, answers_took, withdraws}
use Rattle.bag.specs.Calls.{Call, layout, convert, put, take, list, permit, run, check, NoAcceptedLayout, after, refusal_of}
use Rattle.bag.specs.History.{Event, called, turned, Moment, ServedTurn, call_moments, history, served_moments, served_on, turn_moments}
use Rattle.bag.specs.Moments.{EachMoment, region_after}
use Rattle.bag.specs.Told.{answer_tells, call_tells, stands, tells}

refused_layout : (b : List ℕ) (x : Shape) (ps : List ℕ) → (layout_refusal x ps (length b) ≡ done → ⊥) → layout_bytes x ps b ≡ b
unfolding layout_bytes pick
refused_layout b x ps h = rw (ne_eqb (layout_refusal x ps (length b)) done h) refl

refused_conversion : (old b : List ℕ) → (convert_refusal old (length b) ≡ done → ⊥) → converted_bytes old b ≡ b
unfolding converted_bytes pick
refused_conversion old b h = rw (ne_eqb (convert_refusal old (length b)) done h) refl

-- a call tells nothing, or that an operation begins
pub called_so : (P : Told → Type 0) → P nothing → ((t : ℕ) (i : Item) → P (begins_put t i)) → ((t : ℕ) → P (begins_take t))
    → ((t : ℕ) → P (begins_list t)) → (c : Call) (r : ℕ) → P (tells (called c r))
called_so P quiet putter taker lister c r = pick_good P (eqb r done) (λ e. go c) (λ e. quiet)
  where
    go : (c : Call) → P (call_tells c)
    go (layout s permissions) = quiet
    go (convert old) = quiet
    go (put t i) = putter t i
    go (take t) = taker t
    go (list t) = lister t
    go (permit t p) = quiet
    go (run schedule limit answers) = quiet
    go check = quiet

-- a served turn tells nothing, or by its answer and its place what was decided, answered or withdrawn
pub turned_so : (P : Told → Type 0) (y : ServedTurn) → P nothing
    → (y.answer ≡ Moved → stands y.from RemoveHead ≡ true → P (decides_take y.thread y.root))
    → (y.answer ≡ Moved → stands y.from RemoveList ≡ true → P (decides_list y.thread y.list))
    → (y.answer ≡ Inserted → stands y.from InsertAtRoot || stands y.from InsertBelow ≡ true → P (decides_put y.thread))
    → ((i : Item) → P (answers_took y.thread i))
    → (y.answer ≡ Empty → stands y.from ReadRoot || stands y.from ListReadRoot ≡ true → P (decides_empty y.thread))
    → (y.answer ≡ Withdrawn → P (withdraws y.thread))
    → P (tells (turned y))
turned_so P y quiet takes lists inserts took empties withdrew = go y.answer refl
  where
    go : (a : Answer) → y.answer ≡ a → P (answer_tells y a)
    go Moved e =
        pick_good P (stands y.to (MendReadNode 0))
        (λ k. pick_good P (stands y.from RemoveHead) (takes e) (λ h. pick_good P (stands y.from RemoveList) (lists e) (λ r. quiet)))
        (λ k. quiet)
    go Idle e = quiet
    go Inserted e = pick_good P (stands y.from InsertAtRoot || stands y.from InsertBelow) (inserts e) (λ k. quiet)
    go (Took i) e = took i
    go Empty e = pick_good P (stands y.from ReadRoot || stands y.from ListReadRoot) (empties e) (λ k. quiet)
    go (Refused n) e = quiet
    go Withdrawn e = withdrew e

-- e happened and left b: what is known afterwards follows from x, and P holds of both
pub record Next {E X : Type 0} (P : List ℕ → X → Type 0) (F : E → X → X → Type 0) (x : X) (e : E) (b : List ℕ) : Type 0 where
  pub next : X
  pub follows : F e x next
  pub region : P b next

module _ {X : Type 0} (P : List ℕ → X → Type 0) (F : List ℕ → Moment → X → X → Type 0) where
  -- every moment follows the one before and leaves a region of which P holds; b is the region before the first
  abbrev pub Kept : List ℕ → X → List Moment → Type 0
  Kept b x [] = Unit
  Kept b x (m ∷ ms) = (x' : X) × F b m x x' × P m.region x' × Kept m.region x' ms

  -- what is known somewhere on the way
  pub kept_on : (earlier later : List Moment) (b : List ℕ) (x : X) → Kept b x (earlier ++ later) → (x' : X) × Kept (region_after b earlier) x' later
  kept_on [] later b x k = (x, k)
  kept_on (m ∷ earlier) later b x k = kept_on earlier later m.region k.0 k.3

  pub kept_after : (earlier later : List Moment) (b : List ℕ) (x : X) → P b x → Kept b x (earlier ++ later)
      → (x' : X) × P (region_after b earlier) x'
  kept_after [] later b x g k = (x, g)
  kept_after (m ∷ earlier) later b x g k = kept_after earlier later m.region k.0 k.2 k.3

  -- what F says of every moment
  pub kept_each : (Q : List ℕ → Moment → Type 0) → ((b : List ℕ) (m : Moment) (x x' : X) → F b m x x' → Q b m)
      → (ms : List Moment) (b : List ℕ) (x : X) → Kept b x ms → EachMoment Q b ms
  kept_each Q h [] b x k = tt
  kept_each Q h (m ∷ ms) b x k = (h b m x k.0 k.1, kept_each Q h ms m.region k.0 k.3)

  -- one moment, and what comes behind it
  abbrev pub Then : List ℕ → X → Event → List ℕ → Type 0
  Then b x e b' = Next P (F b) x (record { event = e; region = b' }) b'

  then : (b : List ℕ) (x : X) (e : Event) (b' : List ℕ) (rest : List Moment) → Then b x e b' → ((x' : X) → P b' x' → Kept b' x' rest)
      → Kept b x (record { event = e; region = b' } ∷ rest)
  then b x e b' rest n k = (n.next, n.follows, n.region, k n.next n.region)

  -- the frame f and the length l stay all along
  module _ (f : Frame) (l : ℕ)
      (framed : (b : List ℕ) (x : X) → P b x → frame_in b ≡ f)
      (long : (b : List ℕ) (x : X) → P b x → length b ≡ l)
      (put_next : (b : List ℕ) (x : X) → P b x → (t : ℕ) (i : Item) → Then b x (called (put t i) (put_refusal b t i)) (put_bytes b t i))
      (take_next : (b : List ℕ) (x : X) → P b x → (t : ℕ) → Then b x (called (take t) (take_refusal b t)) (take_bytes b t ReadRoot))
      (list_next : (b : List ℕ) (x : X) → P b x → (t : ℕ) → Then b x (called (list t) (take_refusal b t)) (take_bytes b t ListReadRoot))
      (permit_next : (b : List ℕ) (x : X) → P b x → (t p : ℕ) → Then b x (called (permit t p) (permit_refusal b t p)) (permit_bytes b t p))
      (turn_next : (b : List ℕ) (x : X) → P b x → (t : Turn)
      → Then b x (turned (served_on f b t)) (turn_bytes f b t.thread t.choice))
      -- any other call tells nothing, and its own moment leaves the region as it is
      (still : (b : List ℕ) (x : X) → P b x → (c : Call) (r : ℕ) → call_tells c ≡ nothing → Then b x (called c r) b) where
    -- the turns of a run
    turns_kept : (limit : ℕ) (ts : List Turn) (r : Served) (x : X) → P r.region x → (rest : List Moment)
        → ((x' : X) → P (serve_all f limit ts r).region x' → Kept (serve_all f limit ts r).region x' rest)
        → Kept r.region x (turn_moments f limit ts r ++ rest)
    unfolding turn_moments serve_all serve pick
    turns_kept limit [] r x g rest k = k x g
    turns_kept limit (t ∷ ts) r x g rest k = go (eqb r.accesses limit) k (turns_kept limit ts (serve f t r))
      where
        go : (q : Bool) → ((x' : X) → P (pick q r (serve_all f limit ts (serve f t r))).region x'
            → Kept (pick q r (serve_all f limit ts (serve f t r))).region x' rest)
            → ((x : X) → P (serve f t r).region x → (rest : List Moment)
            → ((x' : X) → P (serve_all f limit ts (serve f t r)).region x' → Kept (serve_all f limit ts (serve f t r)).region x' rest)
            → Kept (serve f t r).region x (turn_moments f limit ts (serve f t r) ++ rest))
            → Kept r.region x (pick q [] (record { event = turned (served_on f r.region t); region = (serve f t r).region }
            ∷ turn_moments f limit ts (serve f t r)) ++ rest)
        go true k more = k x g
        go false k more =
            then r.region x (turned (served_on f r.region t)) (serve f t r).region
            (turn_moments f limit ts (serve f t r) ++ rest) (turn_next r.region x g t) (λ x' g'. more x' g' rest k)

    run_kept : (limit : ℕ) (ts : List Turn) (r : Served) (x : X) → P r.region x → (rest : List Moment) (q : Bool)
        → ((x' : X) → P (pick q (serve_all f limit ts r) r).region x' → Kept (pick q (serve_all f limit ts r) r).region x' rest)
        → Kept r.region x (pick q (turn_moments f limit ts r) [] ++ rest)
    unfolding pick
    run_kept limit ts r x g rest true k = turns_kept limit ts r x g rest k
    run_kept limit ts r x g rest false k = k x g

    -- a call, and what comes behind it
    module _ (b : List ℕ) (x : X) (g : P b x) where
      run_call : (schedule : List ℕ) (limit : ℕ) (answers : List ℕ) (rest : List Moment)
          → ((x' : X) → P (after b (run schedule limit answers)) x' → Kept (after b (run schedule limit answers)) x' rest)
          → Kept b x (call_moments b (run schedule limit answers) ++ rest)
      unfolding call_moments served_moments after refusal_of run_result
      run_call schedule limit answers rest k =
          let n = run_refusal b schedule (length answers) in
          let q = eqb n done in
          let ts = turns_from schedule 0 (length schedule / 8) in
          let r = so_far b answers 0 0 in
          let b' = (pick q (serve_all (frame_in b) limit ts r) r).region in
          let e = called (run schedule limit answers) n in
          let last : Moment = record { event = e; region = b' } in
          subst (Kept b x) (sym (append_assoc (pick q (turn_moments (frame_in b) limit ts r) []) (last ∷ []) rest))
          (subst (λ y. ((x' : X) → P (pick q (serve_all y limit ts r) r).region x'
          → Kept (pick q (serve_all y limit ts r) r).region x' (last ∷ rest))
          → Kept b x (pick q (turn_moments y limit ts r) [] ++ last ∷ rest)) (sym (framed b x g))
          (run_kept limit ts r x g (last ∷ rest) q)
          (λ x' g'. then b' x' e b' rest (still b' x' g' (run schedule limit answers) n refl) k))

      call_kept : (c : Call) (cs : List Call) → NoAcceptedLayout (length b) (c ∷ cs) → (rest : List Moment)
          → ((x' : X) → P (after b c) x' → NoAcceptedLayout (length b) cs → Kept (after b c) x' rest) → Kept b x (call_moments b c ++ rest)
      unfolding call_moments served_moments after refusal_of
      call_kept (layout y ps) cs h rest k =
          let n = layout_refusal y ps (length b) in
          then b x (called (layout y ps) n) (layout_bytes y ps b) rest
          (subst (Then b x (called (layout y ps) n)) (sym (refused_layout b y ps h.0)) (still b x g (layout y ps) n refl))
          (λ x' g'. k x' g' h.1)
      call_kept (convert old) cs h rest k =
          let n = convert_refusal old (length b) in
          then b x (called (convert old) n) (converted_bytes old b) rest
          (subst (Then b x (called (convert old) n)) (sym (refused_conversion old b h.0)) (still b x g (convert old) n refl))
          (λ x' g'. k x' g' h.1)
      call_kept (put t i) cs h rest k =
          then b x (called (put t i) (put_refusal b t i)) (put_bytes b t i) rest (put_next b x g t i) (λ x' g'. k x' g' h)
      call_kept (take t) cs h rest k =
          then b x (called (take t) (take_refusal b t)) (take_bytes b t ReadRoot) rest (take_next b x g t) (λ x' g'. k x' g' h)
      call_kept (list t) cs h rest k =
          then b x (called (list t) (take_refusal b t)) (take_bytes b t ListReadRoot) rest (list_next b x g t) (λ x' g'. k x' g' h)
      call_kept (permit t p) cs h rest k =
          then b x (called (permit t p) (permit_refusal b t p)) (permit_bytes b t p) rest (permit_next b x g t p) (λ x' g'. k x' g' h)
      call_kept (run schedule limit answers) cs h rest k = run_call schedule limit answers rest (λ x' g'. k x' g' h)
      call_kept check cs h rest k =
          then b x (called check (check_answer b)) b rest (still b x g check (check_answer b) refl) (λ x' g'. k x' g' h)

    -- every list of calls
    pub calls_kept : (cs : List Call) (b : List ℕ) (x : X) → P b x → NoAcceptedLayout (length b) cs → Kept b x (history b cs)
    unfolding history
    calls_kept [] b x g h = tt
    calls_kept (c ∷ cs) b x g h =
        call_kept b x g c cs h (history (after b c) cs)
        (λ x' g' h'. calls_kept cs (after b c) x' g' (subst (λ n. NoAcceptedLayout n cs) (long b x g ∙ sym (long (after b c) x' g')) h'))
