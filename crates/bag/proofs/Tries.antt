-- What each call and each turn leaves of the leaf words (request 8): they tell whether a put has tried a leaf of level D, and an idle thread has
-- leaf word 0. Assumes nothing.
use Prim.Native.Nat.{ℕ, ◌≤◌}
use native.Mathlib.Decide.{ℕ_discrete}
use mathlib.Core.Path.{◌≡◌, refl, sym, ap, subst, subst₂, ◌∙◌}
use mathlib.Core.Bool.{Bool, true, false, ◌&&◌, ◌||◌, true≢false}
use mathlib.Core.List.{List, [], ◌∷◌, ◌++◌}
use borrow.Author.Tests.{eq-eqb, eqb-true, ne_eqb}
use lib.Dec.{eqb}
use Rattle.region.specs.Refusal.{done}
use Rattle.region.specs.Frame.{frame_of_width}
use Rattle.region.specs.Pick.{pick, upd}
use Rattle.region.specs.Shape.{between}
use Rattle.region.specs.Shared.{Shared, shared_in, thread_in}
use Rattle.region.specs.Thread.{at_place, begun_put, is_idle, with_item, with_own}
use Rattle.region.specs.declared.answer.Answer.{Answer}
use Rattle.region.specs.declared.answer.Answer.TheVariants.{Moved, Idle, Inserted, Took, Empty, Refused, Withdrawn}
use Rattle.region.specs.declared.frame.Frame.{Frame}
use Rattle.region.specs.declared.place.Place.{Place}
use Rattle.region.specs.declared.place.Place.TheVariants.{ReadLeaf}
use Rattle.region.specs.declared.record.Item.{Item}
use Rattle.region.specs.declared.shape.Shape.{Shape}
use Rattle.region.specs.declared.thread.Thread.{Thread}
use Rattle.region.proofs.Picks.{upd_same, upd_other}
use Rattle.access.specs.Effect.{effect_shared}
use Rattle.access.specs.Plan.{accesses_of, changes_nothing}
use Rattle.insert.specs.Insert.{has_tried_deepest, is_leaf_of}
use Rattle.insert.proofs.Laws.{leaf_tests}
use Rattle.permission.specs.Permit.{permit_bytes_in}
use Rattle.permission.specs.Withdraw.{is_put_place}
use Rattle.begin.specs.Begin.{BeginsAt, accepted_put, accepted_take, one_item, put_bytes_in, put_refusal_in, take_bytes_in, take_refusal_in, whole_list}
use Rattle.run.specs.Run.{Turn}
use Rattle.machine.specs.Turn.{turn_answer, turn_bytes, turn_plan}
use Rattle.readable.specs.Readable.{frame_in, shape_in}
use Rattle.preserved.proofs.Proved.{permit_either, put_passed, take_passed}
use Rattle.theory.specs.Ledger.{Ledger, Operation}
use Rattle.theory.specs.Told.{Told, nothing, begins_put}
use Rattle.theory.proofs.Leaves.{Remembers, any_permission, begins_untried, deeper_remembers, never_less_deep, or_none, turn_remembers}
use Rattle.theory.proofs.Plans.{Planned, moves, refuses, rests}
use Rattle.theory.proofs.Steps.{owns}
use Rattle.bag.specs.History.{Moment, ServedTurn, turned}
use Rattle.bag.specs.Moments.{EachMoment, region_after}
use Rattle.bag.specs.Operations.{beginning, begins}
use Rattle.bag.specs.Permission.{thread_on}
use Rattle.bag.specs.Told.{stands}
use Rattle.bag.specs.Tries.{WordTells, tried_after, tried_since}
use Rattle.bag.proofs.Begun.{permit_shared, permit_thread, put_shared, put_threads, take_shared, take_threads}
use Rattle.bag.proofs.Carried.{turn_decides, turn_least, turn_most, turn_shared, turn_stays, turn_threads}
use Rattle.bag.proofs.Histories.{turned_so}
use Rattle.bag.proofs.Regions.{Region, plan_fits, turn_next}

-- thread t's leaf word on bytes under a frame
abbrev pub RemembersIn : Frame → List ℕ → ℕ → Bool → Type 0
RemembersIn f b t q = Remembers f.shape (shared_in f b).depth (thread_in f b t) q

-- an access is made by a turn that is not idle or refused
no_access : (a : Answer) → changes_nothing a ≡ true → eqb (accesses_of a) 1 ≡ false
no_access Moved e = absurd (true≢false (sym e))
no_access Idle e = refl
no_access Inserted e = absurd (true≢false (sym e))
no_access (Took i) e = absurd (true≢false (sym e))
no_access Empty e = absurd (true≢false (sym e))
no_access (Refused n) e = refl
no_access Withdrawn e = absurd (true≢false (sym e))

no_try : (a b c d : Bool) → c ≡ false → a && b && c && d ≡ false
no_try true true c d e = ap (λ x. x && d) e
no_try true false c d e = refl
no_try false b c d e = refl

-- a turn begins nothing
pub turn_begins_none : (t : ℕ) (y : ServedTurn) → begins t (turned y) ≡ false
turn_begins_none t y =
    turned_so (λ x. beginning t x ≡ false) y refl (λ e k. refl) (λ e k. refl) (λ e k. refl) (λ i. refl) (λ e k. refl) (λ e. refl)

module _ (f : Frame) (all : ℕ) (b : List ℕ) (l : Ledger) (g : Region f all b l) where
  abbrev s : Shape
  s = f.shape

  abbrev m : Shared
  m = shared_in f b

  abbrev th : ℕ → Thread
  th = thread_in f b

  -- A turn of thread u with choice c.
  module _ (x : Turn) where
    abbrev u : ℕ
    u = x.thread

    abbrev c : ℕ
    c = x.choice

    abbrev b' : List ℕ
    b' = turn_bytes f b u c

    abbrev access : Bool
    access = eqb (accesses_of (turn_answer f b u c)) 1

    -- whether it is a try of thread t with d at D
    abbrev pub tries : ℕ → Bool
    tries t = eqb t u && stands (th u).place ReadLeaf && access && eqb (th t).depth s.depth

    deep_most : (shared_in f b').depth ≤ s.depth
    deep_most = (turn_next f all b l g x).region.holds.mound.depth_most

    -- one that changes no byte
    quiet_remembers : changes_nothing (turn_plan f b u c).answer ≡ true → (t : ℕ) (q : Bool) → RemembersIn f b t q
        → RemembersIn f b' t (q || tries t)
    unfolding turn_answer
    quiet_remembers e t q h =
        subst (λ y. RemembersIn f b' t (q || y))
        (sym (no_try (eqb t u) (stands (th u).place ReadLeaf) access (eqb (th t).depth s.depth) (no_access (turn_plan f b u c).answer e)))
        (subst (λ y. RemembersIn f y t (q || false)) (sym (turn_stays f b u c e)) (subst (RemembersIn f b t) (sym (or_none q)) h))

    -- any other
    module _ (e : changes_nothing (turn_plan f b u c).answer ≡ false) where
      lt : 1 ≤ u
      lt = turn_least f b u c g.good e

      ut : u ≤ s.threads
      ut = turn_most f b u c g.good e

      grown : m.depth ≤ (shared_in f b').depth
      grown = subst (λ y. m.depth ≤ y.depth) (sym (turn_shared f b u c g.good e)) (go (plan_fits f all b l g u c lt ut))
        where
          go : {op : Operation} {o : ℕ} → Planned s m (owns th) u o op (turn_plan f b u c)
              → m.depth ≤ (effect_shared m (turn_plan f b u c).effect).depth
          go (moves op' al sp ow at) = never_less_deep s m (owns th) u (turn_plan f b u c).effect al
          go (rests y z) = absurd (true≢false (sym (ap changes_nothing z) ∙ e))
          go (refuses y z) = absurd (true≢false (sym (ap changes_nothing z) ∙ e))

      stored : (t : ℕ) → thread_in f b' t ≡ upd th u (turn_plan f b u c).thread t
      stored t = ap (λ y. y t) (turn_threads f b u c g.good e)

      own_remembers : (q : Bool) → RemembersIn f b u q
          → RemembersIn f b' u (q || (stands (th u).place ReadLeaf && access && eqb (th u).depth s.depth))
      unfolding turn_answer
      own_remembers q h =
          let same = turn_decides f b u c lt ut in
          let r = (turn_remembers s m g.holds.mound.depth_most (th u) q h (l.operation u) c access (g.holds.at u)
          (λ k. ap (λ a. eqb (accesses_of a) 1) (ap (λ p. p.answer) same ∙ k))
          ).remembers (ap (λ p. changes_nothing p.answer) (sym same) ∙ e)
          in
          deeper_remembers s grown deep_most
          (subst (λ y. Remembers s m.depth y (q || (stands (th u).place ReadLeaf && access && eqb (th u).depth s.depth)))
          (ap (λ p. p.thread) (sym same) ∙ sym (stored u ∙ upd_same th u (turn_plan f b u c).thread)) r)

      other_remembers : (t : ℕ) (q : Bool) → (t ≡ u → ⊥) → RemembersIn f b t q → RemembersIn f b' t q
      other_remembers t q n h =
          subst (λ y. Remembers s (shared_in f b').depth y q) (sym (stored t ∙ upd_other th u t (turn_plan f b u c).thread n))
          (deeper_remembers s grown deep_most h)

      moved_remembers : (t : ℕ) (q : Bool) → RemembersIn f b t q → RemembersIn f b' t (q || tries t)
      moved_remembers t q h = go (ℕ_discrete t u)
        where
          go : Dec (t ≡ u) → RemembersIn f b' t (q || tries t)
          go (yes k) =
              subst (λ y. RemembersIn f b' y (q || tries y)) (sym k)
              (subst
              (λ y. RemembersIn f b' u (q || (y && stands (th u).place ReadLeaf && access && eqb (th u).depth s.depth)))
              (sym (eq-eqb u u refl)) (own_remembers q (subst (λ y. RemembersIn f b y q) k h)))
          go (no n) =
              subst
              (λ y. RemembersIn f b' t (q || (y && stands (th u).place ReadLeaf && access && eqb (th t).depth s.depth)))
              (sym (ne_eqb t u n)) (subst (RemembersIn f b' t) (sym (or_none q)) (other_remembers t q n h))

    pub turned_remembers : (t : ℕ) (q : Bool) → RemembersIn f b t q → RemembersIn f b' t (q || tries t)
    turned_remembers t q h = go (changes_nothing (turn_plan f b u c).answer) refl
      where
        go : (y : Bool) → changes_nothing (turn_plan f b u c).answer ≡ y → RemembersIn f b' t (q || tries t)
        go true e = quiet_remembers e t q h
        go false e = moved_remembers e t q h

  -- A beginning of thread u's operation, with the leaf word that an idle thread has.
  begun_remembers : (b' : List ℕ) (u : ℕ) (v : Thread) → (shared_in f b').depth ≡ m.depth → thread_in f b' ≡ upd th u v → is_idle v ≡ false
      → v.search_state.leaf ≡ (th u).search_state.leaf → is_idle (th u) ≡ true → (t : ℕ) (q : Bool) → RemembersIn f b t q
      → RemembersIn f b' t (pick (eqb t u) false (q || false))
  unfolding pick
  begun_remembers b' u v same threads busy leaf idle t q h = go (ℕ_discrete t u)
    where
      so : Bool → Type 0
      so x = RemembersIn f b' t (pick x false (q || false))

      go : Dec (t ≡ u) → RemembersIn f b' t (pick (eqb t u) false (q || false))
      go (yes k) =
          let here : thread_in f b' t ≡ v = ap (λ y. y t) threads ∙ ap (upd th u v) k ∙ upd_same th u v in
          let none = subst (λ y. is_idle (th y) ≡ true → (th y).search_state.leaf ≡ 0) k h.idle idle in
          subst so (sym (eq-eqb t u k))
          (subst (λ y. Remembers s (shared_in f b').depth y false) (sym here) (begins_untried s (shared_in f b').depth v busy (leaf ∙ none)))
      go (no n) =
          let here : thread_in f b' t ≡ th t = ap (λ y. y t) threads ∙ upd_other th u t v n in
          subst so (sym (ne_eqb t u n))
          (subst (RemembersIn f b' t) (sym (or_none q)) (subst₂ (λ d y. Remembers s d y q) (sym same) (sym here) h))

  still_remembers : (t : ℕ) (q : Bool) → RemembersIn f b t q → RemembersIn f b t (q || false)
  still_remembers t q h = subst (RemembersIn f b t) (sym (or_none q)) h

  -- refused or not
  pub put_remembers : (u : ℕ) (i : Item) (t : ℕ) (q : Bool) → RemembersIn f b t q
      → RemembersIn f (put_bytes_in f b u i) t
      (pick (beginning t (pick (eqb (put_refusal_in f b u i) done) (begins_put u i) nothing)) false (q || false))
  unfolding put_bytes_in pick begun_put at_place with_item with_own is_idle shared_in
  put_remembers u i t q h = go (eqb (put_refusal_in f b u i) done) refl
    where
      go : (x : Bool) → eqb (put_refusal_in f b u i) done ≡ x
          → RemembersIn f (pick x (accepted_put f b u i) b) t (pick (beginning t (pick x (begins_put u i) nothing)) false (q || false))
      go true e =
          let p = put_passed f b u i (eqb-true (put_refusal_in f b u i) done e) in
          begun_remembers (accepted_put f b u i) u (begun_put (th u) i m.free) (ap (λ y. y.depth) (put_shared f b g.good u i p))
          (put_threads f b g.good u i p) refl refl p.idle t q h
      go false e = still_remembers t q h

  module _ (z : Place) (at : BeginsAt z) (told : ℕ → Told) (begins_it : (t u : ℕ) → beginning t (told u) ≡ eqb t u) where
    busy_at : (z : Place) → BeginsAt z → (v : Thread) → is_idle (at_place v z) ≡ false
    unfolding is_idle at_place
    busy_at z one_item v = refl
    busy_at z whole_list v = refl

    pub take_remembers : (u t : ℕ) (q : Bool) → RemembersIn f b t q
        → RemembersIn f (take_bytes_in f b u z) t
        (pick (beginning t (pick (eqb (take_refusal_in f b u) done) (told u) nothing)) false (q || false))
    unfolding take_bytes_in pick at_place
    take_remembers u t q h = go (eqb (take_refusal_in f b u) done) refl
      where
        go : (x : Bool) → eqb (take_refusal_in f b u) done ≡ x
            → RemembersIn f (pick x (accepted_take f b u z) b) t (pick (beginning t (pick x (told u) nothing)) false (q || false))
        go true e =
            let p = take_passed f b u (eqb-true (take_refusal_in f b u) done e) in
            subst (λ x. RemembersIn f (accepted_take f b u z) t (pick x false (q || false))) (sym (begins_it t u))
            (begun_remembers (accepted_take f b u z) u (at_place (th u) z) (ap (λ y. y.depth) (take_shared f b g.good u z))
            (take_threads f b g.good u p z at) (busy_at z at (th u)) refl p.idle t q h)
        go false e = still_remembers t q h

  -- a permission, set or not
  pub permit_remembers : (k p t : ℕ) (q : Bool) → RemembersIn f b t q → RemembersIn f (permit_bytes_in f b k p) t (q || false)
  permit_remembers k p t q h =
      permit_either f b k p (λ x. RemembersIn f x t (q || false))
      (λ passed.
      let x = permit_thread f b g.good k p passed t in
      subst₂ (λ y v. Remembers s y.depth v (q || false)) (sym (permit_shared f b g.good k p passed)) (sym x.1)
      (any_permission s m.depth (th t) x.0 (q || false) (still_remembers t q h)))
      (λ e. still_remembers t q h)

-- a moment, b being the region before it
abbrev pub TriesKept : List ℕ → Moment → Type 0
TriesKept b m =
    (t : ℕ) (q : Bool) → RemembersIn (frame_in b) b t q → RemembersIn (frame_in m.region) m.region t (tried_after t q b m.event)

-- all of them
pub tries_remembered : (t : ℕ) (earlier later : List Moment) (b : List ℕ) (q : Bool) → EachMoment TriesKept b (earlier ++ later)
    → RemembersIn (frame_in b) b t q → RemembersIn (frame_in (region_after b earlier)) (region_after b earlier) t (tried_since t q b earlier)
tries_remembered t [] later b q k h = h
tries_remembered t (m ∷ earlier) later b q k h =
    tries_remembered t earlier later m.region (tried_after t q b m.event) k.1 (k.0 t q h)

-- what the leaf word tells
pub word_tells : (s : Shape) (b : List ℕ) (t : ℕ) (q : Bool) → shape_in b ≡ s → 1 ≤ s.depth → RemembersIn (frame_in b) b t q → WordTells s b t q
unfolding frame_of_width has_tried_deepest is_put_place between
word_tells s b t q same some h place deep = go q refl
  where
    r : Remembers s (shared_in (frame_in b) b).depth (thread_on b t) q
    r = subst (λ x. Remembers x (shared_in (frame_in b) b).depth (thread_on b t) q) same h

    leaf : ℕ
    leaf = (thread_on b t).search_state.leaf

    put : is_put_place (thread_on b t).place ≡ true
    put = ap is_put_place place

    go : (x : Bool) → q ≡ x → has_tried_deepest s (thread_on b t) ≡ q
    go true e =
        rw (eq-eqb (thread_on b t).depth s.depth deep)
        (ap (λ d. is_leaf_of d leaf) deep ∙ leaf_tests s.depth some leaf (r.has put e).leaf ∙ sym e)
    go false e =
        rw (eq-eqb (thread_on b t).depth s.depth deep) (ap (λ d. is_leaf_of d leaf) deep ∙ r.has_not put e ∙ sym e)
