-- What a thread's turn leaves of its leaf word, place by place: whether a put has tried a leaf of level D is told by it (request 8), and an idle
-- thread has leaf word 0. Assumes nothing.
use Prim.Native.Nat.{ℕ, ◌+◌, ◌-◌, ◌^◌, ◌≤◌}
use native.Mathlib.Decide.{ℕ_discrete}
use native.Mathlib.Omega.{arith}
use mathlib.Core.Path.{◌≡◌, refl, sym, ap, subst, ◌∙◌}
use mathlib.Core.Bool.{Bool, true, false, not, ◌&&◌, ◌||◌, true≢false}
use borrow.Author.Tests.{eq-eqb, ne_eqb}
use lib.Dec.{eqb, ltb}
use lib.Pow.{pow_mono, pow_pos}
use Rattle.region.specs.Pick.{pick}
use Rattle.region.specs.Place.{place_number}
use Rattle.region.specs.Shape.{between}
use Rattle.region.specs.Shared.{Shared}
use Rattle.region.specs.Thread.{at_place, gone_idle, is_idle, mending, with_after, with_copies, with_depth, with_first, with_node, with_own, with_permission, with_result, with_search, with_second, with_third}
use Rattle.region.specs.declared.answer.Answer.{Answer}
use Rattle.region.specs.declared.answer.Answer.TheVariants.{Moved, Refused}
use Rattle.region.specs.declared.place.Place.{Place}
use Rattle.region.specs.declared.place.Place.TheVariants.{Idle, ReadDepth, ReadLeaf, ReadAncestor, GrowDepth, ReadTarget, InsertAtRoot, ReadParent, InsertBelow, ReadRoot, RemoveHead, MendReadNode, MendReadDepth, MendReadLeft, MendReadRight, MendSwap, MendClean, ListReadRoot, RemoveList, HandOut}
use Rattle.region.specs.declared.record.Node.{Node}
use Rattle.region.specs.declared.record.NodeCopy.{NodeCopy}
use Rattle.region.specs.declared.refusal.Refusal.{Refusal}
use Rattle.region.specs.declared.shape.Shape.{Shape}
use Rattle.region.specs.declared.thread.Search.{Search}
use Rattle.region.specs.declared.thread.Thread.{Thread}
use Rattle.region.proofs.Picks.{pick_good}
use Rattle.region.proofs.Shapes.{below}
use Rattle.access.specs.Effect.{effect_shared}
use Rattle.access.specs.Order.{item_le, value_of}
use Rattle.access.specs.Plan.{changes_nothing, moved, on_to, plan, refused}
use Rattle.access.specs.Read.{is_level, read_node}
use Rattle.access.specs.declared.effect.Effect.{Effect}
use Rattle.access.specs.declared.effect.Effect.TheVariants.{Nothing, Grow, Push, Pop, Exchange, Clean, Detach, Free}
use Rattle.access.specs.declared.plan.Plan.{Plan}
use Rattle.insert.specs.Insert.{after_ancestor_read, after_failed_try, after_leaf_read, failed_place, grow_depth, insert_at, insert_at_root, insert_below, is_leaf_of, leaf_after_failed_try, leaf_to_read, next_tries, read_ancestor, read_depth, read_leaf, read_parent, read_target, search_on, searching, target_place}
use Rattle.insert.proofs.Laws.{LeafOf, left_leaf, read_leaf_lem}
use Rattle.extract.specs.Extract.{after_list_removal, after_removal, after_root_read, cas_root, hand_out, handed_out, list_read_root, read_root, remove_head, remove_list}
use Rattle.moundify.specs.Moundify.{after_children_read, after_depth_read, clean_at, exchange_at, exchange_with, mend_clean, mend_read_depth, mend_read_left, mend_read_node, mend_read_right, mend_swap, place_after, returned, returning}
use Rattle.permission.specs.Withdraw.{is_put_place, is_unreadable, lacks_permission, permitted, withdrawal}
use Rattle.machine.specs.Turn.{decide, decide_at}
use Rattle.theory.specs.Ledger.{Operation}
use Rattle.theory.proofs.Facts.{At}
use Rattle.theory.proofs.Plans.{Allowed}

-- no effect makes the tree less deep
pub never_less_deep : (s : Shape) (m : Shared) (own : ℕ → ℕ) (t : ℕ) (e : Effect) → Allowed s m own t e → m.depth ≤ (effect_shared m e).depth
unfolding effect_shared
never_less_deep s m own t Nothing al = omega arith
never_less_deep s m own t (Grow d) al = omega (arith, al.0)
never_less_deep s m own t (Push n v c x) al = omega arith
never_less_deep s m own t (Pop v c) al = omega arith
never_less_deep s m own t (Exchange n v k w) al = omega arith
never_less_deep s m own t (Clean n v) al = omega arith
never_less_deep s m own t (Detach v) al = omega arith
never_less_deep s m own t (Free c) al = omega arith

-- a put that has tried a leaf of level D: the tree has its greatest depth then, and will
pub record Tried (s : Shape) (depth : ℕ) (t : Thread) : Type 0 where
  pub full : depth ≡ s.depth
  pub at_full : t.depth ≡ s.depth
  pub leaf : LeafOf s.depth t.search_state.leaf

-- the leaf word where `tried` says whether the thread's put has
pub record Remembers (s : Shape) (depth : ℕ) (t : Thread) (tried : Bool) : Type 0 where
  pub idle : is_idle t ≡ true → t.search_state.leaf ≡ 0
  pub has : is_put_place t.place ≡ true → tried ≡ true → Tried s depth t
  pub has_not : is_put_place t.place ≡ true → tried ≡ false → is_leaf_of s.depth t.search_state.leaf ≡ false

-- a leaf of a lesser level is none of level D, and so is 0
no_leaf : (s : Shape) (leaf : ℕ) → leaf ≤ 2 ^ (s.depth - 1) - 1 → is_leaf_of s.depth leaf ≡ false
unfolding is_leaf_of
no_leaf s leaf h = below (2 ^ (s.depth - 1)) leaf (2 ^ s.depth - 1) (omega (arith, h, pow_pos (s.depth - 1)))

-- a place of a thread that is not idle
abbrev Busy : Place → Type 0
Busy p = eqb (place_number p) 0 ≡ false

module _ (s : Shape) where
  -- Of a thread that is idle or at no put's place nothing is asked of its tries.
  pub gone_remembers : (depth : ℕ) (t : Thread) (q : Bool) → Remembers s depth (gone_idle t) q
  unfolding gone_idle is_put_place between
  gone_remembers depth t q =
      record { idle = λ e. refl; has = λ e. absurd (true≢false (sym e)); has_not = λ e. absurd (true≢false (sym e)) }

  away_remembers : {depth : ℕ} {t : Thread} {q : Bool} → is_idle t ≡ false → is_put_place t.place ≡ false → Remembers s depth t q
  away_remembers a p =
      record {
        idle = λ e. absurd (true≢false (sym e ∙ a));
        has = λ e. absurd (true≢false (sym e ∙ p));
        has_not = λ e. absurd (true≢false (sym e ∙ p));
      }

  -- a mending that returns
  returned_remembers : (depth : ℕ) (t : Thread) (w : ℕ) (q : Bool) → Remembers s depth (returned t w) q
  unfolding returned place_after mending with_node at_place is_idle is_put_place between
  returned_remembers depth t w q =
      let R : Thread → Type 0 = λ u. Remembers s depth u q in
      let A : Place → Type 0 = λ z. Remembers s depth (at_place t z) q in
      pick_good R (eqb w 0)
      (λ e. pick_good R (eqb t.after 1) (λ k. gone_remembers depth t q)
      (λ k. pick_good A (eqb t.after 2) (λ l. away_remembers refl refl)
      (λ l. pick_good A (eqb t.after 3) (λ n. away_remembers refl refl) (λ n. away_remembers refl refl))))
      (λ e. away_remembers refl refl)

  -- a put that begins
  pub begins_untried : (depth : ℕ) (t : Thread) → is_idle t ≡ false → t.search_state.leaf ≡ 0 → Remembers s depth t false
  begins_untried depth t a e =
      record {
        idle = λ i. absurd (true≢false (sym i ∙ a));
        has = λ p q. absurd (true≢false (sym q));
        has_not = λ p q. ap (is_leaf_of s.depth) e ∙ no_leaf s 0 (omega arith);
      }

  -- no fact looks at the permission
  pub any_permission : (depth : ℕ) (t : Thread) (n : ℕ) (q : Bool) → Remembers s depth t q → Remembers s depth (with_permission t n) q
  unfolding with_permission is_idle
  any_permission depth t n q h =
      record {
        idle = h.idle;
        has = λ p e. let x = h.has p e in record { full = x.full; at_full = x.at_full; leaf = x.leaf };
        has_not = h.has_not;
      }

  -- the tree may have grown in between
  pub deeper_remembers : {d d' : ℕ} {t : Thread} {q : Bool} → d ≤ d' → d' ≤ s.depth → Remembers s d t q → Remembers s d' t q
  deeper_remembers up most h =
      record {
        idle = h.idle;
        has = λ p e. let x = h.has p e in record { full = omega (arith, x.full); at_full = x.at_full; leaf = x.leaf };
        has_not = h.has_not;
      }

-- what was before, with no try or with one more
pub or_none : (q : Bool) → q || false ≡ q
or_none true = refl
or_none false = refl

or_one : (q : Bool) → q || true ≡ true
or_one true = refl
or_one false = refl

-- The plan of each place, for a thread with record t whose put has tried a leaf of level D or not.
module _ (s : Shape) (m : Shared) (most : m.depth ≤ s.depth) (t : Thread) (q : Bool) (h : Remembers s m.depth t q) where
  -- what a plan leaves that changes anything; `tries` says whether it is a try of a leaf of level D
  pub record After (tries : Bool) (p : Plan) : Type 0 where
    pub remembers : changes_nothing p.answer ≡ false → Remembers s m.depth p.thread (q || tries)

  or : {tries : Bool} (x : Bool) {a b : Plan} → After tries a → After tries b → After tries (pick x a b)
  or {tries} x k l = pick_good (After tries) x (λ e. k) (λ e. l)

  stops : {tries : Bool} {e : Effect} {u : Thread} {a : Answer} → changes_nothing a ≡ true → After tries (record { effect = e; thread = u; answer = a })
  stops g = record { remembers = λ k. absurd (true≢false (sym g ∙ k)) }

  gone : {tries : Bool} {e : Effect} (u : Thread) {a : Answer} → After tries (record { effect = e; thread = gone_idle u; answer = a })
  gone {tries} u = record { remembers = λ k. gone_remembers s m.depth u (q || tries) }

  away : {tries : Bool} {e : Effect} {u : Thread} {a : Answer} → is_idle u ≡ false → is_put_place u.place ≡ false
      → After tries (record { effect = e; thread = u; answer = a })
  away busy other = record { remembers = λ k. away_remembers s busy other }

  -- the put goes on with the leaf word as it is; I1 reads the depth again
  keeps : {e : Effect} {u : Thread} {a : Answer} → is_put_place t.place ≡ true → is_idle u ≡ false → u.search_state.leaf ≡ t.search_state.leaf
      → (m.depth ≡ s.depth → t.depth ≡ s.depth → u.depth ≡ s.depth) → After false (record { effect = e; thread = u; answer = a })
  keeps {u = u} put busy same d =
      record {
        remembers = λ k.
            subst (Remembers s m.depth u) (sym (or_none q))
            (record {
              idle = λ e. absurd (true≢false (sym e ∙ busy));
              has = λ p e.
                  let x = h.has put e in
                  record { full = x.full; at_full = d x.full x.at_full; leaf = subst (LeafOf s.depth) (sym same) x.leaf };
              has_not = λ p e. ap (is_leaf_of s.depth) same ∙ h.has_not put e;
            });
      }

  goes_on : {e : Effect} {u : Thread} {a : Answer} → is_put_place t.place ≡ true → is_idle u ≡ false → u.search_state.leaf ≡ t.search_state.leaf
      → u.depth ≡ t.depth → After false (record { effect = e; thread = u; answer = a })
  goes_on put busy same d = keeps put busy same (λ a b. d ∙ b)

  search_keeps : (u : Thread) → is_put_place t.place ≡ true → u.search_state.leaf ≡ t.search_state.leaf → u.depth ≡ t.depth → After false (search_on u)
  unfolding search_on on_to moved refused plan at_place with_node is_idle
  search_keeps u put same d =
      or (ltb u.search_state.lo u.search_state.hi) (goes_on put refl same d) (or _ (goes_on put refl same d) (stops refl))

  ancestor_keeps : (middle : ℕ) (qn : NodeCopy) → is_put_place t.place ≡ true → After false (after_ancestor_read t middle qn)
  unfolding after_ancestor_read with_first with_copies with_search pick
  ancestor_keeps middle qn put =
      let with : Search → Thread = λ x. with_first (with_search t x) qn in
      let down : ℕ → ℕ → Search = searching t.search_state.leaf t.search_state.tries in
      pick_good (λ x. After false (search_on (with x))) (item_le t.item (value_of qn))
      (λ e. search_keeps (with (down t.search_state.lo middle)) put refl refl)
      (λ e. search_keeps (with (down (middle + 1) t.search_state.hi)) put refl refl)

  -- I2: it leaves a leaf of level d
  module _ (put : is_put_place t.place ≡ true) (least : 1 ≤ t.depth) (up_to_lem : t.depth ≤ m.depth) where
    leaf_left : (u : Thread) → is_idle u ≡ false → u.depth ≡ t.depth → LeafOf t.depth u.search_state.leaf
        → Remembers s m.depth u (q || eqb t.depth s.depth)
    leaf_left u busy same leaf = go (ℕ_discrete t.depth s.depth)
      where
        go : Dec (t.depth ≡ s.depth) → Remembers s m.depth u (q || eqb t.depth s.depth)
        go (yes e) =
            subst (Remembers s m.depth u) (sym (ap (λ x. q || x) (eq-eqb t.depth s.depth e) ∙ or_one q))
            (record {
              idle = λ i. absurd (true≢false (sym i ∙ busy));
              has = λ p y. record { full = omega arith; at_full = same ∙ e; leaf = subst (λ d. LeafOf d u.search_state.leaf) e leaf };
              has_not = λ p y. absurd (true≢false y);
            })
        go (no n) =
            subst (Remembers s m.depth u) (sym (ap (λ x. q || x) (ne_eqb t.depth s.depth n) ∙ or_none q))
            (record {
              idle = λ i. absurd (true≢false (sym i ∙ busy));
              has = λ p y. absurd (n (h.has put y).at_full);
              has_not = λ p y.
                  no_leaf s u.search_state.leaf (omega (arith, leaf.most, pow_mono {i = t.depth} {j = s.depth - 1} (omega arith)));
            })

    record Tries (p : Plan) : Type 0 where
      moves : changes_nothing p.answer ≡ false → p.answer ≡ Moved
      remembers : changes_nothing p.answer ≡ false → Remembers s m.depth p.thread (q || eqb t.depth s.depth)

    no_try : {u : Thread} {n : Refusal} → Tries (record { effect = Nothing; thread = u; answer = Refused n })
    no_try = record { moves = λ k. absurd (true≢false k); remembers = λ k. absurd (true≢false k) }

    one_try : {u : Thread} → is_idle u ≡ false → u.depth ≡ t.depth → LeafOf t.depth u.search_state.leaf
        → Tries (record { effect = Nothing; thread = u; answer = Moved })
    one_try {u} busy same leaf = record { moves = λ k. refl; remembers = λ k. leaf_left u busy same leaf }

    search_tries : (u : Thread) → u.depth ≡ t.depth → LeafOf t.depth u.search_state.leaf → Tries (search_on u)
    unfolding search_on on_to moved refused plan at_place with_node is_idle
    search_tries u same leaf =
        pick_good Tries (ltb u.search_state.lo u.search_state.hi) (λ e. one_try refl same leaf)
        (λ e. pick_good Tries _ (λ k. one_try refl same leaf) (λ k. no_try))

    fails_busy : (u : Thread) → is_idle (at_place u (failed_place s t)) ≡ false
    unfolding failed_place is_idle at_place
    fails_busy u =
        pick_good Busy (ltb (next_tries s t) s.threshold) (λ e. refl)
        (λ e. pick_good Busy (ltb t.depth s.depth) (λ k. refl) (λ k. refl))

    leaf_tries : (c : ℕ) → Tries (read_leaf s m t c)
    unfolding read_leaf after_leaf_read after_failed_try on_to moved refused plan with_first with_copies with_search at_place
    leaf_tries c =
        let leaf = leaf_to_read s t c in
        let at_depth = read_leaf_lem s t least c in
        let u = with_first (with_search t (searching (leaf_after_failed_try s t leaf) (next_tries s t) t.search_state.lo t.search_state.hi)) (read_node m leaf) in
        pick_good Tries (is_level s t.depth)
        (λ e. pick_good Tries _
        (λ k. search_tries (with_first (with_search t (searching leaf t.search_state.tries 1 t.depth)) (read_node m leaf)) refl at_depth)
        (λ k. one_try (fails_busy u) refl (left_leaf s t least leaf at_depth)))
        (λ e. no_try)

  returns : (e : Effect) (u : Thread) (w : ℕ) → After false (returning e u w)
  unfolding returning plan
  returns e u w = record { remembers = λ k. returned_remembers s m.depth u w (q || false) }

  root_reads : (qn : NodeCopy) (after : ℕ) (next : Place) → Busy next → is_put_place next ≡ false
      → After false (after_root_read t qn after next)
  unfolding after_root_read plan moved on_to mending with_node at_place is_idle is_put_place between
  root_reads qn after next busy other = or _ (away refl refl) (or _ (gone t) (away busy other))

  root_removes : (back : Place) {removed : Plan} → Busy back → is_put_place back ≡ false → After false removed
      → After false (cas_root m t back removed)
  unfolding cas_root on_to moved refused plan at_place is_idle
  root_removes back busy other k = or _ (or _ (stops refl) (or _ (stops refl) k)) (away busy other)

  exchanges : (w c : ℕ) (k : Node) → After false (exchange_with s m t w c k)
  unfolding exchange_with exchange_at plan on_to moved refused mending with_node at_place is_idle is_put_place between
  exchanges w c k = or _ (or _ (or _ (stops refl) (away refl refl)) (away refl refl)) (stops refl)

  hands : After false (handed_out t (m.cell t.own))
  unfolding handed_out plan with_own at_place is_idle is_put_place between
  hands =
      record {
        remembers = λ k.
            pick_good (λ u. Remembers s m.depth u (q || false)) (eqb (m.cell t.own).next 0)
            (λ e. gone_remembers s m.depth t (q || false)) (λ e. away_remembers s refl refl);
      }

  -- a try with d at D is a turn at I2 that moves on
  abbrev tries : Bool → Place → Bool
  tries moves z = eqb (place_number z) (place_number ReadLeaf) && moves && eqb t.depth s.depth

  module _ (op : Operation) (c : ℕ) (moves : Bool) where
    place_remembers : (z : Place) → t.place ≡ z → At s m t op z → ((decide_at s m t c z).answer ≡ Moved → moves ≡ true)
        → After (tries moves z) (decide_at s m t c z)
    unfolding plan moved on_to refused at_place with_first with_second with_third with_copies with_depth with_search with_node with_own with_after with_result mending is_idle is_put_place between read_depth read_ancestor after_ancestor_read grow_depth read_target target_place insert_at_root insert_at read_parent insert_below read_root remove_head after_removal mend_read_node mend_read_depth after_depth_read mend_read_left mend_read_right after_children_read mend_swap mend_clean clean_at list_read_root remove_list after_list_removal hand_out handed_out
    place_remembers Idle e at y = stops refl
    place_remembers ReadDepth e at y = keeps (ap is_put_place e) refl refl (λ a b. a)
    place_remembers ReadLeaf e at y =
        let r = leaf_tries (ap is_put_place e) at.1.0 at.1.1 c in
        record {
          remembers = λ k.
              subst (λ x. Remembers s m.depth (read_leaf s m t c).thread (q || (x && eqb t.depth s.depth)))
              (sym (y (r.moves k))) (r.remembers k);
        }
    place_remembers ReadAncestor e at y = or _ (ancestor_keeps _ _ (ap is_put_place e)) (stops refl)
    place_remembers GrowDepth e at y = or _ (or _ (goes_on (ap is_put_place e) refl refl refl) (goes_on (ap is_put_place e) refl refl refl)) (stops refl)
    place_remembers ReadTarget e at y =
        or _ (stops refl)
        (goes_on (ap is_put_place e) (pick_good Busy _ (λ k. refl) (λ k. pick_good Busy _ (λ l. refl) (λ l. refl))) refl refl)
    place_remembers InsertAtRoot e at y = or _ (stops refl) (or _ (or _ (stops refl) (gone t)) (goes_on (ap is_put_place e) refl refl refl))
    place_remembers ReadParent e at y = or _ (stops refl) (goes_on (ap is_put_place e) (pick_good Busy _ (λ k. refl) (λ k. refl)) refl refl)
    place_remembers InsertBelow e at y = or _ (stops refl) (or _ (or _ (stops refl) (gone t)) (goes_on (ap is_put_place e) refl refl refl))
    place_remembers ReadRoot e at y = root_reads (read_node m 1) 0 RemoveHead refl refl
    place_remembers RemoveHead e at y = root_removes ReadRoot refl refl (away refl refl)
    place_remembers (MendReadNode w) e at y = or _ (stops refl) (away refl refl)
    place_remembers (MendReadDepth w) e at y =
        or _ (or _ (stops refl) (or _ (away refl refl) (away refl refl))) (returns Nothing (with_depth t m.depth) w)
    place_remembers (MendReadLeft w) e at y = or _ (away refl refl) (stops refl)
    place_remembers (MendReadRight w) e at y =
        or _ (or _ (away refl refl) (or _ (away refl refl) (or _ (away refl refl) (away refl refl)))) (stops refl)
    place_remembers (MendSwap w) e at y = or _ (exchanges w _ _) (exchanges w _ _)
    place_remembers (MendClean w) e at y = or _ (stops refl) (or _ (or _ (stops refl) (returns (Clean _ _) t w)) (away refl refl))
    place_remembers ListReadRoot e at y = root_reads (read_node m 1) 2 RemoveList refl refl
    place_remembers RemoveList e at y = root_removes ListReadRoot refl refl (away refl refl)
    place_remembers HandOut e at y = or _ (stops refl) hands

    -- a turn, withdrawn or not
    pub turn_remembers : At s m t op t.place → ((decide s m t c).answer ≡ Moved → moves ≡ true)
        → After (tries moves t.place) (decide s m t c)
    unfolding decide permitted withdrawal plan refused pick
    turn_remembers at y = go (lacks_permission t && not (is_unreadable (decide_at s m t c t.place).answer)) y
      where
        go : (x : Bool) → ((pick x (withdrawal t) (decide_at s m t c t.place)).answer ≡ Moved → moves ≡ true)
            → After (tries moves t.place) (pick x (withdrawal t) (decide_at s m t c t.place))
        go true y = or (is_put_place t.place) (or (eqb t.own 0) (stops refl) (gone t)) (gone t)
        go false y = place_remembers t.place refl at y
