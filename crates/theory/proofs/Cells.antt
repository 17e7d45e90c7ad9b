-- All chains together. Owner 0 has the free chain, owner 2n the list of node n, owner 2t + 1 what thread t holds. Two changes cover every
-- effect and beginning: the head of one chain moves to the front of another (a put begins, a push, a pop, a cell freed), and two owners
-- exchange their chains (an exchange, a list detached). Assumes nothing.
use Prim.Native.Nat.{ℕ, suc, ◌≤◌}
use native.Mathlib.Decide.{ℕ_discrete}
use native.Mathlib.Omega.{arith}
use mathlib.Core.Path.{◌≡◌, refl, sym, ap, subst, subst₂, ◌∙◌}
use mathlib.Core.List.{List, ◌∷◌}
use lib.ListN.{length}
use Rattle.region.specs.Pick.{upd}
use Rattle.region.specs.declared.record.Cell.{Cell}
use Rattle.region.proofs.Picks.{upd_same, upd_other}
use Rattle.theory.proofs.Chains.{Chain, ends, link, chain_left, items, items_left}

-- every owner's cells, from its head
abbrev pub Chains : (ℕ → Cell) → (ℕ → ℕ) → (ℕ → ℕ) → (ℕ → ℕ) → (ℕ → List ℕ) → Type 0
Chains cell own rank head list = (o : ℕ) → Chain cell own rank o (head o) (list o)

-- a chain that is not empty starts with a link
record Link (cell : ℕ → Cell) (own rank : ℕ → ℕ) (o c d : ℕ) (cs : List ℕ) : Type 0 where
  pub is : c ≡ d
  pub some : 1 ≤ d
  pub owner : own d ≡ o
  pub behind : rank d ≡ length cs
  pub rest : Chain cell own rank o (cell d).next cs

first_link : {cell : ℕ → Cell} {own rank : ℕ → ℕ} {o c d : ℕ} {cs : List ℕ} → Chain cell own rank o c (d ∷ cs)
    → Link cell own rank o c d cs
first_link (link e p eo er k) = record { is = refl; some = p; owner = eo; behind = er; rest = k }

-- a chain from a cell starts with it
pub record Starts (c : ℕ) (cs : List ℕ) : Type 0 where
  pub rest : List ℕ
  pub is : cs ≡ c ∷ rest

pub starts : {cell : ℕ → Cell} {own rank : ℕ → ℕ} {o c : ℕ} {cs : List ℕ} → Chain cell own rank o c cs → 1 ≤ c → Starts c cs
starts ends l = absurd (omega arith)
starts (link d {cs = ds} p eo er k) l = record { rest = ds; is = refl }

-- A move of cell c from owner o to owner q, with all that it leaves.
pub record Moved (cell cell' : ℕ → Cell) (head' : ℕ → ℕ) (list : ℕ → List ℕ) (o q c : ℕ) : Type 0 where
  pub owners : ℕ → ℕ
  pub ranks : ℕ → ℕ
  pub lists : ℕ → List ℕ
  pub chained : Chains cell' owners ranks head' lists
  pub items_q : items cell' (lists q) ≡ (cell' c).item ∷ items cell (list q)
  pub items_o : items cell (list o) ≡ (cell c).item ∷ items cell' (lists o)
  pub items_x : (x : ℕ) → (x ≡ o → ⊥) → (x ≡ q → ⊥) → items cell' (lists x) ≡ items cell (list x)
  pub length_q : length (lists q) ≡ suc (length (list q))
  pub length_o : length (list o) ≡ suc (length (lists o))
  pub length_x : (x : ℕ) → (x ≡ o → ⊥) → (x ≡ q → ⊥) → length (lists x) ≡ length (list x)

-- The head c of owner o's chain moves to the front of owner q's.
module _ (cell cell' : ℕ → Cell) (own rank head head' : ℕ → ℕ) (list : ℕ → List ℕ) (chains : Chains cell own rank head list)
    (o q c : ℕ) (cs : List ℕ) (apart : o ≡ q → ⊥) (here : list o ≡ c ∷ cs)
    (others : (d : ℕ) → (d ≡ c → ⊥) → cell' d ≡ cell d) (onto : (cell' c).next ≡ head q)
    (left : head' o ≡ (cell c).next) (now : head' q ≡ c) (still : (x : ℕ) → (x ≡ o → ⊥) → (x ≡ q → ⊥) → head' x ≡ head x) where
  the_link : Link cell own rank o (head o) c cs
  the_link = first_link (subst (Chain cell own rank o (head o)) here (chains o))

  unfoldable own' : ℕ → ℕ
  own' = upd own c q

  unfoldable rank' : ℕ → ℕ
  rank' = upd rank c (length (list q))

  unfoldable list' : ℕ → List ℕ
  list' = upd (upd list o cs) q (c ∷ list q)

  -- another owner's cells, and those behind c, are not c
  not_owned : (x d : ℕ) → (x ≡ o → ⊥) → own d ≡ x → d ≡ c → ⊥
  not_owned x d n e z = n (sym e ∙ ap own z ∙ the_link.owner)

  kept : (x d : ℕ) → own d ≡ x → (d ≡ c → ⊥) → (cell' d ≡ cell d) × (own' d ≡ x) × (rank' d ≡ rank d)
  unfolding own' rank'
  kept x d e n = (others d n, upd_other own c d q n ∙ e, upd_other rank c d (length (list q)) n)

  to_front : Chain cell' own' rank' q c (c ∷ list q)
  unfolding own' rank'
  to_front =
      link c the_link.some (upd_same own c q) (upd_same rank c (length (list q)))
      (subst (λ x. Chain cell' own' rank' q x (list q)) (sym onto)
      (chain_left cell cell' own own' rank rank' q q (head q) (list q)
      (λ d e r. kept q d e (not_owned q d (λ z. apart (sym z)) e)) (chains q)))

  what_stays : Chain cell' own' rank' o (cell c).next cs
  what_stays =
      chain_left cell cell' own own' rank rank' o o (cell c).next cs
      (λ d e r. kept o d e (λ z. let b = the_link.behind in let k = ap rank z in omega arith)) the_link.rest

  moved : Chains cell' own' rank' head' list'
  unfolding list'
  moved x = go (ℕ_discrete x q) (ℕ_discrete x o)
    where
      go : Dec (x ≡ q) → Dec (x ≡ o) → Chain cell' own' rank' x (head' x) (upd (upd list o cs) q (c ∷ list q) x)
      go (yes e) d =
          subst (λ y. Chain cell' own' rank' y (head' y) (upd (upd list o cs) q (c ∷ list q) y)) (sym e)
          (subst₂ (λ h l. Chain cell' own' rank' q h l) (sym now) (sym (upd_same (upd list o cs) q (c ∷ list q))) to_front)
      go (no n) (yes e) =
          subst (λ y. Chain cell' own' rank' y (head' y) (upd (upd list o cs) q (c ∷ list q) y)) (sym e)
          (subst₂ (λ h l. Chain cell' own' rank' o h l) (sym left)
          (sym (upd_other (upd list o cs) q o (c ∷ list q) apart ∙ upd_same list o cs)) what_stays)
      go (no n) (no m) =
          subst₂ (λ h l. Chain cell' own' rank' x h l) (sym (still x m n))
          (sym (upd_other (upd list o cs) q x (c ∷ list q) n ∙ upd_other list o x cs m))
          (chain_left cell cell' own own' rank rank' x x (head x) (list x) (λ d e r. kept x d e (not_owned x d m e)) (chains x))

  list_to : list' q ≡ c ∷ list q
  unfolding list'
  list_to = upd_same (upd list o cs) q (c ∷ list q)

  list_from : list' o ≡ cs
  unfolding list'
  list_from = upd_other (upd list o cs) q o (c ∷ list q) apart ∙ upd_same list o cs

  list_elsewhere : (x : ℕ) → (x ≡ o → ⊥) → (x ≡ q → ⊥) → list' x ≡ list x
  unfolding list'
  list_elsewhere x m n = upd_other (upd list o cs) q x (c ∷ list q) n ∙ upd_other list o x cs m

  -- what the move makes of the items and the lengths: one more for q, one less for o, no change elsewhere
  items_to : items cell' (list' q) ≡ (cell' c).item ∷ items cell (list q)
  unfolding items
  items_to =
      ap (items cell') list_to
      ∙ ap (λ k. (cell' c).item ∷ k)
      (items_left cell cell' own own' rank rank' q q (head q) (list q)
      (λ d e r. kept q d e (not_owned q d (λ z. apart (sym z)) e)) (chains q))

  items_from : items cell (list o) ≡ (cell c).item ∷ items cell' (list' o)
  unfolding items
  items_from =
      ap (items cell) here
      ∙ ap (λ k. (cell c).item ∷ k)
      (sym
      (ap (items cell') list_from
      ∙ items_left cell cell' own own' rank rank' o o (cell c).next cs
      (λ d e r. kept o d e (λ z. let b = the_link.behind in let k = ap rank z in omega arith)) the_link.rest))

  items_elsewhere : (x : ℕ) → (x ≡ o → ⊥) → (x ≡ q → ⊥) → items cell' (list' x) ≡ items cell (list x)
  items_elsewhere x m n =
      ap (items cell') (list_elsewhere x m n)
      ∙ items_left cell cell' own own' rank rank' x x (head x) (list x) (λ d e r. kept x d e (not_owned x d m e)) (chains x)

  length_to : length (list' q) ≡ suc (length (list q))
  length_to = ap length list_to

  length_from : length (list o) ≡ suc (length (list' o))
  length_from = ap length here ∙ ap (λ l. suc (length l)) (sym list_from)

  length_elsewhere : (x : ℕ) → (x ≡ o → ⊥) → (x ≡ q → ⊥) → length (list' x) ≡ length (list x)
  length_elsewhere x m n = ap length (list_elsewhere x m n)

  all_moved : Moved cell cell' head' list o q c
  all_moved =
      record {
        owners = own';
        ranks = rank';
        lists = list';
        chained = moved;
        items_q = items_to;
        items_o = items_from;
        items_x = items_elsewhere;
        length_q = length_to;
        length_o = length_from;
        length_x = length_elsewhere;
      }

pub move : (cell cell' : ℕ → Cell) (own rank head head' : ℕ → ℕ) (list : ℕ → List ℕ) → Chains cell own rank head list
    → (o q c : ℕ) → (o ≡ q → ⊥) → 1 ≤ c → head o ≡ c → ((d : ℕ) → (d ≡ c → ⊥) → cell' d ≡ cell d) → (cell' c).next ≡ head q
    → head' o ≡ (cell c).next → head' q ≡ c → ((x : ℕ) → (x ≡ o → ⊥) → (x ≡ q → ⊥) → head' x ≡ head x)
    → Moved cell cell' head' list o q c
move cell cell' own rank head head' list chains o q c apart some at others onto left now still =
    let st = starts (subst (λ h. Chain cell own rank o h (list o)) at (chains o)) some in
    all_moved cell cell' own rank head head' list chains o q c st.rest apart st.is others onto left now still

-- An exchange of the chains of owners o and q, with all that it leaves.
pub record Exchanged (cell : ℕ → Cell) (head' : ℕ → ℕ) (list : ℕ → List ℕ) (o q : ℕ) : Type 0 where
  pub owners : ℕ → ℕ
  pub ranks : ℕ → ℕ
  pub lists : ℕ → List ℕ
  pub chained : Chains cell owners ranks head' lists
  pub list_o : lists o ≡ list q
  pub list_q : lists q ≡ list o
  pub list_x : (x : ℕ) → (x ≡ o → ⊥) → (x ≡ q → ⊥) → lists x ≡ list x

-- Owners o and q exchange their chains; the cells stay as they are.
module _ (cell : ℕ → Cell) (own rank head head' : ℕ → ℕ) (list : ℕ → List ℕ) (chains : Chains cell own rank head list) (o q : ℕ)
    (apart : o ≡ q → ⊥) (to_o : head' o ≡ head q) (to_q : head' q ≡ head o)
    (still : (x : ℕ) → (x ≡ o → ⊥) → (x ≡ q → ⊥) → head' x ≡ head x) where
  -- the other of the two owners, and any third one itself
  unfoldable swapped : ℕ → ℕ
  swapped x = upd (upd (λ y. y) o q) q o x

  swapped_o : swapped o ≡ q
  unfolding swapped
  swapped_o = upd_other (upd (λ y. y) o q) q o o apart ∙ upd_same (λ y. y) o q

  swapped_q : swapped q ≡ o
  unfolding swapped
  swapped_q = upd_same (upd (λ y. y) o q) q o

  swapped_other : (x : ℕ) → (x ≡ o → ⊥) → (x ≡ q → ⊥) → swapped x ≡ x
  unfolding swapped
  swapped_other x m n = upd_other (upd (λ y. y) o q) q x o n ∙ upd_other (λ y. y) o x q m

  -- a chain of owner x becomes one of the owner that x is swapped with
  over : (x : ℕ) → Chain cell (λ d. swapped (own d)) rank (swapped x) (head x) (list x)
  over x =
      chain_left cell cell own (λ d. swapped (own d)) rank rank x (swapped x) (head x) (list x)
      (λ d e r. (refl, ap swapped e, refl)) (chains x)

  exchanged : Chains cell (λ d. swapped (own d)) rank head' (λ x. list (swapped x))
  exchanged x = go (ℕ_discrete x o) (ℕ_discrete x q)
    where
      here : (y : ℕ) → swapped y ≡ x → head' x ≡ head y → swapped x ≡ y
          → Chain cell (λ d. swapped (own d)) rank x (head' x) (list (swapped x))
      here y ey eh ex =
          subst₂ (λ h l. Chain cell (λ d. swapped (own d)) rank x h l) (sym eh) (ap list (sym ex))
          (subst (λ z. Chain cell (λ d. swapped (own d)) rank z (head y) (list y)) ey (over y))

      go : Dec (x ≡ o) → Dec (x ≡ q) → Chain cell (λ d. swapped (own d)) rank x (head' x) (list (swapped x))
      go (yes e) d = here q (swapped_q ∙ sym e) (ap head' e ∙ to_o) (ap swapped e ∙ swapped_o)
      go (no m) (yes e) = here o (swapped_o ∙ sym e) (ap head' e ∙ to_q) (ap swapped e ∙ swapped_q)
      go (no m) (no n) = here x (swapped_other x m n) (still x m n) (swapped_other x m n)

  pub exchange : Exchanged cell head' list o q
  exchange =
      record {
        owners = λ d. swapped (own d);
        ranks = rank;
        lists = λ x. list (swapped x);
        chained = exchanged;
        list_o = ap list swapped_o;
        list_q = ap list swapped_q;
        list_x = λ x m n. ap list (swapped_other x m n);
      }
