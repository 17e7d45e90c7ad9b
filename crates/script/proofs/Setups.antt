-- Laying out a script's region and running its lines there: each way out of the functions, over plain variables. Assumes nothing.
use Prim.Native.Nat.{ℕ, zero, suc, ◌-◌, ◌*◌, ◌≤◌, ◌<◌}
use native.Mathlib.Omega.{arith}
use mathlib.Core.Path.{◌≡◌, refl, sym, ap, subst, ◌∙◌}
use mathlib.Core.Bool.{Bool, true, false, not}
use mathlib.Core.List.{List, [], ◌∷◌, ◌++◌, append-nil}
use mir.Syntax.{w8, w64}
use mir.Val.{Fits}
use borrow.Author.Tests.{le-leb, lt-leb, eq-eqb, leb-false, leb-true, not-true, not-false}
use lib.Dec.{leb, eqb}
use lib.ListN.{length, take, drop, replicate, length-replicate}
use lib.Pow.{pow_mono}
use lib.Seq.{drop_at, length-take-le, take_at}
use Rattle.std.specs.Prelude.{Ok, Err, if◌then◌else◌}
use Rattle.region.specs.Refusal.{Checked, code_of, done, granted, ◌unless◌otherwise◌}
use Rattle.region.specs.declared.refusal.Refusal.{Refusal}
use Rattle.region.specs.declared.refusal.Refusal.TheVariants.{BadShape}
use Rattle.region.specs.Pick.{pick}
use Rattle.region.specs.Shape.{region_words, region_words_of_width, shape_fits}
use Rattle.region.specs.Inner.{InRange}
use Rattle.region.proofs.Refusals.{number_not_done}
use Rattle.region.proofs.Shapes.{and_both, and_left, and_not_left, and_not_right, shape_in_range}
use Rattle.layout.specs.Layout.{LaidOut, at_most, layout_bytes, layout_check, layout_refusal, permissions_fit}
use Rattle.layout.proofs.Laws.{laid_length as laid_exactly, laid_permissions, laid_shape}
use Rattle.region.specs.declared.answer.Answer.TheVariants.{Refused}
use Rattle.script.specs.Inner.{Appends, LinesRan, SetUp, SetupRan}
use Rattle.script.specs.Printing.{line_text}
use Rattle.script.specs.Script.{after, laid_region, lines_from, nothing_more, permissions_of, region_length, setup_check, setup_refusal, setup_then}
use Rattle.script.specs.declared.printing.Outcome.TheVariants.{Answered}
use Rattle.script.specs.declared.reading.Setup.{Setup}
use Rattle.script.specs.declared.text.Text.{Text}
use Rattle.script.proofs.Layouts.{laid_all}

-- The permissions, the same for every thread.
most_same : (m p n : ℕ) → p ≤ m → at_most m (replicate n p) ≡ true
unfolding at_most
most_same m p zero h = refl
most_same m p (suc n) h = and_both (le-leb p m h) (most_same m p n h)

over_same : (m p n : ℕ) → 1 ≤ n → at_most m (replicate n p) ≡ true → p ≤ m
unfolding at_most
over_same m p zero h e = absurd (omega arith)
over_same m p (suc n) h e = leb-true p m (and_left (leb p m) (at_most m (replicate n p)) e)

over_false : (m p n : ℕ) → 1 ≤ n → m < p → at_most m (replicate n p) ≡ false
unfolding at_most
over_false m p zero h o = absurd (omega arith)
over_false m p (suc n) h o = and_not_left (at_most m (replicate n p)) (lt-leb p m o)

permits : (u : Setup) → u.permission ≤ 3 → permissions_fit u.shape (permissions_of u) ≡ true
unfolding permissions_fit
permits u h =
    and_both
    (eq-eqb (length (permissions_of u)) u.shape.threads (length-replicate u.shape.threads u.permission))
    (most_same 3 u.permission u.shape.threads h)

permits_not : (u : Setup) → 1 ≤ u.shape.threads → 3 < u.permission → permissions_fit u.shape (permissions_of u) ≡ false
unfolding permissions_fit
permits_not u n h =
    and_not_right (eqb (length (permissions_of u)) u.shape.threads) (over_false 3 u.permission u.shape.threads n h)

take_same : (k n p : ℕ) → k ≤ n → take k (replicate n p) ≡ replicate k p
take_same zero n p h = refl
take_same (suc k) zero p h = absurd (omega arith)
take_same (suc k) (suc n) p h = ap (λ l. p ∷ l) (take_same k n p (omega arith))

-- What a setup is refused for: the first test that fails decides.
module _ (u : Setup) where
  pub deep : 8 < u.shape.depth → Err BadShape ≡ setup_check u
  unfolding pick
  deep h = rw (lt-leb u.shape.depth 8 h) refl

  module _ (d : u.shape.depth ≤ 8) (q : Bool) (eq : q ≡ shape_fits u.shape) where
    pub misfit : not q ≡ true → Err BadShape ≡ setup_check u
    unfolding pick
    misfit g = rw (le-leb u.shape.depth 8 d, ← eq, not-true q g) refl

    module _ (g : not q ≡ false) where
      some_threads : 1 ≤ u.shape.threads
      some_threads = (shape_in_range u.shape q eq g).threads_least

      over : 3 < u.permission → Err BadShape ≡ setup_check u
      unfolding pick
      over h = rw (le-leb u.shape.depth 8 d, ← eq, not-false q g, permits_not u some_threads h) refl

      fit : u.permission ≤ 3 → granted ≡ setup_check u
      unfolding pick
      fit h =
          rw (le-leb u.shape.depth 8 d, ← eq, not-false q g, permits u h, eq-eqb (region_length u) (region_length u) refl) refl

      -- the last test decides what the others leave
      pub last_test : (t : Bool) → t ≡ leb u.permission 3 → (r : Checked) → r ≡ (if t then granted else Err BadShape) → r ≡ setup_check u
      last_test t et r er = er ∙ go t et
        where
          go : (t : Bool) → t ≡ leb u.permission 3 → (if t then granted else Err BadShape) ≡ setup_check u
          go true e = fit (leb-true u.permission 3 (sym e))
          go false e = over (leb-false u.permission 3 (sym e))

-- An accepted setup, as numbers, and its region in the lent one.
module _ (u : Setup) (e : setup_refusal u ≡ done) where
  record Fine : Type 0 where
    shallow : u.shape.depth ≤ 8
    exact : layout_refusal u.shape (permissions_of u) (region_length u) ≡ done

  fine : Fine
  unfolding setup_refusal layout_refusal pick
  fine = ways (leb u.shape.depth 8) refl e
    where
      ways : (q : Bool) → leb u.shape.depth 8 ≡ q
          → code_of (BadShape unless q otherwise layout_check u.shape (permissions_of u) (region_length u)) ≡ done → Fine
      ways true g e = record { shallow = leb-true u.shape.depth 8 g; exact = e }
      ways false g e = absurd (omega arith)

  abbrev zeros : List ℕ
  zeros = replicate (region_length u) 0

  pub accepted : layout_refusal u.shape (permissions_of u) (length zeros) ≡ done
  accepted = ap (layout_refusal u.shape (permissions_of u)) (length-replicate (region_length u) 0) ∙ fine.exact

  pub fine_shape : InRange u.shape
  fine_shape = laid_shape u.shape (permissions_of u) zeros accepted

  pub fine_permission : Fits w8 u.permission
  fine_permission =
      record {
        fits =
            let all = laid_permissions u.shape (permissions_of u) zeros accepted in
            omega (arith, over_same 3 u.permission u.shape.threads fine_shape.threads_least all);
      }

  module _ (all : List ℕ) (same : all ≡ replicate 64 u.permission) where
    pub threads_room : u.shape.threads ≤ length all
    threads_room = omega (arith, fine_shape.threads_most, ap length same, length-replicate 64 u.permission)

    threads_part : take u.shape.threads all ≡ permissions_of u
    threads_part =
        ap (take u.shape.threads) same ∙ take_same u.shape.threads 64 u.permission fine_shape.threads_most

    pub threads_length : u.shape.threads ≡ length (take u.shape.threads all)
    threads_length = sym (ap length threads_part ∙ length-replicate u.shape.threads u.permission)

  pub fine_length : region_length u ≤ 14856
  unfolding region_words_of_width
  fine_length =
      let leaves = pow_mono {i = u.shape.depth - 1} {j = 7} (omega (arith, fine.shallow)) in
      let nodes = pow_mono {i = u.shape.depth} {j = 8} fine.shallow in
      omega (arith, fine_shape, leaves, nodes)

  pub laid_length : length (laid_region u) ≡ region_length u
  unfolding laid_region
  laid_length = laid_exactly u.shape (permissions_of u) zeros accepted

  module _ (w : ℕ) (ew : w ≡ region_words u.shape) where
    exact_length : 4 * w ≡ region_length u
    exact_length = ap (λ n. 4 * n) ew

    pub length_fits : Fits w64 (4 * w)
    length_fits = record { fits = omega (arith, fine_length, exact_length) }

    all_laid : length (laid_region u) ≡ 4 * w
    all_laid = laid_length ∙ sym exact_length

    -- what was laid out stands at the start
    module _ (g g₁ : List ℕ) (laid : g₁ ≡ laid_region u ++ drop (region_length u) g) where
      pub laid_part : take (4 * w) g₁ ≡ laid_region u
      laid_part = ap (take (4 * w)) laid ∙ take_at (laid_region u) (drop (region_length u) g) (4 * w) all_laid

      laid_beyond : drop (4 * w) g₁ ≡ drop (region_length u) g
      laid_beyond = ap (drop (4 * w)) laid ∙ drop_at (laid_region u) (drop (region_length u) g) (4 * w) all_laid

    module _ (g : List ℕ) (lent : length g ≡ 14856) where
      pub region_room : 4 * w ≤ length g
      region_room = omega (arith, fine_length, exact_length)

      pub part_length : 4 * w ≡ length (take (4 * w) g)
      part_length = sym (length-take-le (4 * w) g region_room)

      pub region_laid : (all : List ℕ) → all ≡ replicate 64 u.permission → (b : List ℕ) (r : ℕ)
          → LaidOut u.shape (take u.shape.threads all) (take (4 * w) g) b r
          → b ++ drop (4 * w) g ≡ laid_region u ++ drop (region_length u) g
      unfolding laid_region
      region_laid all same b r o =
          let ps = permissions_of u in
          let zeros : List ℕ = replicate (region_length u) 0 in
          let laid : b ≡ layout_bytes u.shape ps zeros =
          o.bytes
          ∙ ap (λ l. layout_bytes u.shape l (take (4 * w) g)) (threads_part all same)
          ∙ laid_all u.shape ps (take (4 * w) g) (sym part_length ∙ exact_length) fine.exact
          ∙ sym (laid_all u.shape ps zeros (length-replicate (region_length u) 0) fine.exact) in
          ap (λ l. l ++ drop (4 * w) g) laid ∙ ap (λ n. layout_bytes u.shape ps zeros ++ drop n g) exact_length

-- Setting up.
pub is_accepted : (u : Setup) {r : Checked} {x : Unit {0}} → r ≡ setup_check u → r ≡ Ok x → setup_refusal u ≡ done
unfolding setup_refusal
is_accepted u e d = ap code_of (sym e ∙ d)

-- A script with its setup: refused, or its lines run.
module _ (s : List ℕ) (u : Setup) (g g₁ : List ℕ) (t : Text) {r : Checked} (e : SetUp g g₁ u r) where
  module _ {y : Refusal} (n : r ≡ Err y) where
    refused : List ℕ
    refused = line_text 0 0 (Answered (Refused y))

    refused_ran : setup_then s u ≡ after refused (nothing_more [])
    unfolding setup_then refused
    refused_ran = rw (← e.answer, n) refl

    refused_left : g₁ ≡ g
    unfolding setup_refusal pick
    refused_left = rw (← e.answer, n, number_not_done y) at e.bytes

    pub setup_refused : {t' : Text} → Appends t t' (line_text 0 0 (Answered (Refused y))) → SetupRan s u g g₁ t t'
    unfolding refused
    setup_refused {t'} w =
        record {
          output = subst (Appends t t') (sym (ap (λ x. x.printed) refused_ran ∙ append-nil refused)) w;
          region = refused_left ∙ ap (λ x. x.region ++ drop (length x.region) g) (sym refused_ran);
        }

  module _ {x : Unit {0}} (d : r ≡ Ok x) where
    pub ready : setup_refusal u ≡ done
    unfolding setup_refusal
    ready = ap code_of (sym e.answer ∙ d)

    pub ready_shape : InRange u.shape
    ready_shape = fine_shape u ready

    laid : g₁ ≡ laid_region u ++ drop (region_length u) g
    unfolding pick
    laid = rw (eq-eqb (setup_refusal u) done ready) at e.bytes

    ran : setup_then s u ≡ lines_from (length s) s u.next 1 (laid_region u)
    unfolding setup_then
    ran = rw (← e.answer, d) refl

    module _ (w : ℕ) (ew : w ≡ region_words u.shape) where
      pub ready_fits : Fits w64 (4 * w)
      ready_fits = length_fits u ready w ew

      pub ready_laid : take (4 * w) g₁ ≡ laid_region u
      ready_laid = laid_part u ready w ew g g₁ laid

      module _ (same : length g₁ ≡ length g) (lent : length g ≡ 14856) where
        pub ready_room : 4 * w ≤ length g₁
        ready_room = region_room u ready w ew g₁ (same ∙ lent)

        pub ready_part : 4 * w ≡ length (take (4 * w) g₁)
        ready_part = part_length u ready w ew g₁ (same ∙ lent)

        pub setup_ran : (b : List ℕ) {t' : Text} → LinesRan s u.next (take (4 * w) g₁) b t t' → length b ≡ length (take (4 * w) g₁)
            → SetupRan s u g (b ++ drop (4 * w) g₁) t t'
        setup_ran b {t'} l z =
            let all : lines_from (length s) s u.next 1 (take (4 * w) g₁) ≡ setup_then s u =
            ap (lines_from (length s) s u.next 1) ready_laid ∙ sym ran in
            record {
              output = subst (λ x. Appends t t' x.printed) all l.output;
              region =
                  ap (λ x. b ++ x) (laid_beyond u ready w ew g g₁ laid)
                  ∙ ap (λ n. b ++ drop n g) (sym (z ∙ sym ready_part ∙ exact_length u ready w ew))
                  ∙ ap (λ x. x ++ drop (length x) g) (l.region ∙ ap (λ x. x.region) all);
            }
