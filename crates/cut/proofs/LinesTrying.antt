-- Lines tried one by one and by halves: each way out of the functions, over plain variables. Assumes nothing.
use Prim.Native.Nat.{ℕ, zero, suc, ◌+◌, ◌-◌, ◌*◌, ◌/◌, ◌^◌, ◌≤◌, ◌<◌}
use native.Mathlib.Nat.{pow-suc}
use native.Mathlib.Numerals.{add-one}
use native.Mathlib.Omega.{arith}
use mathlib.Core.Path.{◌≡◌, refl, sym, ap, subst, ◌∙◌}
use mathlib.Core.Bool.{Bool, true, false}
use mathlib.Core.List.{List, [], ◌∷◌, ◌++◌}
use lib.ListN.{length, get_or, set, take, drop, length-set, take-append-drop}
use lib.Seq.{drop-append-le, drop-cons, drop-set-lt, get_or-set_same, length-take-le, slice, slice-cons, slice_empty, take-length, take-nil, take-set-le, take-take}
use Rattle.region.specs.Pick.{pick}
use Rattle.region.specs.declared.frame.Frame.{Frame}
use Rattle.script.specs.Inner.{Ready}
use Rattle.cut.specs.Inner.{HalfRan, HalfReady, LinesRan, LinesTriable, LinesTried, StatesRoom, Triable, calls_of, copied_down, lines_region, lines_show, no_line, region_in, slot_of, tried_on}
use Rattle.cut.specs.declared.lines.Line.{Line}
use Rattle.cut.specs.declared.passes.Trial.{Trial}
use Rattle.cut.proofs.Groups.{calls_ready}
use Rattle.cut.proofs.Slots.{to_end, copy_is, last_kept, last_long, region_long, slot_before, slot_kept}
use Rattle.cut.proofs.TriedOn.{tried_both, tried_one}

-- A region is ready after lines that were run on it.
ready_after : (f : Frame) (ls : List Line) (b : List ℕ) → Ready f b → Ready f (lines_region ls b)
ready_after f ls b = calls_ready f (calls_of ls) b

-- Parts of lines as the code has them, and as the definitions say them.
pub part_is : {A : Type 0} (a e : ℕ) (s : List A) → take (e - a) (drop a s) ≡ slice a e s
part_is zero e s =
    let all : e - 0 ≡ e = omega arith in
    ap (λ k. take k s) all
part_is (suc a) zero s =
    let nothing : 0 - suc a ≡ 0 = omega arith in
    ap (λ k. take k (drop (suc a) s)) nothing
part_is (suc a) (suc e) [] = take-nil (suc e - suc a)
part_is (suc a) (suc e) (x ∷ s) =
    let less : suc e - suc a ≡ e - a = omega arith in
    ap (λ k. take k (drop a s)) less ∙ part_is a e s

pub slice_to_end : (k : ℕ) (l : List Line) → slice k (length l) l ≡ drop k l
slice_to_end k l = ap (drop k) (take-length l)

-- One line.
module _ {trial : Trial} {ls : List Line} {at kept : ℕ} {b : List ℕ} (h : Triable trial ls at (at + 1) kept b) where
  abbrev v : Line
  v = get_or ls at no_line

  this_one : slice at (at + 1) ls ≡ v ∷ []
  this_one =
      slice-cons at (at + 1) ls no_line (omega arith) (omega (arith, h.before, h.within))
      ∙ ap (λ l. v ∷ l) (ap (λ k. slice k (at + 1) ls) (sym (add-one at)) ∙ slice_empty (at + 1) ls)

  module _ (b' : List ℕ) (q : Bool) (e : LinesRan trial.number (take (length ls - kept) (drop kept ls)) b b' q) where
    abbrev rest : List Line
    rest = drop kept ls

    left_is : tried_on trial.number b (slice at (at + 1) ls) rest ≡ pick q rest (v ∷ rest)
    left_is =
        ap (λ l. tried_on trial.number b l rest) this_one
        ∙ tried_one trial.number b v rest
        ∙ ap (λ p. pick p rest (v ∷ rest)) (sym (e.shown ∙ ap (lines_show trial.number b) (to_end kept ls)))

    pub line_goes : q ≡ true → LinesTried trial.number ls ls at (at + 1) kept b kept
    unfolding pick
    line_goes g =
        record {
          least = omega (arith, h.before);
          most = omega arith;
          front = refl;
          left = sym (left_is ∙ ap (λ p. pick p rest (v ∷ rest)) g);
        }

    pub line_stays : q ≡ false → LinesTried trial.number ls (set ls (kept - 1) v) at (at + 1) kept b (kept - 1)
    unfolding pick
    line_stays g =
        let k : ℕ = kept - 1 in
        let inside : k < length ls = omega (arith, h.before, h.within) in
        let next : suc k ≡ kept = omega (arith, h.before) in
        record {
          least = omega (arith, h.before);
          most = omega arith;
          front = take-set-le at ls k v (omega (arith, h.before));
          left =
              drop-cons (set ls k v) k no_line (omega (arith, length-set ls k v))
              ∙ ap (λ x. x ∷ drop (suc k) (set ls k v)) (get_or-set_same ls k v no_line inside)
              ∙ ap (λ l. v ∷ l) (drop-set-lt (suc k) ls k v (omega arith) ∙ ap (λ j. drop j ls) next)
              ∙ sym (left_is ∙ ap (λ p. pick p rest (v ∷ rest)) g);
        }

-- Slots: for two regions, and for those of each half.
record Halved (m room : ℕ) : Type 0 where
  two : 29824 ≤ room
  upper : StatesRoom (m - m / 2) (room - 14912)
  lower : StatesRoom (m / 2) room

halved : (m room : ℕ) → 2 ≤ m → StatesRoom m room → Halved m room
halved m room h r = ways r.halvings r.few r.fit
  where
    ways : (k : ℕ) → m ≤ 2 ^ k → 14912 * suc k ≤ room → Halved m room
    ways zero few fit = absurd (omega arith)
    ways (suc k) few fit =
        let twice = pow-suc 2 k in
        record {
          two = omega arith;
          upper = record { halvings = k; few = omega arith; fit = omega arith };
          lower = record { halvings = suc k; few = omega arith; fit = fit };
        }

one_slot : {m room : ℕ} → StatesRoom m room → 14912 ≤ room
one_slot {m} r = omega (arith, r.fit)

-- Lines run on a copy.
module _ {trial : Trial} {l : List ℕ} (h : HalfReady trial l) where
  module _ (p' : List ℕ) (copied : p' ≡ copied_down (take (length l - (length l - 29824)) (drop (length l - 29824) l)) trial.size) where
    abbrev l₁ : List ℕ
    l₁ = take (length l - 29824) l ++ (p' ++ drop (length l - (length l - 29824)) (drop (length l - 29824) l))

    module _ (end : ℕ) (ee : end ≡ (length l - 29824) + trial.size) where
      copied_part : take (end - (length l - 29824)) (drop (length l - 29824) l₁) ≡ region_in trial.size l
      copied_part = copy_is trial.size h.small l h.room p' copied end ee

      pub half_runs :
          Ready trial.frame
          (take (end - (length l - 29824))
          (drop (length l - 29824)
          (take (length l - 29824) l ++ (p' ++ drop (length l - (length l - 29824)) (drop (length l - 29824) l)))))
      half_runs = subst (Ready trial.frame) (sym copied_part) h.ready

      pub half_ran : (ls : List Line) (b' : List ℕ) (q : Bool)
          → LinesRan trial.number ls
          (take (end - (length l - 29824))
          (drop (length l - 29824)
          (take (length l - 29824) l ++ (p' ++ drop (length l - (length l - 29824)) (drop (length l - 29824) l)))))
          b' q
          → length b'
          ≡ length
          (take (end - (length l - 29824))
          (drop (length l - 29824)
          (take (length l - 29824) l ++ (p' ++ drop (length l - (length l - 29824)) (drop (length l - 29824) l)))))
          → HalfRan trial ls l
          (take (length l - 29824)
          (take (length l - 29824) l ++ (p' ++ drop (length l - (length l - 29824)) (drop (length l - 29824) l)))
          ++ (b'
          ++ drop (end - (length l - 29824))
          (drop (length l - 29824)
          (take (length l - 29824) l ++ (p' ++ drop (length l - (length l - 29824)) (drop (length l - 29824) l))))))
          q
      half_ran ls b' q e same =
          let long : length b' ≡ trial.size =
          same
          ∙ ap length copied_part
          ∙ region_long trial.size l (omega (arith, h.small)) (omega (arith, h.room)) in
          record {
            kept = slot_kept trial.size h.small l h.room p' copied end ee b' long;
            shown = e.shown ∙ ap (λ x. lines_show trial.number x ls) copied_part;
            region = λ g.
                slot_before trial.size h.small l h.room p' copied end ee b' long
                ∙ e.region g
                ∙ ap (lines_region ls) copied_part;
          }

module _ {trial : Trial} {ls : List Line} {from to kept : ℕ} {l : List ℕ} (h : LinesTriable trial ls from to kept l) where
  abbrev n : ℕ
  n = trial.number

  abbrev size : ℕ
  size = trial.size

  abbrev region : List ℕ
  region = region_in size l

  pub slot_fits : 14912 ≤ length l
  slot_fits = one_slot h.room

  pub last_ends : (length l - 14912) + trial.size ≤ length l
  last_ends = omega (arith, slot_fits, h.small)

  -- One line.
  module _ (one : to - from ≡ 1) (end : ℕ) (ee : end ≡ (length l - 14912) + trial.size) where
    only : from + 1 ≡ to
    only = omega (arith, h.able.some)

    last_is : take (end - (length l - 14912)) (drop (length l - 14912) l) ≡ region
    unfolding region_in slot_of
    last_is =
        let k : end - (length l - 14912) ≡ size = omega arith in
        ap (λ j. take j (drop (length l - 14912) l)) k

    pub one_able : Triable trial ls from (from + 1) kept (take (end - (length l - 14912)) (drop (length l - 14912) l))
    one_able =
        subst (Triable trial ls from (from + 1) kept) (sym last_is)
        (subst (λ k. Triable trial ls from k kept region) (sym only) h.able)

    pub one_tried : (ls' : List Line) (r : ℕ)
        → LinesTried n ls ls' from (from + 1) kept (take (end - (length l - 14912)) (drop (length l - 14912) l)) r
        → LinesTried n ls ls' from to kept (region_in trial.size l) r
    one_tried ls' r e =
        subst (λ k. LinesTried n ls ls' from k kept region r) only
        (subst (λ x. LinesTried n ls ls' from (from + 1) kept x r) last_is e)

  -- Two halves.
  module _ (more : to - from ≡ 1 → ⊥) where
    many : 2 ≤ to - from
    many = omega (arith, h.able.some)

    rooms : Halved (to - from) (length l)
    rooms = halved (to - from) (length l) many h.room

    module _ (mid : ℕ) (em : mid ≡ from + (to - from) / 2) where
      first_some : from < mid
      first_some = omega (arith, many)

      second_some : mid < to
      second_some = omega (arith, many, h.able.some)

      second_part : to - mid ≡ (to - from) - (to - from) / 2
      second_part = omega (arith, many)

      -- the lines of both halves
      both : slice from to ls ≡ slice from mid ls ++ slice mid to ls
      both =
          let firsts : List Line = take to ls in
          let long : length firsts ≡ to = length-take-le to ls (omega (arith, h.able.before, h.able.within)) in
          ap (drop from) (sym (take-append-drop mid firsts))
          ∙ drop-append-le from (take mid firsts) (drop mid firsts) (omega (arith, length-take-le mid firsts (omega (arith, second_some)), first_some))
          ∙ ap (λ x. drop from x ++ drop mid firsts) (take-take mid to ls (omega (arith, second_some)))

      half_is : take (mid - from) (drop from ls) ≡ slice from mid ls
      half_is = part_is from mid ls

      module _ (l₂ : List ℕ) (q : Bool) (e : HalfRan trial (take (mid - from) (drop from ls)) l l₂ q) (long : length l₂ ≡ length l) where
        -- what both halves leave, from what the second leaves
        second : Bool → List Line
        second p =
            pick p (drop kept ls) (tried_on n (lines_region (slice from mid ls) region) (slice mid to ls) (drop kept ls))

        whole : (p : Bool) → q ≡ p
            → tried_on n region (slice from to ls) (drop kept ls) ≡ tried_on n region (slice from mid ls) (second p)
        unfolding second
        whole p g =
            ap (λ x. tried_on n region x (drop kept ls)) both
            ∙ tried_both n (slice from mid ls) (slice mid to ls) region (drop kept ls)
            ∙ ap (λ x. tried_on n region (slice from mid ls) (second x)) (ap (lines_show n region) (sym half_is) ∙ sym e.shown ∙ g)

        first_able : (ls₁ : List Line) (left : ℕ) (x : List ℕ) → region_in size x ≡ region → length x ≡ length l → mid ≤ left
            → left ≤ length ls₁ → LinesTriable trial ls₁ from mid left x
        first_able ls₁ left x ex lx least most =
            record {
              able =
                  record {
                    ready = subst (Ready trial.frame) (sym ex) h.able.ready;
                    some = first_some;
                    before = least;
                    within = most;
                  };
              small = h.small;
              room =
                  let half : mid - from ≡ (to - from) / 2 = omega arith in
                  subst (λ k. StatesRoom k (length x)) (sym half) (subst (StatesRoom ((to - from) / 2)) (sym lx) rooms.lower);
            }

        first_kept : region_in size l₂ ≡ region
        unfolding region_in
        first_kept = ap (take size) e.kept

        pub shown_able : LinesTriable trial ls from mid kept l₂
        shown_able =
            first_able ls kept l₂ first_kept long (omega (arith, second_some, h.able.before)) h.able.within

        pub shown_tried : q ≡ true → (ls' : List Line) (r : ℕ) → LinesTried n ls ls' from mid kept (region_in trial.size l₂) r
            → LinesTried n ls ls' from to kept (region_in trial.size l) r
        unfolding second pick
        shown_tried g ls' r d =
            record {
              least = d.least;
              most = d.most;
              front = d.front;
              left = d.left ∙ ap (λ x. tried_on n x (slice from mid ls) (drop kept ls)) first_kept ∙ sym (whole true g);
            }

        pub before_fits : length l - 14912 ≤ length l₂
        before_fits = omega (arith, long)

        pub before_long : length l - 14912 ≡ length (take (length l - 14912) l₂)
        before_long = sym (length-take-le (length l - 14912) l₂ before_fits)

        module _ (g : q ≡ false) where
          second_region : region_in size (take (length l - 14912) l₂) ≡ lines_region (slice from mid ls) region
          second_region = e.region g ∙ ap (λ x. lines_region x region) half_is

          pub second_able : LinesTriable trial ls mid to kept (take (length l - 14912) l₂)
          second_able =
              record {
                able =
                    record {
                      ready =
                          subst (Ready trial.frame) (sym second_region)
                          (ready_after trial.frame (slice from mid ls) region h.able.ready);
                      some = second_some;
                      before = h.able.before;
                      within = h.able.within;
                    };
                small = h.small;
                room =
                    subst (λ k. StatesRoom k (length (take (length l - 14912) l₂))) (sym second_part)
                    (subst (StatesRoom ((to - from) - (to - from) / 2)) before_long rooms.upper);
              }

          -- the second half was tried
          module _ (ls₁ : List Line) (left : ℕ) (d : LinesTried n ls ls₁ mid to kept (region_in trial.size (take (length l - 14912) l₂)) left)
              (same_rows : length ls₁ ≡ length ls) (x : List ℕ) (same_x : length x ≡ length (take (length l - 14912) l₂)) where
            abbrev l₃ : List ℕ
            l₃ = x ++ drop (length l - 14912) l₂

            same_cut : length x ≡ length (take (length l₂ - 14912) l₂)
            same_cut = same_x ∙ ap (λ k. length (take (k - 14912) l₂)) (sym long)

            l₃_is : x ++ drop (length l₂ - 14912) l₂ ≡ l₃
            l₃_is = ap (λ k. x ++ drop (k - 14912) l₂) long

            third_kept : region_in size l₃ ≡ region
            unfolding region_in
            third_kept =
                ap (λ y. take size (slot_of y)) (sym l₃_is)
                ∙ ap (take size) (last_kept l₂ x (omega (arith, long, slot_fits)) same_cut ∙ e.kept)

            pub first_half_able : LinesTriable trial ls₁ from mid left (x ++ drop (length l - 14912) l₂)
            first_half_able =
                let all : length l₃ ≡ length l = ap length (sym l₃_is) ∙ last_long l₂ x (omega (arith, long, slot_fits)) same_cut ∙ long in
                first_able ls₁ left l₃ third_kept all d.least (omega (arith, d.most, h.able.within))

            pub halves_tried : (ls₂ : List Line) (r : ℕ)
                → LinesTried n ls₁ ls₂ from mid left (region_in trial.size (x ++ drop (length l - 14912) l₂)) r
                → LinesTried n ls ls₂ from to kept (region_in trial.size l) r
            unfolding second pick
            halves_tried ls₂ r w =
                let fronts : take from ls₁ ≡ take from ls =
                sym (take-take from mid ls₁ (omega (arith, first_some)))
                ∙ ap (take from) d.front
                ∙ take-take from mid ls (omega (arith, first_some)) in
                record {
                  least = w.least;
                  most = omega (arith, w.most, d.most);
                  front = w.front ∙ fronts;
                  left =
                      w.left
                      ∙ ap (λ y. tried_on n y (slice from mid ls₁) (drop left ls₁)) third_kept
                      ∙ ap (λ y. tried_on n region (drop from y) (drop left ls₁)) d.front
                      ∙ ap (tried_on n region (slice from mid ls)) d.left
                      ∙ ap (λ y. tried_on n region (slice from mid ls) (tried_on n y (slice mid to ls) (drop kept ls))) second_region
                      ∙ sym (whole false g);
                }
