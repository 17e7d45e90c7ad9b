-- One script: its region laid out, its lines counted, its rows printed. Each way out of the functions, over plain variables. Assumes
-- nothing.
use Prim.Native.Nat.{ℕ, zero, suc, ◌*◌, ◌≤◌}
use native.Mathlib.Omega.{arith}
use mathlib.Core.Path.{◌≡◌, refl, sym, ap, subst, ◌∙◌}
use mathlib.Core.Bool.{Bool, true, false, true≢false}
use mathlib.Core.List.{List, [], ◌∷◌, ◌++◌}
use mir.Syntax.{w64}
use mir.Val.{Fits}
use borrow.Author.Tests.{eqb-false, eqb-true, ltb-false, ltb-true}
use lib.Dec.{eqb, ltb}
use lib.ListN.{length, drop, get_or, replicate, take, length-append, length-replicate}
use lib.Seq.{get_or-take, length-take-le}
use Rattle.std.specs.Prelude.{Option, Some, None}
use Rattle.region.specs.Refusal.{done}
use Rattle.region.specs.Inner.{InRange}
use Rattle.region.specs.Shape.{region_words}
use Rattle.readable.specs.Readable.{readable}
use Rattle.script.specs.Inner.{Appends}
use Rattle.script.specs.Reading.{opening_at}
use Rattle.script.specs.Script.{laid_region, region_length, setup_refusal}
use Rattle.script.specs.declared.reading.ScriptLine.{ScriptLine}
use Rattle.script.specs.declared.reading.Setup.{Setup}
use Rattle.script.specs.declared.text.Text.{Text}
use Rattle.script.proofs.Readings.{opening_long}
use Rattle.script.proofs.Regions.{laid_readable}
use Rattle.script.proofs.Setups.{fine_shape, laid_part, length_fits, part_length, region_room}
use Rattle.figures.specs.Scripts.{Found, found, unfound, lines_at, script_at}
use Rattle.figures.specs.Turns.{TurnMade, turns_in, turns_of}
use Rattle.figures.specs.Figures.{Test, counts, figures, of_thread, tests}
use Rattle.figures.specs.Report.{group_rows, row_text, thread_groups}
use Rattle.figures.specs.Inner.{LinesCounted, LinesThere, Most, RowsRoom, ScriptReported, ScriptThere, SetupThere, Table, end_of, is_found, rows_text, tally, the_list, the_rows, the_turns, thread_rows, totalled}
use Rattle.figures.proofs.Printed.{row_most}
use Rattle.figures.proofs.ScriptsRead.{accepted, no_script, not_accepted, same_end, with_lines}
use Rattle.figures.proofs.Tally.{most_more, no_row, table_rows, table_zeros, zero_table}
use Rattle.figures.proofs.TurnsCounted.{not_there}

-- An accepted setup: its region is the start of the lent one.
module _ (s : List ℕ) (u : Setup) (l : List (List ℕ)) (m : List ℕ) (h : SetupThere s u l m) where
  pub setup_shape : InRange u.shape
  setup_shape = fine_shape u h.accepted

  module _ (w : ℕ) (ew : w ≡ region_words u.shape) where
    pub setup_fits : Fits w64 (4 * w)
    setup_fits = length_fits u h.accepted w ew

    module _ (g g₁ : List ℕ) (laid : g₁ ≡ laid_region u ++ drop (region_length u) g) where
      part : take (4 * w) g₁ ≡ laid_region u
      part = laid_part u h.accepted w ew g g₁ laid

      module _ (lent : g ≡ replicate 14856 0) (same : length g₁ ≡ length g) where
        all : length g₁ ≡ 14856
        all = same ∙ ap length lent ∙ length-replicate {A = ℕ} 14856 0

        pub setup_room : 4 * w ≤ length g₁
        setup_room = region_room u h.accepted w ew g₁ all

        pub setup_part : 4 * w ≡ length (take (4 * w) g₁)
        setup_part = part_length u h.accepted w ew g₁ all

      pub setup_lines : LinesThere s u.next (take (4 * w) g₁) l m
      setup_lines =
          record {
            there = h.there;
            region = subst (λ b. readable b ≡ true) (sym part) (laid_readable u h.accepted);
            tables = h.tables;
          }

      pub setup_counted : (l' : List (List ℕ)) (m' : List ℕ) (r : ℕ) → LinesCounted s u.next (take (4 * w) g₁) l l' m m' r
          → LinesCounted s u.next (laid_region u) l l' m m' r
      setup_counted l' m' r = subst (λ b. LinesCounted s u.next b l l' m m' r) part

-- How long the rows of a script can be.
counts_long : (ts : List Test) (vs : List TurnMade) → length (counts ts vs) ≡ length ts
unfolding counts
counts_long [] vs = refl
counts_long (t ∷ ts) vs = ap suc (counts_long ts vs)

figures_long : (vs : List TurnMade) → length (figures vs) ≡ 11
unfolding figures
figures_long vs = counts_long tests vs

rows_most : (k : ℕ) (vs : List TurnMade) (t n : ℕ) → length (thread_rows k vs t n) ≤ 165 * n
unfolding thread_rows group_rows thread_groups
rows_most k vs t zero = omega arith
rows_most k vs t (suc n) =
    let fs : List ℕ = figures (of_thread t vs) in
    omega (
      arith,
      length-append (row_text k t fs) (thread_rows k vs (suc t) n),
      row_most k t fs (omega (arith, figures_long (of_thread t vs))),
      rows_most k vs (suc t) n,
    )

-- What a script of this setup is, by its lines: whether it is there, its turns, its rows.
module _ (u : Setup) where
  same_there : (r : Found (List ScriptLine)) → is_found (with_lines u r) ≡ is_found r
  unfolding with_lines
  same_there (found ls next) = refl
  same_there unfound = refl

  turns_of_lem : (r : Found (List ScriptLine)) → is_found r ≡ true → the_turns (with_lines u r) ≡ turns_of (the_list r) (laid_region u)
  unfolding with_lines turns_in
  turns_of_lem (found ls next) h = refl
  turns_of_lem unfound h = absurd (true≢false (sym h))

  rows_of : (k : ℕ) (r : Found (List ScriptLine)) → is_found r ≡ true
      → the_rows k (with_lines u r) ≡ thread_rows k (turns_of (the_list r) (laid_region u)) 1 u.shape.threads
  unfolding with_lines turns_in
  rows_of k (found ls next) h = refl
  rows_of k unfound h = absurd (true≢false (sym h))

-- A script that is there was accepted, and its lines are there.
module _ {s : List ℕ} {at : ℕ} {m : List ℕ} {t : Text} (h : ScriptThere s at m t) (r : Option Setup) (er : r ≡ opening_at s at) where
  pub script_unread : r ≡ None → (k : ℕ) → ScriptReported s at k m m t t at
  script_unread g k = absurd (not_there (script_at s at) h.there (no_script s at r er g))

  module _ (u : Setup) (g : r ≡ Some u) where
    is_done : setup_refusal u ≡ done
    is_done = ways (eqb (setup_refusal u) done) refl
      where
        ways : (q : Bool) → eqb (setup_refusal u) done ≡ q → setup_refusal u ≡ done
        ways true e = eqb-true (setup_refusal u) done e
        ways false e =
            absurd (not_there (script_at s at) h.there (not_accepted s at r er u g (eqb-false (setup_refusal u) done e)))

    abbrev lines : Found (List ScriptLine)
    lines = lines_at (length s) s u.next

    whole : script_at s at ≡ with_lines u lines
    whole = accepted s at r er u g is_done

    lines_there : is_found lines ≡ true
    lines_there = sym (same_there u lines) ∙ ap is_found (sym whole) ∙ h.there

    pub script_setup : (l : List (List ℕ)) → l ≡ replicate 64 (replicate 11 0) → SetupThere s u l m
    script_setup l e =
        record {
          accepted = is_done;
          there = lines_there;
          tables =
              record {
                short = h.short;
                table = subst (Table u.next) (sym e) (table_zeros u.next);
                columns = h.columns;
                few = most_more (opening_long s at u (sym er ∙ g)) h.few;
              };
        }

    module _ (l l' : List (List ℕ)) (m' : List ℕ) (next : ℕ) (c : LinesCounted s u.next (laid_region u) l l' m m' next) where
      few_threads : u.shape.threads ≤ 64
      few_threads = (fine_shape u is_done).threads_most

      pub threads_there : u.shape.threads ≤ length l'
      threads_there = omega (arith, few_threads, c.tables.table.rows)

      few_long : length (take u.shape.threads l') ≡ u.shape.threads
      few_long = length-take-le u.shape.threads l' threads_there

      pub threads_long : u.shape.threads ≡ length (take u.shape.threads l')
      threads_long = sym few_long

      pub script_room : RowsRoom t (take u.shape.threads l')
      script_room =
          record {
            room = omega (arith, few_threads, few_long, h.room);
            most = omega (arith, few_threads, few_long);
            columns = λ i w.
                ap length (get_or-take u.shape.threads l' i [] (omega (arith, few_long)))
                ∙ c.tables.table.columns i (omega (arith, few_long, few_threads));
            few = λ i. few i (ltb i u.shape.threads) refl;
          }
        where
          few : (i : ℕ) (q : Bool) → ltb i u.shape.threads ≡ q → Most 60000 (get_or (take u.shape.threads l') i [])
          few i true e =
              subst (Most 60000) (sym (get_or-take u.shape.threads l' i [] (ltb-true i u.shape.threads e)))
              (most_more (omega (arith, c.within, h.short)) (c.tables.table.few i))
          few i false e =
              subst (Most 60000) (sym (no_row (take u.shape.threads l') i (omega (arith, few_long, ltb-false i u.shape.threads e))))
              (record { each = λ k. omega arith })

      pub script_reported : l ≡ replicate 64 (replicate 11 0) → (k : ℕ) {t' : Text} → Appends t t' (rows_text k 0 (take u.shape.threads l'))
          → ScriptReported s at k m m' t t' next
      script_reported e k {t'} w =
          let turns : List TurnMade = turns_of (the_list lines) (laid_region u) in
          let counted : l' ≡ tally zero_table turns = c.table ∙ ap (λ x. tally x turns) e in
          let rows : rows_text k 0 (take u.shape.threads l') ≡ the_rows k (script_at s at) =
          ap (λ x. rows_text k 0 (take u.shape.threads x)) counted
          ∙ table_rows k turns u.shape.threads few_threads
          ∙ sym (rows_of u k lines lines_there)
          ∙ ap (the_rows k) (sym whole) in
          record {
            end = c.next ∙ sym (same_end u lines) ∙ ap end_of (sym whole);
            rows = subst (Appends t t') rows w;
            fit =
                omega (
                  arith,
                  rows_most k turns 1 u.shape.threads,
                  few_threads,
                  ap length (sym (rows_of u k lines lines_there) ∙ ap (the_rows k) (sym whole)),
                );
            total = c.total ∙ ap (totalled m) (sym (turns_of_lem u lines lines_there) ∙ ap the_turns (sym whole));
            columns = c.tables.columns;
            few = c.tables.few;
            within = c.within;
          }
