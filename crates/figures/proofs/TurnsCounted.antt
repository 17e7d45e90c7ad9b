-- A line's turn counted, and the loop over the lines: each way out of the functions, over plain variables. Assumes nothing.
use Prim.Native.Nat.{ℕ, suc, ◌+◌, ◌-◌, ◌≤◌, ◌<◌}
use native.Mathlib.Numerals.{add-one}
use native.Mathlib.Omega.{arith}
use mathlib.Core.Path.{◌≡◌, refl, sym, ap, subst, ◌∙◌}
use mathlib.Core.Bool.{Bool, true, false, true≢false}
use mathlib.Core.List.{List, [], ◌∷◌, ◌++◌}
use lib.ListN.{length, get_or, set}
use Rattle.std.specs.Prelude.{Option, Some, None}
use Rattle.region.specs.Inner.{Within}
use Rattle.region.specs.Pick.{pick}
use Rattle.region.specs.Shape.{between}
use Rattle.region.specs.Shared.{thread_in}
use Rattle.region.specs.declared.frame.Frame.{Frame}
use Rattle.region.specs.declared.thread.Thread.{Thread}
use Rattle.region.specs.declared.queue.View.{View}
use Rattle.region.proofs.Shapes.{between_least, between_most}
use Rattle.access.specs.declared.plan.Plan.{Plan}
use Rattle.readable.specs.Readable.{frame_in}
use Rattle.readable.proofs.Laws.{readable_within}
use Rattle.machine.specs.Turn.{turn_plan}
use Rattle.script.specs.Inner.{CallMade, Ready}
use Rattle.script.specs.Reading.{read_line}
use Rattle.script.specs.declared.printing.Outcome.{Outcome}
use Rattle.script.specs.declared.reading.ScriptLine.{ScriptLine}
use Rattle.script.specs.declared.reading.What.{What}
use Rattle.script.specs.declared.reading.What.TheVariants.{Put, Take, TakeList, Permit, Turn}
use Rattle.script.proofs.Readings.{line_long}
use Rattle.script.proofs.Regions.{still_ready}
use Rattle.figures.specs.Scripts.{Found, found, unfound, found_then, lines_at}
use Rattle.figures.specs.Turns.{TurnMade, turn_by, turn_made, turns_of}
use Rattle.figures.specs.Inner.{Countable, LineCounted, LinesCounted, Most, Table, Tables, TurnCounted, counted, end_of, is_found, tallied, tally, the_list, totalled}
use Rattle.figures.proofs.LinesRead.{lines_ended, lines_more, lines_past, lines_unread}
use Rattle.figures.proofs.Tally.{most_counted, most_more, table_more, table_tallied, tally-append, totalled-append, totalled-length}

-- What one turn needs: the frame lies within the region, and a figure can grow by three.
module _ {b : List ℕ} {l : List (List ℕ)} {m : List ℕ} (h : Countable b l m) where
  pub frame_there : (f : Frame) → f ≡ frame_in b → Within f (length b)
  frame_there f e = subst (λ g. Within g (length b)) (sym e) (readable_within b h.region)

  pub thread_row : (i : ℕ) → Most 4294967292 (get_or l i [])
  thread_row i = h.table.few i

pub some_thread : (n : ℕ) (p : Bool) → p ≡ between 1 n 64 → p ≡ true → 1 ≤ n
some_thread n p e g = between_least 1 n 64 (sym e ∙ g)

pub row_there : (n : ℕ) (p : Bool) → p ≡ between 1 n 64 → p ≡ true → n - 1 < 64
row_there n p e g = omega (arith, between_least 1 n 64 (sym e ∙ g), between_most 1 n 64 (sym e ∙ g))

-- The turn that was counted is the one that the thread makes.
module _ (b : List ℕ) (n c : ℕ) (f : Frame) (ef : f ≡ frame_in b) (w : View) (ew : (w.bytes.now ≡ b) × (w.frame ≡ f))
    (v : Thread) (ev : v ≡ thread_in w.frame w.bytes.now n) (q : Plan)
    (eq : q ≡ turn_plan f b n c) (p : Bool) (ep : p ≡ between 1 n 64) (l : List (List ℕ)) (m m' : List ℕ) (em : m' ≡ counted m v.place q) where
  abbrev made : TurnMade
  made = turn_made b n c

  place-made : v.place ≡ made.place
  unfolding turn_made
  place-made =
      ap (λ x. x.place) ev
      ∙ ap (λ y. (thread_in w.frame y n).place) ew.0
      ∙ ap (λ g. (thread_in g b n).place) (ew.1 ∙ ef)

  plan-made : q ≡ made.plan
  unfolding turn_made
  plan-made = eq ∙ ap (λ g. turn_plan g b n c) ef

  in_row : (k : List ℕ) → counted k v.place q ≡ counted k made.place made.plan
  in_row k = ap (λ x. counted k x q) place-made ∙ ap (counted k made.place) plan-made

  pub both_counted : p ≡ true → (r : List ℕ) → r ≡ counted (get_or l (n - 1) []) v.place q → TurnCounted made l (set l (n - 1) r) m m'
  unfolding tallied pick turn_made
  both_counted h r e =
      record { table = rw (← ep, h) (ap (set l (n - 1)) (e ∙ in_row (get_or l (n - 1) []))); total = em ∙ in_row m }

  pub total_counted : p ≡ false → TurnCounted made l l m m'
  unfolding tallied pick turn_made
  total_counted h = record { table = rw (← ep, h) refl; total = em ∙ in_row m }

-- A line's turn, if it makes one.
pub no_turn : (b : List ℕ) (what : What) (n : ℕ) (l : List (List ℕ)) (m : List ℕ) → ((c : ℕ) → what ≡ Turn c → ⊥)
    → LineCounted (turn_by b what n) l l m m
unfolding tally totalled
no_turn b (Put i) n l m h = record { table = refl; total = refl }
no_turn b Take n l m h = record { table = refl; total = refl }
no_turn b TakeList n l m h = record { table = refl; total = refl }
no_turn b (Permit p) n l m h = record { table = refl; total = refl }
no_turn b (Turn c) n l m h = absurd (h c refl)

pub one_turn : (b : List ℕ) (what : What) (n c : ℕ) (l l' : List (List ℕ)) (m m' : List ℕ) → what ≡ Turn c → TurnCounted (turn_made b n c) l l' m m'
    → LineCounted (turn_by b what n) l l' m m'
unfolding tally totalled
one_turn b what n c l l' m m' e t =
    let one : turn_by b what n ≡ turn_made b n c ∷ [] = ap (λ w. turn_by b w n) e in
    record { table = t.table ∙ ap (tally l) (sym one); total = t.total ∙ ap (totalled m) (sym one) }

-- No figure is then above the bytes read: a line has ten or more, and adds three at most.
table_by : {k : ℕ} {l : List (List ℕ)} (b : List ℕ) (what : What) (n : ℕ) → Table k l → Table (k + 3) (tally l (turn_by b what n))
unfolding tally
table_by b (Put i) n h = table_more (omega arith) h
table_by b Take n h = table_more (omega arith) h
table_by b TakeList n h = table_more (omega arith) h
table_by b (Permit p) n h = table_more (omega arith) h
table_by b (Turn c) n h = table_tallied (turn_made b n c) h

most_in_total : {k : ℕ} {l : List ℕ} (b : List ℕ) (what : What) (n : ℕ) → Most k l → Most (k + 3) (totalled l (turn_by b what n))
unfolding totalled
most_in_total b (Put i) n h = most_more (omega arith) h
most_in_total b Take n h = most_more (omega arith) h
most_in_total b TakeList n h = most_more (omega arith) h
most_in_total b (Permit p) n h = most_more (omega arith) h
most_in_total b (Turn c) n h = most_counted (turn_made b n c).place (turn_made b n c).plan h

-- Lines that are there are not unfound; and behind a line there are the lines behind it.
pub not_there : {A : Type 0} (r : Found A) → is_found r ≡ true → r ≡ unfound → ⊥
not_there (found x next) h e = true≢false (ap is_found e)
not_there unfound h e = true≢false (sym h)

record Behind (x : ScriptLine) (whole r : Found (List ScriptLine)) : Type 0 where
  there : is_found r ≡ true
  end : end_of r ≡ end_of whole
  list : the_list whole ≡ x ∷ the_list r

behind : (x : ScriptLine) (whole r : Found (List ScriptLine)) → whole ≡ found_then r (λ ls next. found (x ∷ ls) next) → is_found whole ≡ true
    → Behind x whole r
behind x whole (found ls next) e h = record { there = refl; end = ap end_of (sym e); list = ap the_list e }
behind x whole unfound e h = absurd (not_there whole h e)

-- Counting: what is left from here, counted into what there is so far, gives the whole.
pub record Counting (f : Frame) (s : List ℕ) (start : ℕ) (b₀ : List ℕ) (l₀ : List (List ℕ)) (m₀ : List ℕ) (at : ℕ) (b : List ℕ) (l : List (List ℕ))
    (m : List ℕ) : Type 0 where
  pub there : is_found (lines_at (length s) s at) ≡ true
  pub ready : Ready f b
  pub same_region : length b ≡ length b₀
  pub tables : Tables s at l m
  pub end : end_of (lines_at (length s) s at) ≡ end_of (lines_at (length s) s start)
  pub table : tally l (turns_of (the_list (lines_at (length s) s at)) b) ≡ tally l₀ (turns_of (the_list (lines_at (length s) s start)) b₀)
  pub total : totalled m (turns_of (the_list (lines_at (length s) s at)) b) ≡ totalled m₀ (turns_of (the_list (lines_at (length s) s start)) b₀)

module _ {f : Frame} {s : List ℕ} {start : ℕ} {b₀ : List ℕ} {l₀ : List (List ℕ)} {m₀ : List ℕ} {at : ℕ} {b : List ℕ} {l : List (List ℕ)}
    {m : List ℕ}
    (e : Counting f s start b₀ l₀ m₀ at b l m) where
  abbrev lines : Found (List ScriptLine)
  lines = lines_at (length s) s at

  pub count_past : length s ≤ at → LinesCounted s start b₀ l₀ l m₀ m at
  count_past h = absurd (not_there lines e.there (lines_past (length s) s at h))

  pub count_end : at < length s → get_or s at 0 ≡ 10 → LinesCounted s start b₀ l₀ l m₀ m (at + 1)
  unfolding turns_of tally totalled
  count_end i h =
      let last : lines ≡ found [] (suc at) = lines_ended s at h in
      record {
        next = ap Some (add-one at) ∙ ap end_of (sym last) ∙ e.end;
        table = ap (λ r. tally l (turns_of (the_list r) b)) (sym last) ∙ e.table;
        total = ap (λ r. totalled m (turns_of (the_list r) b)) (sym last) ∙ e.total;
        tables =
            record {
              short = e.tables.short;
              table = table_more (omega arith) e.tables.table;
              columns = e.tables.columns;
              few = most_more (omega arith) e.tables.few;
            };
        within = omega arith;
      }

  module _ (h : get_or s at 0 ≡ 10 → ⊥) (r : Option ScriptLine) (er : r ≡ read_line s at) where
    pub count_unread : r ≡ None → LinesCounted s start b₀ l₀ l m₀ m at
    count_unread g = absurd (not_there lines e.there (lines_unread s at h (sym er ∙ g)))

    module _ (x : ScriptLine) (g : r ≡ Some x) where
      long : at + 10 ≤ x.next
      long = line_long s at x (sym er ∙ g)

      pub count_less : at < length s → length s - x.next < length s - at
      count_less i = omega (arith, long)

      rest : Behind x lines (lines_at (length s) s x.next)
      rest = behind x lines (lines_at (length s) s x.next) (lines_more s at h x (sym er ∙ g)) e.there

      pub count_more : {l' : List (List ℕ)} {m' b' : List ℕ} (o : Outcome) → LineCounted (turn_by b x.what x.thread) l l' m m'
          → CallMade b b' x.what x.thread o → length b' ≡ length b → Counting f s start b₀ l₀ m₀ x.next b' l' m'
      unfolding turns_of
      count_more {l'} {m'} {b'} o t k z =
          let now : List TurnMade = turn_by b x.what x.thread in
          let left : List ScriptLine = the_list (lines_at (length s) s x.next) in
          let later : List TurnMade = turns_of left b' in
          let turns : turns_of (the_list lines) b ≡ now ++ later =
          ap (λ ls. turns_of ls b) rest.list ∙ ap (λ y. now ++ turns_of left y) (sym k.bytes) in
          record {
            there = rest.there;
            ready = still_ready f b b' e.ready x.what x.thread o k;
            same_region = z ∙ e.same_region;
            tables =
                record {
                  short = e.tables.short;
                  table =
                      subst (Table x.next) (sym t.table)
                      (table_more (omega (arith, long)) (table_by b x.what x.thread e.tables.table));
                  columns = ap length t.total ∙ totalled-length m now ∙ e.tables.columns;
                  few =
                      subst (Most x.next) (sym t.total)
                      (most_more (omega (arith, long)) (most_in_total b x.what x.thread e.tables.few));
                };
            end = rest.end ∙ e.end;
            table =
                ap (λ y. tally y later) t.table ∙ sym (tally-append l now later) ∙ ap (tally l) (sym turns) ∙ e.table;
            total =
                ap (λ y. totalled y later) t.total ∙ sym (totalled-append m now later) ∙ ap (totalled m) (sym turns) ∙ e.total;
          }
