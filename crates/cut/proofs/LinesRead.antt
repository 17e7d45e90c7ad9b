-- Lines read one after the other: where they lie, and the loop that reads them. Assumes nothing.
use Prim.Native.Nat.{ℕ, zero, suc, ◌+◌, ◌-◌, ◌*◌, ◌≤◌, ◌<◌}
use native.Mathlib.Numerals.{add-one}
use native.Mathlib.Omega.{arith}
use mathlib.Core.Path.{◌≡◌, refl, sym, ap, subst, ◌∙◌}
use mathlib.Core.List.{List, [], ◌∷◌, ◌++◌, append_assoc, append-nil, Sublistᴰ}
use lib.ListN.{length, get_or, set, take, replicate, length-map, length-set}
use lib.Seq.{length-take-le, take-suc-set}
use Rattle.std.specs.Prelude.{Option, Some, None}
use Rattle.std.proofs.lemmas.List.{map-append}
use Rattle.script.specs.Reading.{read_line}
use Rattle.script.specs.declared.reading.ScriptLine.{ScriptLine}
use Rattle.script.proofs.Readings.{line_long}
use Rattle.cut.specs.Whole.{Entry, entries_from, entry_of, with_first}
use Rattle.cut.specs.Inner.{LineFits, LinesRead, LinesReady, Placed, count_of, entries_in, entry_in, line_at, no_line}
use Rattle.cut.specs.declared.lines.Line.{Line}
use Rattle.cut.proofs.Entries.{entries_over, entries_read, entries_unreadable, line_within}
use Rattle.cut.proofs.NoLineLeftOut.{enough}

-- Where lines lie: no line has no bytes; and lines of which each lies in the script, with some left out, with one stored, and their first.
module _ (s : List ℕ) where
  blank_at : (n k : ℕ) → get_or (replicate n no_line) k no_line ≡ no_line
  blank_at zero k = refl
  blank_at (suc n) zero = refl
  blank_at (suc n) (suc k) = blank_at n k

  pub placed_blank : (n : ℕ) → Placed s (replicate n no_line)
  placed_blank n =
      record {
        starts = λ k. omega (arith, ap (λ l. l.start) (blank_at n k), ap (λ l. l.end) (blank_at n k));
        ends = λ k. omega (arith, ap (λ l. l.end) (blank_at n k));
      }

  -- a fact of each line
  module _ (P : Line → Type 0) where
    part_each : {xs ys : List Line} → Sublistᴰ xs ys → ((k : ℕ) → P (get_or ys k no_line)) → (k : ℕ) → P (get_or xs k no_line)
    part_each Sublistᴰ.slnil h k = h k
    part_each (Sublistᴰ.cons p) h k = part_each p (λ j. h (suc j)) k
    part_each (Sublistᴰ.cons-cons e p) h zero = subst P (sym e) (h zero)
    part_each (Sublistᴰ.cons-cons e p) h (suc k) = part_each p (λ j. h (suc j)) k

    set_each : (l : Line) → P l → (n : ℕ) (ls : List Line) → ((k : ℕ) → P (get_or ls k no_line)) → (k : ℕ) → P (get_or (set ls n l) k no_line)
    set_each l p n [] h k = h k
    set_each l p zero (x ∷ xs) h zero = p
    set_each l p zero (x ∷ xs) h (suc k) = h (suc k)
    set_each l p (suc n) (x ∷ xs) h zero = h zero
    set_each l p (suc n) (x ∷ xs) h (suc k) = set_each l p n xs (λ j. h (suc j)) k

    take_each : P no_line → (n : ℕ) (ls : List Line) → ((k : ℕ) → P (get_or ls k no_line)) → (k : ℕ) → P (get_or (take n ls) k no_line)
    take_each p zero ls h k = p
    take_each p (suc n) [] h k = p
    take_each p (suc n) (x ∷ xs) h zero = h zero
    take_each p (suc n) (x ∷ xs) h (suc k) = take_each p n xs (λ j. h (suc j)) k

  pub placed_part : {xs ys : List Line} → Sublistᴰ xs ys → Placed s ys → Placed s xs
  placed_part p h =
      record { starts = part_each (λ l. l.start ≤ l.end) p h.starts; ends = part_each (λ l. l.end ≤ length s) p h.ends }

  placed_set : (l : Line) → l.start ≤ l.end → l.end ≤ length s → (n : ℕ) (ls : List Line) → Placed s ls → Placed s (set ls n l)
  placed_set l a b n ls h =
      record { starts = set_each (λ l. l.start ≤ l.end) l a n ls h.starts; ends = set_each (λ l. l.end ≤ length s) l b n ls h.ends }

  pub placed_take : (n : ℕ) (ls : List Line) → Placed s ls → Placed s (take n ls)
  placed_take n ls h =
      record {
        starts = take_each (λ l. l.start ≤ l.end) (omega arith) n ls h.starts;
        ends = take_each (λ l. l.end ≤ length s) (omega arith) n ls h.ends;
      }

-- Lines that were read, with those that are left.
pub joined : List Entry → Option (List Entry) → Option (List Entry)
joined es None = None
joined es (Some fs) = Some (es ++ fs)

joined_more : (es : List Entry) (e : Entry) (o : Option (List Entry)) → joined (es ++ (e ∷ [])) o ≡ joined es (with_first e o)
unfolding joined
joined_more es e None = refl
joined_more es e (Some fs) = ap Some (append_assoc es (e ∷ []) fs)

joined_none : (o : Option (List Entry)) → joined [] o ≡ o
unfolding joined
joined_none None = refl
joined_none (Some fs) = refl

-- The loop: what was read and what is left, from here, are all lines.
pub record Reading (s : List ℕ) (start : ℕ) (ls₀ ls : List Line) (at count : ℕ) : Type 0 where
  pub ready : LinesReady s ls
  pub same : length ls ≡ length ls₀
  pub few : 10 * count ≤ at
  pub most : count ≤ 6000
  pub left : joined (entries_in s (take count ls)) (entries_from (length s) s at) ≡ entries_from (length s) s start

pub read_start : (s : List ℕ) (start : ℕ) (ls : List Line) → LinesReady s ls → Reading s start ls ls start 0
read_start s start ls h =
    record { ready = h; same = refl; few = omega arith; most = omega arith; left = joined_none (entries_from (length s) s start) }

module _ {s : List ℕ} {start : ℕ} {ls₀ ls : List Line} {at count : ℕ} (e : Reading s start ls₀ ls at count) where
  abbrev done : List Entry
  done = entries_in s (take count ls)

  many : length done ≡ count
  many = length-map (take count ls) (entry_in s) ∙ length-take-le count ls (omega (arith, e.most, e.ready.room))

  -- with one line more allowed
  step : entries_from (length s) s at ≡ entries_from (suc (length s)) s at
  step =
      enough (length s) (suc (length s)) s at e.ready.some (omega arith) (omega (arith, e.ready.some)) (omega arith)

  pub read_end : length s ≤ at → LinesRead s start ls (Some count)
  unfolding joined
  read_end h =
      let all : Some done ≡ entries_from (length s) s start =
      ap Some (sym (append-nil done))
      ∙ ap (joined done) (sym (step ∙ entries_over (length s) s at h))
      ∙ e.left in
      record {
        count = ap Some (sym many) ∙ ap count_of all;
        entries = λ es g.
            let same : done ≡ es = cc in
            sym same ∙ ap (λ n. entries_in s (take n ls)) (sym many ∙ ap length same);
        few = λ n g. let same : count ≡ n = cc in omega (arith, e.most);
        placed = e.ready.placed;
      }

  module _ (h : at < length s) (r : Option ScriptLine) (er : r ≡ read_line s at) where
    pub read_unread : r ≡ None → (q : Option ℕ) → q ≡ None → LinesRead s start ls q
    unfolding joined
    read_unread g q eq =
        let all : None ≡ entries_from (length s) s start =
        ap (joined done) (sym (step ∙ entries_unreadable (length s) s at h (sym er ∙ g))) ∙ e.left in
        record {
          count = eq ∙ ap count_of all;
          entries = λ es w. let z : ◌≡◌ {A = ℕ} 0 1 = cc in absurd (omega arith);
          few = λ n w. let z : ◌≡◌ {A = ℕ} 0 1 = cc in absurd (omega arith);
          placed = e.ready.placed;
        }

    module _ (l : ScriptLine) (g : r ≡ Some l) where
      long : at + 10 ≤ l.next
      long = line_long s at l (sym er ∙ g)

      within : l.next ≤ length s
      within = line_within s at l (sym er ∙ g)

      pub read_less : length s - l.next < length s - at
      read_less = omega (arith, long)

      pub line_fits : LineFits l at
      line_fits = record { start_fits = omega (arith, e.ready.short); end_fits = omega (arith, within, e.ready.short) }

      pub line_there : count < length ls
      line_there = omega (arith, e.few, e.ready.short, e.ready.room)

      pub read_more : (x : Line) → x ≡ line_at l at → Reading s start ls₀ (set ls count x) l.next (count + 1)
      read_more x ex =
          subst (λ y. Reading s start ls₀ (set ls count y) l.next (count + 1)) (sym ex)
          (record {
            ready =
                record {
                  some = e.ready.some;
                  short = e.ready.short;
                  room = length-set ls count (line_at l at) ∙ e.ready.room;
                  placed = placed_set s (line_at l at) (omega (arith, long)) within count ls e.ready.placed;
                };
            same = length-set ls count (line_at l at) ∙ e.same;
            few = omega (arith, e.few, long);
            most = omega (arith, e.few, long, within, e.ready.short);
            left =
                ap (λ n. joined (entries_in s (take n (set ls count (line_at l at)))) (entries_from (length s) s l.next)) (add-one count)
                ∙ ap (λ xs. joined (entries_in s xs) (entries_from (length s) s l.next)) (take-suc-set ls count (line_at l at) line_there)
                ∙ ap (λ es. joined es (entries_from (length s) s l.next)) (map-append (entry_in s) (take count ls) (line_at l at ∷ []))
                ∙ joined_more done (entry_of s at l) (entries_from (length s) s l.next)
                ∙ ap (joined done) (sym (step ∙ entries_read (length s) s at h l (sym er ∙ g)))
                ∙ e.left;
          })
