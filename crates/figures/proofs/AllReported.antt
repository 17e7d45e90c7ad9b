-- The whole report: the loop over the scripts, the total, and the ways out of `write_report`, over plain variables. Assumes nothing.
use Prim.Native.Nat.{ℕ, zero, suc, ◌+◌, ◌-◌, ◌*◌, ◌≤◌, ◌<◌}
use native.Mathlib.Numerals.{add-one}
use native.Mathlib.Omega.{arith}
use mathlib.Core.Path.{◌≡◌, refl, sym, ap, subst, ◌∙◌}
use mathlib.Core.Bool.{Bool, true, false, not, true≢false}
use mathlib.Core.List.{List, [], ◌∷◌, ◌++◌, append_assoc}
use borrow.Author.Tests.{leb-true, not-true, not-false}
use lib.Dec.{leb}
use lib.ListN.{length, drop, replicate, length-replicate}
use Rattle.std.specs.Prelude.{Some}
use Rattle.region.specs.Pick.{pick}
use Rattle.script.specs.Inner.{Appends, Wrote}
use Rattle.script.specs.Text.{ascii}
use Rattle.script.specs.declared.text.Text.{Text}
use Rattle.script.proofs.Texts.{Appending, append_end, append_more, append_start, appends_length, appends_more, from_start, written}
use Rattle.figures.specs.Scripts.{Found, found, unfound, found_then, Script, read_scripts, script_at, scripts_at}
use Rattle.figures.specs.Turns.{all_turns, turns_in}
use Rattle.figures.specs.Figures.{figures}
use Rattle.figures.specs.Report.{Group, all_groups, group_rows, heading, report, report_of, row_text, thread_groups}
use Rattle.figures.specs.Promises.{Reported}
use Rattle.figures.specs.Inner.{Most, RowRoom, ScriptReported, ScriptThere, ScriptsThere, end_of, is_found, report_room, rows_room, script_rows, scripts_text, the_list, the_rows, the_turns, thread_rows, totalled}
use Rattle.figures.proofs.ScriptsRead.{scripts_more, scripts_over, too_many}
use Rattle.figures.proofs.Tally.{most_more, most_zeros, total_figures, totalled-append}
use Rattle.figures.proofs.TurnsCounted.{not_there}

-- A script and those behind it.
record Behind (whole : Found (List Script)) (r : Found Script) (rest : ℕ → Found (List Script)) (next : ℕ) : Type 0 where
  here : is_found r ≡ true
  there : is_found (rest next) ≡ true
  rows : (k : ℕ) → script_rows k (the_list whole) ≡ the_rows k r ++ script_rows (suc k) (the_list (rest next))
  turns : all_turns (the_list whole) ≡ the_turns r ++ all_turns (the_list (rest next))

rows_append : (gs hs : List Group) → group_rows (gs ++ hs) ≡ group_rows gs ++ group_rows hs
unfolding group_rows
rows_append [] hs = refl
rows_append (g ∷ gs) hs =
    ap (λ l. row_text g.script g.thread (figures g.turns) ++ l) (rows_append gs hs)
    ∙ sym (append_assoc (row_text g.script g.thread (figures g.turns)) (group_rows gs) (group_rows hs))

rows_first : (k : ℕ) (xs ys zs : List Script) (x : Script) → xs ≡ x ∷ ys → zs ≡ ys
    → script_rows k xs ≡ thread_rows k (turns_in x) 1 x.setup.shape.threads ++ script_rows (suc k) zs
unfolding script_rows thread_rows all_groups
rows_first k xs ys zs x e f =
    ap (λ l. group_rows (all_groups k l)) (e ∙ ap (λ l. x ∷ l) (sym f))
    ∙ rows_append (thread_groups k (turns_in x) 1 x.setup.shape.threads) (all_groups (suc k) zs)

turns_first : (xs ys zs : List Script) (x : Script) → xs ≡ x ∷ ys → zs ≡ ys → all_turns xs ≡ turns_in x ++ all_turns zs
unfolding all_turns
turns_first xs ys zs x e f = ap all_turns e ∙ ap (λ l. turns_in x ++ all_turns l) (sym f)

behind : (whole : Found (List Script)) (r : Found Script) (rest : ℕ → Found (List Script)) (next : ℕ)
    → whole ≡ found_then r (λ x n. found_then (rest n) λ xs last. found (x ∷ xs) last) → is_found whole ≡ true → Some next ≡ end_of r
    → Behind whole r rest next
behind whole unfound rest next e h g = absurd (not_there whole h e)
behind whole (found x n) rest next e h g =
    let same : n ≡ next = cc in
    subst (Behind whole (found x n) rest) same (ways (rest n) refl)
  where
    ways : (q : Found (List Script)) → rest n ≡ q → Behind whole (found x n) rest n
    ways unfound f = absurd (not_there whole h (e ∙ ap (λ z. found_then z λ xs last. found (x ∷ xs) last) f))
    ways (found xs last) f =
        let all : whole ≡ found (x ∷ xs) last = e ∙ ap (λ z. found_then z λ xs last. found (x ∷ xs) last) f in
        record {
          here = refl;
          there = ap is_found f;
          rows = λ k. rows_first k (the_list whole) xs (the_list (rest n)) x (ap the_list all) (ap the_list f);
          turns = turns_first (the_list whole) xs (the_list (rest n)) x (ap the_list all) (ap the_list f);
        }

-- Reporting: what is left from here, printed and counted, gives the whole.
pub record Reporting (s : List ℕ) (t₀ : Text) (m : List ℕ) (t : Text) (at k : ℕ) : Type 0 where
  pub first : 1 ≤ k
  pub last : k ≤ 65
  pub there : is_found (scripts_at (65 - k) s at) ≡ true
  pub short : length s ≤ 60000
  pub within : at ≤ length s
  pub columns : length m ≡ 11
  pub few : Most at m
  pub room : t₀.len + report_room ≤ length t₀.out.now
  pub used : t.len ≤ t₀.len + rows_room * (k - 1)
  pub appending : Appending t₀ (script_rows 1 (the_list (read_scripts s))) t (script_rows k (the_list (scripts_at (65 - k) s at)))
  pub total : totalled m (all_turns (the_list (scripts_at (65 - k) s at))) ≡ totalled (replicate 11 0) (all_turns (the_list (read_scripts s)))

input_short : (s : List ℕ) → is_found (read_scripts s) ≡ true → (length s ≤ 60000) × (read_scripts s ≡ scripts_at 64 s 0)
unfolding read_scripts pick
input_short s h = ways (leb (length s) 60000) refl h
  where
    ways : (q : Bool) → leb (length s) 60000 ≡ q → is_found (pick q (scripts_at 64 s 0) unfound) ≡ true
        → (length s ≤ 60000) × (pick q (scripts_at 64 s 0) unfound ≡ scripts_at 64 s 0)
    ways true e h = (leb-true (length s) 60000 e, refl)
    ways false e h = absurd (true≢false (sym h))

pub report_start : (s : List ℕ) (t : Text) → ScriptsThere s t → (m : List ℕ) → m ≡ replicate 11 0 → Reporting s t m t 0 1
report_start s t h m em =
    let all = input_short s h.there in
    record {
      first = omega arith;
      last = omega arith;
      there = ap is_found (sym all.1) ∙ h.there;
      short = all.0;
      within = omega arith;
      columns = ap length em ∙ length-replicate {A = ℕ} 11 0;
      few = subst (Most 0) (sym em) (most_zeros 0 11);
      room = h.room;
      used = omega arith;
      appending =
          subst (λ r. Appending t (script_rows 1 (the_list (read_scripts s))) t (script_rows 1 (the_list r))) all.1
          (append_start t (script_rows 1 (the_list (read_scripts s))) (omega (arith, h.room)));
      total = ap (λ r. totalled m (all_turns (the_list r))) (sym all.1) ∙ ap (λ x. totalled x (all_turns (the_list (read_scripts s)))) em;
    }

module _ {s : List ℕ} {t₀ : Text} {m : List ℕ} {t : Text} {at k : ℕ} (e : Reporting s t₀ m t at k) where
  abbrev left : Found (List Script)
  left = scripts_at (65 - k) s at

  module _ (h : at < length s) where
    more : k ≤ 64
    more = ways (65 - k) refl
      where
        ways : (n : ℕ) → 65 - k ≡ n → k ≤ 64
        ways zero g = absurd (not_there left e.there (too_many (65 - k) s at h g))
        ways (suc n) g = omega arith

    one_less : 65 - k ≡ suc (65 - (k + 1))
    one_less = omega (arith, more, e.first)

    pub report_less : 65 - (k + 1) < 65 - k
    report_less = omega (arith, more)

    split : left ≡ found_then (script_at s at) λ x next. found_then (scripts_at (65 - (k + 1)) s next) λ xs last. found (x ∷ xs) last
    split = scripts_more (65 - k) s at h (65 - (k + 1)) one_less

    here : is_found (script_at s at) ≡ true
    here = ways (script_at s at) refl
      where
        ways : (r : Found Script) → script_at s at ≡ r → is_found (script_at s at) ≡ true
        ways (found x n) g = ap is_found g
        ways unfound g =
            absurd
            (not_there left e.there
            (split ∙ ap (λ z. found_then z λ x next. found_then (scripts_at (65 - (k + 1)) s next) λ xs last. found (x ∷ xs) last) g))

    pub report_there : ScriptThere s at m t
    report_there =
        record {
          there = here;
          short = e.short;
          columns = e.columns;
          few = e.few;
          room = omega (arith, e.used, more, e.room, e.appending.printing.same);
        }

    module _ (m' : List ℕ) {t' : Text} (next : ℕ) (r : ScriptReported s at k m m' t t' next) where
      rest : Behind left (script_at s at) (scripts_at (65 - (k + 1)) s) next
      rest = behind left (script_at s at) (scripts_at (65 - (k + 1)) s) next split e.there r.end

      pub report_more : Reporting s t₀ m' t' next (k + 1)
      report_more =
          record {
            first = omega arith;
            last = omega (arith, more);
            there = rest.there;
            short = e.short;
            within = r.within;
            columns = r.columns;
            few = r.few;
            room = e.room;
            used = omega (arith, e.used, e.first, r.rows.wrote.next, r.fit);
            appending =
                append_more e.appending (the_rows k (script_at s at)) _
                (rest.rows k ∙ ap (λ n. the_rows k (script_at s at) ++ script_rows n (the_list (scripts_at (65 - (k + 1)) s next))) (sym (add-one k)))
                r.rows;
            total =
                ap (λ x. totalled x (all_turns (the_list (scripts_at (65 - (k + 1)) s next)))) r.total
                ∙ sym (totalled-append m (the_turns (script_at s at)) (all_turns (the_list (scripts_at (65 - (k + 1)) s next))))
                ∙ ap (totalled m) (sym rest.turns)
                ∙ e.total;
          }

  module _ (h : length s ≤ at) where
    over : left ≡ found [] at
    over = scripts_over (65 - k) s at h

    rows_done : Appends t₀ t (script_rows 1 (the_list (read_scripts s)))
    unfolding script_rows all_groups group_rows
    rows_done = append_end e.appending (ap (λ r. script_rows k (the_list r)) over)

    all_counted : m ≡ totalled (replicate 11 0) (all_turns (the_list (read_scripts s)))
    unfolding totalled all_turns
    all_counted = ap (λ r. totalled m (all_turns (the_list r))) (sym over) ∙ e.total

    pub total_room : RowRoom 165 t m
    total_room =
        record {
          room = omega (arith, e.used, e.last, e.room, e.appending.printing.same);
          columns = e.columns;
          few = most_more (omega (arith, e.within, e.short)) e.few;
        }

    pub report_end : {t' : Text} → Appends t t' (row_text 0 0 m) → Appends t₀ t' (scripts_text (the_list (read_scripts s)))
    unfolding scripts_text
    report_end {t'} w =
        appends_more rows_done
        (subst (λ fs. Appends t t' (row_text 0 0 fs))
        (all_counted ∙ total_figures (all_turns (the_list (read_scripts s))))
        w)

-- The whole.
report_none : (s : List ℕ) → is_found (read_scripts s) ≡ false → report s ≡ ascii "unreadable\n"
unfolding report
report_none s = go (read_scripts s)
  where
    go : (x : Found (List Script)) → is_found x ≡ false → report_of x ≡ ascii "unreadable\n"
    go unfound h = refl
    go (found xs end) h = absurd (true≢false h)

report_some : (s : List ℕ) → is_found (read_scripts s) ≡ true → report s ≡ heading ++ scripts_text (the_list (read_scripts s))
unfolding report scripts_text script_rows
report_some s = go (read_scripts s)
  where
    go : (x : Found (List Script)) → is_found x ≡ true → report_of x ≡ heading ++ scripts_text (the_list x)
    go unfound h = absurd (true≢false (sym h))
    go (found xs end) h = refl

module _ (s out : List ℕ) where
  text : (xs : List ℕ) → report s ≡ xs → {out' : List ℕ} {r : ℕ} → Wrote out out' 0 r xs → Reported s out out' r
  text xs e {out'} {r} w =
      let long : r ≡ length xs = omega (arith, w.next) in
      record {
        count = long ∙ ap length (sym e);
        output = written out out' r xs w ∙ ap (λ l. l ++ drop r out) (sym e);
      }

  module _ (t₀ : Text) (z : t₀.len ≡ 0) (et : t₀.out.now ≡ out) (q : Bool) (eq : q ≡ is_found (read_scripts s)) where
    pub report_unreadable : not q ≡ true → {t : Text} → Appends t₀ t (ascii "unreadable\n") → Reported s out t.out.now t.len
    report_unreadable h w = text (ascii "unreadable\n") (report_none s (sym eq ∙ not-true q h)) (from_start z et w refl)

    module _ (h : not q ≡ false) {t₁ : Text} (w : Appends t₀ t₁ heading) where
      pub scripts_room : length out ≡ 676087 → ScriptsThere s t₁
      scripts_room long =
          record { there = sym eq ∙ not-false q h; room = omega (arith, z, ap length et, w.wrote.next, appends_length w) }

      pub report_whole : {t₂ : Text} → Appends t₁ t₂ (scripts_text (the_list (read_scripts s))) → Reported s out t₂.out.now t₂.len
      report_whole v =
          text (heading ++ scripts_text (the_list (read_scripts s))) (report_some s (sym eq ∙ not-false q h))
          (from_start z et (appends_more w v) refl)
