-- The lines of a script: a line's call, and one pass of the loop over the lines. Assumes nothing.
use Prim.Native.Nat.{ℕ, zero, suc, ◌+◌, ◌-◌, ◌*◌, ◌≤◌, ◌<◌}
use native.Mathlib.Numerals.{add-one}
use native.Mathlib.Omega.{arith}
use mathlib.Core.Path.{◌≡◌, refl, sym, ap, subst, ◌∙◌}
use mathlib.Core.List.{List, []}
use borrow.Author.Tests.{lt-ltb, le-ltb}
use mir.Syntax.{w32}
use mir.Val.{Fits}
use lib.ListN.{length}
use Rattle.std.specs.Prelude.{Option, Some, None}
use Rattle.region.specs.Refusal.{Checked}
use Rattle.region.specs.Inner.{Within}
use Rattle.region.specs.Pick.{pick}
use Rattle.region.specs.declared.answer.Answer.{Answer}
use Rattle.region.specs.declared.frame.Frame.{Frame}
use Rattle.region.specs.declared.place.Place.{Place}
use Rattle.region.specs.declared.place.Place.TheVariants.{ReadRoot, ListReadRoot}
use Rattle.region.specs.declared.record.Item.{Item}
use Rattle.readable.proofs.Laws.{readable_within}
use Rattle.permission.specs.Permit.{PermitSetIn, permit_bytes_in, permit_check_in}
use Rattle.permission.proofs.Laws.{permit_bytes_in_lem, permit_check_in_lem}
use Rattle.begin.specs.Begin.{PutBegunIn, TakeBegunIn, put_bytes_in, put_check_in, take_bytes, take_bytes_in, take_check, take_check_in}
use Rattle.begin.proofs.Laws.{put_bytes_in_lem, put_check_in_lem, take_bytes_in_lem, take_check_in_lem}
use Rattle.machine.specs.Turn.{Turned, turn_answer, turn_bytes, turn_on_answer, turn_on_bytes}
use Rattle.script.specs.Inner.{Appends, CallMade, LinesRan, LinesReady, Ready}
use Rattle.script.specs.Reading.{read_line}
use Rattle.script.specs.Printing.{line_text}
use Rattle.script.specs.Script.{Ran, after, call_bytes, call_outcome, done_or, lines_from, nothing_more}
use Rattle.script.specs.declared.printing.Outcome.{Outcome}
use Rattle.script.specs.declared.printing.Outcome.TheVariants.{Begun, Set, Answered, Unreadable}
use Rattle.script.specs.declared.reading.What.{What}
use Rattle.script.specs.declared.reading.What.TheVariants.{Put, Take, TakeList, Permit, Turn}
use Rattle.script.specs.declared.reading.ScriptLine.{ScriptLine}
use Rattle.script.specs.declared.text.Text.{Text}
use Rattle.script.proofs.Lines.{line_most}
use Rattle.script.proofs.Readings.{line_long}
use Rattle.script.proofs.Regions.{still_ready}
use Rattle.script.proofs.Texts.{Appending, append_end, append_more, append_start}

-- the frame of a readable region lies within it
pub ready_within : (f : Frame) (b : List ℕ) → Ready f b → Within f (length b)
ready_within f b h = subst (λ g. Within g (length b)) (sym h.frame) (readable_within b h.region)

-- Under the frame of a readable region the calls are those on the region.
module _ (f : Frame) (b b' : List ℕ) (h : Ready f b) (what : What) (t : ℕ) where
  made : (p : What) → what ≡ p → (r : Outcome) → r ≡ call_outcome b p t → b' ≡ call_bytes b p t → CallMade b b' what t r
  made p e r er eb =
      record {
        outcome = er ∙ ap (λ w. call_outcome b w t) (sym e);
        bytes = eb ∙ ap (λ w. call_bytes b w t) (sym e);
      }

  pub put_made : (i : Item) → what ≡ Put i → (n : Checked) → PutBegunIn f b b' t i n → (r : Outcome) → r ≡ done_or Begun n → CallMade b b' what t r
  put_made i e n p r er =
      made (Put i) e r
      (er ∙ ap (done_or Begun) (p.answer ∙ ap (λ g. put_check_in g b t i) h.frame ∙ sym (put_check_in_lem b h.region t i)))
      (p.bytes ∙ ap (λ g. put_bytes_in g b t i) h.frame ∙ sym (put_bytes_in_lem b h.region t i))

  taken : (p : Place) (n : Checked) → TakeBegunIn f b b' t p n → (r : Outcome) → r ≡ done_or Begun n
      → (r ≡ done_or Begun (take_check b t)) × (b' ≡ take_bytes b t p)
  taken p n k r er = (
    er ∙ ap (done_or Begun) (k.answer ∙ ap (λ g. take_check_in g b t) h.frame ∙ sym (take_check_in_lem b h.region t)),
    k.bytes ∙ ap (λ g. take_bytes_in g b t p) h.frame ∙ sym (take_bytes_in_lem b h.region t p),
  )

  pub take_made : what ≡ Take → (n : Checked) → TakeBegunIn f b b' t ReadRoot n → (r : Outcome) → r ≡ done_or Begun n → CallMade b b' what t r
  take_made e n k r er = let o = taken ReadRoot n k r er in made Take e r o.0 o.1

  pub list_made : what ≡ TakeList → (n : Checked) → TakeBegunIn f b b' t ListReadRoot n → (r : Outcome) → r ≡ done_or Begun n
      → CallMade b b' what t r
  list_made e n k r er = let o = taken ListReadRoot n k r er in made TakeList e r o.0 o.1

  pub permit_made : (x : ℕ) → what ≡ Permit x → (n : Checked) → PermitSetIn f b b' t x n → (r : Outcome) → r ≡ done_or Set n → CallMade b b' what t r
  permit_made x e n p r er =
      made (Permit x) e r
      (er ∙ ap (done_or Set) (p.answer ∙ ap (λ g. permit_check_in g t x) h.frame ∙ sym (permit_check_in_lem b h.region t x)))
      (p.bytes ∙ ap (λ g. permit_bytes_in g b t x) h.frame ∙ sym (permit_bytes_in_lem b h.region t x))

  pub turn_made : (c : ℕ) → what ≡ Turn c → (x : Answer) → Turned f b b' t c x → CallMade b b' what t (Answered x)
  unfolding turn_on_answer turn_on_bytes pick
  turn_made c e x p =
      made (Turn c) e (Answered x)
      (ap Answered (rw h.region (p.answer ∙ ap (λ g. turn_answer g b t c) h.frame)))
      (rw h.region (p.bytes ∙ ap (λ g. turn_bytes g b t c) h.frame))

-- The lines from a position on: none are left, one cannot be read, one is read.
module _ (s : List ℕ) (at line : ℕ) (b : List ℕ) where
  pub lines_over : (n : ℕ) → length s ≤ at → lines_from n s at line b ≡ nothing_more b
  unfolding lines_from pick
  lines_over zero h = refl
  lines_over (suc n) h = rw (le-ltb at (length s) h) refl

  module _ (n : ℕ) (h : at < length s) where
    pub lines_unreadable : read_line s at ≡ None → lines_from (suc n) s at line b ≡ after (line_text line 0 Unreadable) (nothing_more b)
    unfolding lines_from pick
    lines_unreadable e = rw (lt-ltb at (length s) h, e) refl

    pub lines_read : (l : ScriptLine) → read_line s at ≡ Some l
        → lines_from (suc n) s at line b
        ≡ after (line_text line l.thread (call_outcome b l.what l.thread))
        (lines_from n s l.next (suc line) (call_bytes b l.what l.thread))
    unfolding lines_from pick
    lines_read l e = rw (lt-ltb at (length s) h, e) refl

-- The loop: the lines that are left give the whole. Of at most as many lines as there are bytes, those before line n are done.
pub whole : List ℕ → ℕ → List ℕ → Ran
whole s start b = lines_from (length s) s start 1 b

pub rest : List ℕ → ℕ → ℕ → List ℕ → Ran
rest s at line b = lines_from (suc (length s) - line) s at line b

pub record Running (f : Frame) (s : List ℕ) (start : ℕ) (b₀ : List ℕ) (t₀ : Text) (b : List ℕ) (t : Text) (at line : ℕ) : Type 0 where
  pub short : length s ≤ 60000
  pub ready : Ready f b
  pub room : t₀.len + 330055 ≤ length t₀.out.now
  pub same_region : length b ≡ length b₀
  pub first : 1 ≤ line
  pub counted : 10 * line ≤ at + 10
  pub used : t.len + 55 ≤ t₀.len + 55 * line
  pub appending : Appending t₀ (whole s start b₀).printed t (rest s at line b).printed
  pub region : (rest s at line b).region ≡ (whole s start b₀).region

pub run_start : (f : Frame) (s : List ℕ) (start : ℕ) (b : List ℕ) (t : Text) → LinesReady f s b t → Running f s start b t b t start 1
unfolding whole rest
run_start f s start b t h =
    let e : suc (length s) - 1 ≡ length s = omega arith in
    record {
      short = h.short;
      ready = h.ready;
      room = h.room;
      same_region = refl;
      first = omega arith;
      counted = omega arith;
      used = omega arith;
      appending =
          subst
          (λ n. Appending t (lines_from (length s) s start 1 b).printed t (lines_from n s start 1 b).printed)
          (sym e)
          (append_start t (lines_from (length s) s start 1 b).printed (omega (arith, h.room)));
      region = ap (λ n. (lines_from n s start 1 b).region) e;
    }

module _ {f : Frame} {s : List ℕ} {start : ℕ} {b₀ : List ℕ} {t₀ : Text} {b : List ℕ} {t : Text} {at line : ℕ}
    (e : Running f s start b₀ t₀ b t at line) where
  -- nothing is left
  run_over : rest s at line b ≡ nothing_more b → LinesRan s start b₀ b t₀ t
  unfolding whole
  run_over er =
      record {
        output = append_end e.appending (ap (λ r. r.printed) er);
        region = ap (λ r. r.region) (sym er) ∙ e.region;
      }

  pub run_end : length s ≤ at → LinesRan s start b₀ b t₀ t
  unfolding rest
  run_end h = run_over (lines_over s at line b (suc (length s) - line) h)

  module _ (h : at < length s) where
    pub line_room : t.len + 55 ≤ length t.out.now
    line_room = omega (arith, e.used, e.counted, e.short, e.room, e.appending.printing.same)

    pub line_fits : Fits w32 (line + 1)
    line_fits = record { fits = omega (arith, e.counted, e.short) }

    one_less : suc (length s) - line ≡ suc (suc (length s) - (line + 1))
    one_less = omega (arith, e.counted)

    module _ (r : Option ScriptLine) (er : r ≡ read_line s at) where
      pub run_unreadable : r ≡ None → {t' : Text} → Appends t t' (line_text line 0 Unreadable) → LinesRan s start b₀ b t₀ t'
      unfolding whole rest
      run_unreadable g {t'} w =
          let l : rest s at line b ≡ after (line_text line 0 Unreadable) (nothing_more b) =
          ap (λ n. lines_from n s at line b) one_less ∙ lines_unreadable s at line b (suc (length s) - (line + 1)) h (sym er ∙ g) in
          record {
            output = append_end (append_more e.appending (line_text line 0 Unreadable) [] (ap (λ r. r.printed) l) w) refl;
            region = ap (λ r. r.region) (sym l) ∙ e.region;
          }

      module _ (l : ScriptLine) (g : r ≡ Some l) where
        line_next : at + 10 ≤ l.next
        line_next = line_long s at l (sym er ∙ g)

        pub run_less : length s - l.next < length s - at
        run_less = omega (arith, line_next)

        pub run_more : {b' : List ℕ} (o : Outcome) → CallMade b b' l.what l.thread o → length b' ≡ length b → {t' : Text}
            → Appends t t' (line_text line l.thread o) → Running f s start b₀ t₀ b' t' l.next (line + 1)
        unfolding rest
        run_more {b'} o m z {t'} w =
            let text : List ℕ = line_text line l.thread o in
            let more : ℕ = suc (length s) - (line + 1) in
            let left : rest s at line b ≡ after text (rest s l.next (line + 1) b') =
            ap (λ n. lines_from n s at line b) one_less
            ∙ lines_read s at line b more h l (sym er ∙ g)
            ∙ ap (λ x. after (line_text line l.thread x) (lines_from more s l.next (suc line) (call_bytes b l.what l.thread)))
            (sym m.outcome)
            ∙ ap (λ x. after text (lines_from more s l.next (suc line) x)) (sym m.bytes)
            ∙ ap (λ n. after text (lines_from more s l.next n b')) (sym (add-one line)) in
            record {
              short = e.short;
              ready = still_ready f b b' e.ready l.what l.thread o m;
              room = e.room;
              same_region = z ∙ e.same_region;
              first = omega arith;
              counted = omega (arith, e.counted, line_next);
              used = omega (arith, e.used, line_most line l.thread o, w.wrote.next);
              appending = append_more e.appending text (rest s l.next (line + 1) b').printed (ap (λ r. r.printed) left) w;
              region = ap (λ r. r.region) (sym left) ∙ e.region;
            }
