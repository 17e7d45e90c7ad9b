-- Lines written one behind the other. Assumes nothing.
use Prim.Native.Nat.{ℕ, ◌+◌, ◌-◌, ◌≤◌, ◌<◌}
use native.Mathlib.Numerals.{add-one}
use native.Mathlib.Omega.{arith}
use mathlib.Core.Path.{◌≡◌, sym, ap, ◌∙◌}
use mathlib.Core.List.{List, ◌++◌}
use lib.ListN.{length, get_or, take, drop, length-append, drop_of_length-le}
use lib.Seq.{drop-cons}
use Rattle.script.specs.Inner.{Appends}
use Rattle.script.specs.declared.text.Text.{Text}
use Rattle.script.proofs.Texts.{Appending, append_end, append_more, append_start}
use Rattle.cut.specs.Whole.{texts}
use Rattle.cut.specs.Inner.{WriteRoom, entries_in, entry_in, no_line}
use Rattle.cut.specs.declared.lines.Line.{Line}
use Rattle.cut.proofs.LinesTrying.{part_is}

-- What is left of the lines, from here, gives the whole.
pub record Writing (t₀ : Text) (s : List ℕ) (ls : List Line) (t : Text) (k : ℕ) : Type 0 where
  pub able : WriteRoom t₀ s ls
  pub appending : Appending t₀ (texts (entries_in s ls)) t (texts (entries_in s (drop k ls)))

pub write_start : (t : Text) (s : List ℕ) (ls : List Line) → WriteRoom t s ls → Writing t s ls t 0
write_start t s ls h = record { able = h; appending = append_start t (texts (entries_in s ls)) (omega (arith, h.room)) }

module _ {t₀ : Text} {s : List ℕ} {ls : List Line} {t : Text} {k : ℕ} (e : Writing t₀ s ls t k) where
  pub write_end : length ls ≤ k → Appends t₀ t (texts (entries_in s ls))
  unfolding texts
  write_end h = append_end e.appending (ap (λ x. texts (entries_in s x)) (drop_of_length-le ls h))

  module _ (h : k < length ls) where
    abbrev line : Line
    line = get_or ls k no_line

    first_text : texts (entries_in s (drop k ls)) ≡ (entry_in s line).text ++ texts (entries_in s (drop (k + 1) ls))
    unfolding texts
    first_text =
        ap (λ x. texts (entries_in s x)) (drop-cons ls k no_line h)
        ∙ ap (λ j. (entry_in s line).text ++ texts (entries_in s (drop j ls))) (sym (add-one k))

    text_is : take (line.end - line.start) (drop line.start s) ≡ (entry_in s line).text
    text_is = part_is line.start line.end s

    pub text_room : t.len + length (take ((get_or ls k no_line).end - (get_or ls k no_line).start) (drop (get_or ls k no_line).start s))
        ≤ length t.out.now
    text_room =
        omega (
          arith,
          e.appending.printing.count,
          e.appending.printing.same,
          e.able.room,
          ap length first_text,
          length-append (entry_in s line).text (texts (entries_in s (drop (k + 1) ls))),
          ap length text_is,
        )

    pub write_more : {t' : Text}
        → Appends t t' (take ((get_or ls k no_line).end - (get_or ls k no_line).start) (drop (get_or ls k no_line).start s))
        → Writing t₀ s ls t' (k + 1)
    write_more w =
        record {
          able = e.able;
          appending =
              append_more e.appending (take (line.end - line.start) (drop line.start s)) (texts (entries_in s (drop (k + 1) ls)))
              (first_text ∙ ap (λ x. x ++ texts (entries_in s (drop (k + 1) ls))) (sym text_is)) w;
        }
