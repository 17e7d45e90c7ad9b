-- `readable::thread_of_width_readable` meets its contract: the first test that fails decides. Assumes nothing.
use mathlib.Core.Path.{ap, ◌∙◌}
use Rattle.readable.specs.Readable.{bounded}
use Rattle.readable.proofs.Loops.{copies_bad, fields_bad, thread_rest, tries_bad}
use Rattle.readable.proofs.thread_of_width_readable.Goals as goal

pub returns-then-not-words_bounded : goal.returns-then-not-words_bounded
returns-then-not-words_bounded g c =
    let a = c.args in
    fields_bad g.row.WIDTH a.shape a.b.now a.at _ (c.words_bounded.ensures ∙ ap (bounded a.b.now a.at) c.field_maxima.ensures)
    c.if-not-words_bounded.true

pub returns-then-not-copies_readable : goal.returns-then-not-copies_readable
returns-then-not-copies_readable g c =
    let a = c.args in
    copies_bad g.row.WIDTH a.shape a.b.now a.at _ (c.words_bounded.ensures ∙ ap (bounded a.b.now a.at) c.field_maxima.ensures)
    c.if-not-words_bounded.false _ c.copies_readable.ensures c.if-not-copies_readable.true

pub returns-then-greatest_tries-load_word : goal.returns-then-greatest_tries-load_word
returns-then-greatest_tries-load_word g c =
    let a = c.args in
    tries_bad g.row.WIDTH a.shape a.b.now a.at _ (c.words_bounded.ensures ∙ ap (bounded a.b.now a.at) c.field_maxima.ensures)
    c.if-not-words_bounded.false _ c.copies_readable.ensures c.if-not-copies_readable.false _ c.load_word-place.ensures _
    c.greatest_tries.ensures _ c.load_word.ensures c.if-greatest_tries-load_word.true

pub returns : goal.returns
returns g c =
    let a = c.args in
    thread_rest g.row.WIDTH a.shape a.b.now a.at _ (c.words_bounded.ensures ∙ ap (bounded a.b.now a.at) c.field_maxima.ensures)
    c.if-not-words_bounded.false _ c.copies_readable.ensures c.if-not-copies_readable.false _ c.load_word-place.ensures _
    c.greatest_tries.ensures _ c.load_word.ensures c.if-greatest_tries-load_word.false _ c.load_word-2.ensures _
    c.load_word-3.ensures _ c.greatest_waiting.ensures
