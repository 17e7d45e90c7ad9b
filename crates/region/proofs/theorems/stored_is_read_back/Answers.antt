-- `region::theorems::stored_is_read_back`: a record of some words is read back from them. Assumes nothing.
use Rattle.words.specs.Inner.{Fit}
use Rattle.region.proofs.Views.{codec, stored_back}
use Rattle.region.proofs.theorems.stored_is_read_back.Goals as goal

pub returns : goal.returns
returns g c p b n r room ends least most fit =
    let k = g.R.Record in
    let laws = g.met.R.Record in
    stored_back (codec k.of_words k.to_words (λ v. Fit (k.to_words v)) k.WORDS laws.length_words (λ v f. f) (λ v f. laws.words_back v))
    k.none p room b n r least most ends fit
