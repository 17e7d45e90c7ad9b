-- `region::theorems::other_records_stay`: a store changes the words of its record alone. Assumes nothing.
use Rattle.words.specs.Inner.{Fit}
use Rattle.region.proofs.Views.{codec, stored_apart}
use Rattle.region.proofs.theorems.other_records_stay.Goals as goal

pub returns : goal.returns
returns g c p b m n r room apart =
    let k = g.R.Record in
    let laws = g.met.R.Record in
    stored_apart (codec k.of_words k.to_words (λ v. Fit (k.to_words v)) k.WORDS laws.length_words (λ v f. f) (λ v f. laws.words_back v))
    k.none p room b m n r apart
