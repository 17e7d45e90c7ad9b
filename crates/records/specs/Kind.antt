-- The numbers of the kinds.
use Rattle.std.specs.Prelude.{ℕ, ◌<◌, ◌≡◌, ◌⊎◌, Result, MatchResult}
use Rattle.records.specs.declared.kind.Kind.{Kind}
use Rattle.records.specs.declared.kind.Kind.TheVariants.{Put, Take, Empty}
use Rattle.records.specs.declared.kind.NoKind.{NoKind}

-- "Kinds are put 1, take 2 and empty 3"
abbrev pub number_of : Kind → ℕ
number_of Put = 1
number_of Take = 2
number_of Empty = 3

-- the result is the kind with this number, or no kind has it
abbrev pub Decodes : ℕ → Result Kind NoKind → Type 0
Decodes n r = MatchResult r (λ kind. number_of kind ≡ n) (λ e. (n ≡ 0) ⊎ (3 < n))
