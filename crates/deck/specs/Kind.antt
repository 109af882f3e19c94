-- The kinds of a deck's records, by their bytes.
use Rattle.std.specs.Prelude.{ℕ, ◌≡◌, ◌<◌, Result, MatchResult}
use Rattle.deck.specs.declared.kind.Kind.{Kind}
use Rattle.deck.specs.declared.kind.Kind.TheVariants.{Head, Transcript, Bounds, Exon, Segment, Selenocysteine}
use Rattle.deck.specs.declared.kind.UnknownKind.{UnknownKind}

abbrev pub kind_number : Kind → ℕ
kind_number Head = 0
kind_number Transcript = 1
kind_number Bounds = 2
kind_number Exon = 3
kind_number Segment = 4
kind_number Selenocysteine = 5

-- the kind that a byte names, if it names one
abbrev pub Named : ℕ → Result Kind UnknownKind → Type 0
Named byte r = MatchResult r (λ kind. byte ≡ kind_number kind) (λ e. 5 < byte)
