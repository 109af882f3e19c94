-- What is claimed of a transcript that a deck gives in lent lists.
use Rattle.std.specs.Prelude.{ℕ, ◌≤◌, ◌≡◌, List, [], ◌∷◌, length}
use Rattle.transcript.specs.Transcript.{Transcript, lent}
use Rattle.contents.specs.Contents.{held, exon_starts, exon_ends, segment_phases, segment_exons, segment_starts, segment_ends, bases_of}

abbrev pub Each : (Transcript → Type 0) → List Transcript → Type 0
Each P [] = Unit {0}
Each P (t ∷ ts) = P t × Each P ts

-- its lists fit into those that are lent
abbrev pub Fits : Transcript → Type 0
Fits t = (length (exon_starts t) ≤ 512) × (length (segment_starts t) ≤ 512) × (length (bases_of t) ≤ 64)

abbrev pub ListsFit : Type 0
ListsFit = (d : List ℕ) → Each Fits (held d)

-- and a question that they are lent to is asked of that transcript
abbrev pub LentAgain : Type 0
LentAgain = (t : Transcript)
    → lent t.model (exon_starts t) (exon_ends t) (segment_phases t) (segment_exons t) (segment_starts t) (segment_ends t) (bases_of t) ≡ t
