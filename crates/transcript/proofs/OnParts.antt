-- A law about a transcript's parts, at those of a struct that lends them.
use Prim.Native.Nat.{ℕ}
use mathlib.Core.List.{List}
use Rattle.transcript.specs.declared.TranscriptModel.{TranscriptModel}
use Rattle.transcript.specs.declared.Transcript.{Transcript as Lent}

abbrev pub on : (t : Lent) → {P : TranscriptModel → List ℕ → List ℕ → List ℕ → List ℕ → List ℕ → List ℕ → List ℕ → Type 0}
    → ((m : TranscriptModel) (ss es ps is gs ge bs : List ℕ) → P m ss es ps is gs ge bs)
    → P t.model t.exons.starts.now t.exons.ends.now t.segments.phases.now t.segments.exon_indexes.now t.segments.bases.starts.now t.segments.bases.ends.now t.selenocysteine.now
on t f = f t.model t.exons.starts.now t.exons.ends.now t.segments.phases.now t.segments.exon_indexes.now t.segments.bases.starts.now t.segments.bases.ends.now t.selenocysteine.now
