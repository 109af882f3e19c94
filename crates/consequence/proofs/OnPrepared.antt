-- A law about a prepared transcript's parts, at those of a struct that lends them.
use Prim.Native.Nat.{ℕ}
use mathlib.Core.List.{List}
use Rattle.transcript.specs.declared.TranscriptModel.{TranscriptModel}
use Rattle.transcript.specs.declared.Transcript.{Transcript as Lent}
use Rattle.transcript.specs.Transcript.{lent, transcript_of}
use Rattle.locate.specs.declared.IndexScalars.{IndexScalars}
use Rattle.consequence.specs.code.Prepared.{Prepared}

abbrev pub on_prepared : (t : Lent) (x : IndexScalars) (xs ys cs : List ℕ) (h : Prepared (transcript_of t) x xs ys cs)
    → {P : (m : TranscriptModel) (ss es ps is gs ge bs : List ℕ) (x : IndexScalars) (xs ys cs : List ℕ) → Prepared (lent m ss es ps is gs ge bs) x xs ys cs → Type 0}
    → ((m : TranscriptModel) (ss es ps is gs ge bs : List ℕ) (x : IndexScalars) (xs ys cs : List ℕ) (h : Prepared (lent m ss es ps is gs ge bs) x xs ys cs) → P m ss es ps is gs ge bs x xs ys cs h)
    → P t.model t.exons.starts.now t.exons.ends.now t.segments.phases.now t.segments.exon_indexes.now t.segments.bases.starts.now t.segments.bases.ends.now t.selenocysteine.now x xs ys cs h
on_prepared t x xs ys cs h f =
    f t.model t.exons.starts.now t.exons.ends.now t.segments.phases.now t.segments.exon_indexes.now t.segments.bases.starts.now t.segments.bases.ends.now t.selenocysteine.now x xs ys cs h
