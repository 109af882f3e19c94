-- An admitted transcript with its index: what each search and each answer at a place needs.
-- Assumes nothing.
use Prim.Native.Nat.{ℕ}
use mathlib.Core.Path.{◌≡◌, ap}
use mathlib.Core.List.{List}
use Rattle.transcript.specs.declared.TranscriptModel.{TranscriptModel}
use Rattle.transcript.specs.Transcript.{lent, transcript_of}
use Rattle.transcript.specs.Orient.{oriented}
use Rattle.locate.specs.declared.IndexScalars.{IndexScalars}
use Rattle.locate.specs.declared.LocateIndex.{LocateIndex}
use Rattle.locate.specs.Index.{index_scalars}
use Rattle.locate.specs.code.Sums.{ExonSums}
use Rattle.locate.proofs.LentTranscript.{pad_2}
use Rattle.locate.proofs.Offset.{index_exons, index_cds}
use Rattle.consequence.specs.code.Prepared.{Prepared}
use Rattle.consequence.proofs.OnPrepared.{on_prepared}
use Rattle.answers.specs.declared.lent.Indexed.{Indexed}

module _ (x : Indexed) where
  pub exons_indexed : (x.index.now.scalars ≡ index_scalars (oriented (transcript_of x.admitted.transcript.now))) × ExonSums (oriented (transcript_of x.admitted.transcript.now)) x.index.now.cumulative_exons
  exons_indexed =
      let i = x.indexed in
      (ap (λ (y : LocateIndex). y.scalars) i, rw (ap (λ (y : LocateIndex). y.cumulative_exons) i) (index_exons (oriented (transcript_of x.admitted.transcript.now))))

  pub prepared : Prepared (transcript_of x.admitted.transcript.now) x.index.now.scalars x.index.now.cumulative_exons x.index.now.cumulative_cds x.index.now.selenocysteine_codons
  prepared =
      let t = x.admitted.transcript.now in
      let pad = pad_2 t.model t.exons.starts.now t.exons.ends.now t.segments.phases.now t.segments.exon_indexes.now t.segments.bases.starts.now t.segments.bases.ends.now t.selenocysteine.now x.admitted.admitted in
      record {
        admitted = x.admitted.admitted;
        scalars_are = exons_indexed.0;
        exons_are = exons_indexed.1;
        segments_are = rw (ap (λ (y : LocateIndex). y.cumulative_cds) x.indexed) (index_cds (oriented (transcript_of t)) pad);
        codons_are = ap (λ (y : LocateIndex). y.selenocysteine_codons) x.indexed;
      }

-- a law about a prepared transcript's parts, at those of the transcript and its index
abbrev pub on_indexed : (x : Indexed)
    → {P : (m : TranscriptModel) (ss es ps is gs ge bs : List ℕ) (x : IndexScalars) (xs ys cs : List ℕ) → Prepared (lent m ss es ps is gs ge bs) x xs ys cs → Type 0}
    → ((m : TranscriptModel) (ss es ps is gs ge bs : List ℕ) (x : IndexScalars) (xs ys cs : List ℕ) (h : Prepared (lent m ss es ps is gs ge bs) x xs ys cs) → P m ss es ps is gs ge bs x xs ys cs h)
    → P x.admitted.transcript.now.model x.admitted.transcript.now.exons.starts.now x.admitted.transcript.now.exons.ends.now x.admitted.transcript.now.segments.phases.now x.admitted.transcript.now.segments.exon_indexes.now x.admitted.transcript.now.segments.bases.starts.now x.admitted.transcript.now.segments.bases.ends.now x.admitted.transcript.now.selenocysteine.now x.index.now.scalars x.index.now.cumulative_exons x.index.now.cumulative_cds x.index.now.selenocysteine_codons (prepared x)
on_indexed x f = on_prepared x.admitted.transcript.now x.index.now.scalars x.index.now.cumulative_exons x.index.now.cumulative_cds x.index.now.selenocysteine_codons (prepared x) f
