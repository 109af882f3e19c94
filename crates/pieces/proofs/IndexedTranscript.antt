-- The index of a transcript whose lists are lent apart, from what is computed of the lists.
-- Assumes nothing.
use Prim.Native.Nat.{ℕ, ◌<◌}
use mathlib.Core.Path.{◌≡◌, sym, ◌∙◌, ap}
use mathlib.Core.Bool.{Bool}
use mathlib.Core.List.{List, map}
use native.Mathlib.Omega.{arith}
use lib.ListN.{length}
use borrow.Author.Tests.{lt-ltb, le-ltb}
use Rattle.common.specs.Lists.{any}
use Rattle.common.specs.Stored.{stored}
use Rattle.transcript.specs.declared.TranscriptModel.{TranscriptModel}
use Rattle.transcript.specs.Transcript.{Transcript, exons_of, lent}
use Rattle.transcript.specs.Orient.{Interval}
use Rattle.transcript.specs.Bases.{gaps}
use Rattle.transcript.specs.Admission.{admission}
use Rattle.transcript.specs.code.Lent.{exon_size, pad_of_phases, lent_exons}
use Rattle.footprint.specs.ShortIntron.{is_frameshift_gap}
use Rattle.locate.specs.Index.{cumulative}
use Rattle.locate.proofs.LentTranscript.{exons_are, coding_is, pad_is}
use Rattle.locate.proofs.LentIndex.{exon_sizes, segment_sizes}
use Rattle.pieces.specs.code.TableIndex.{is_short, row_sums}

module _ (m : TranscriptModel) (ss es ps is gs ge bs : List ℕ) (h : admission (lent m ss es ps is gs ge bs) ≡ 0) where
  abbrev t : Transcript
  t = lent m ss es ps is gs ge bs

  short_is : {s : Bool} → s ≡ any is_frameshift_gap (gaps (lent_exons m.strand ss es)) → s ≡ is_short t
  short_is e = e ∙ sym (ap (λ (xs : List Interval). any is_frameshift_gap (gaps xs)) (exons_are m ss es ps is gs ge bs h))

  module _ (row c : ℕ) (l : List ℕ) (s : Bool) (mid : List ℕ) (es' : s ≡ any is_frameshift_gap (gaps (lent_exons m.strand ss es))) (em : mid ≡ stored l row (cumulative 0 (map exon_size (exons_of ss es)))) where
    pub row_alone : length gs ≡ 0 → (s ≡ is_short t) × (mid ≡ row_sums t row c l)
    row_alone z =
        let f = sym (coding_is m ss es ps is gs ge bs h) ∙ le-ltb 0 (length gs) (omega arith) in
        (short_is es', em ∙ rw (f, exon_sizes m ss es ps is gs ge bs h))

    pub row_coding : (pad : ℕ) (after : List ℕ) → pad ≡ pad_of_phases ps → after ≡ stored mid c (cumulative pad (map exon_size (exons_of gs ge))) → 0 < length gs
        → (s ≡ is_short t) × (after ≡ row_sums t row c l)
    row_coding pad after ep ea g =
        let f = sym (coding_is m ss es ps is gs ge bs h) ∙ lt-ltb 0 (length gs) g in
        let p = ep ∙ sym (pad_is m ss es ps is gs ge bs h) in
        (short_is es', ea ∙ rw (f, em, p, exon_sizes m ss es ps is gs ge bs h, segment_sizes m ss es ps is gs ge bs h))
