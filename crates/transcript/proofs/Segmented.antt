-- Transcripts with nothing at fault in 8 to 12: those without a CDS, and those whose segments span it and are its cuts.
use mathlib.Core.Path.{◌≡◌, sym, ◌∙◌, ap}
use mathlib.Core.Bool.{true, false}
use native.Mathlib.Omega.{arith}
use lib.ListN.{length}
use lib.Dec.{ltb}
use borrow.Author.Tests.{ltb-true, ltb-false, lt-ltb, not-false}
use Rattle.std.specs.Prelude.{Option, Some, None}
use Rattle.std.proofs.lemmas.List.{nil_from_length}
use Rattle.common.proofs.TestParts.{refuse_none, or_false}
use Rattle.transcript.specs.declared.Transcript.{Transcript as Lent}
use Rattle.transcript.specs.declared.CdsBounds.{CdsBounds}
use Rattle.transcript.specs.Orient.{orient}
use Rattle.transcript.specs.Admission.{bad_cds_bounds, not_outer, index_fault}
use Rattle.transcript.specs.Cuts.{cuts, same_cuts}
use Rattle.transcript.specs.code.Lent.{oriented_in, cuts_in}
use Rattle.transcript.specs.code.Judged.{IsCounted, IsBounded, frame_fault, segments_fault}
use Rattle.transcript.proofs.Listed.{oriented_length}
use Rattle.transcript.proofs.Whole.{whole_indexes, whole_cds}

module _ (t : Lent) (known : IsCounted t) (framed : frame_fault t ≡ 0) where
  bounds_fit : (o : Option CdsBounds) → t.model.cds ≡ o → bad_cds_bounds o (ltb 0 (length t.segments.bases.starts.now)) ≡ false
  bounds_fit o e = ap (λ (o : Option CdsBounds). bad_cds_bounds o (ltb 0 (length t.segments.bases.starts.now))) (sym e) ∙ (refuse_none _ 5 _ (omega arith) framed).0

  pub none_segmented : t.model.cds ≡ None → 0 ≡ segments_fault t
  unfolding index_fault
  none_segmented e =
      let b = bounds_fit None e in
      let n = ltb-false 0 (length t.segments.bases.starts.now) b in
      let i = known.even_indexes in
      rw (nil_from_length t.segments.exon_indexes.now (omega arith), b)

  module _ (bounded : IsBounded t) (cds : CdsBounds) (e : t.model.cds ≡ Some cds) where
    pub some_segmented : not_outer (orient t.model.strand cds.cds_genomic_start cds.cds_genomic_end) (oriented_in t.model.strand t.segments.bases) ≡ false
        → same_cuts (cuts_in t.model.strand t.segments) (cuts (orient t.model.strand cds.cds_genomic_start cds.cds_genomic_end) 0 (oriented_in t.model.strand t.exons)) ≡ true
        → 0 ≡ segments_fault t
    some_segmented o s =
        let σ = t.model.strand in let g = t.segments in
        let some = ltb-true 0 (length g.bases.starts.now) (not-false _ (or_false _ _ (bounds_fit (Some cds) e)).0) in
        let n = oriented_length σ t.exons.starts.now t.exons.ends.now known.even in
        let i = whole_indexes σ (orient σ cds.cds_genomic_start cds.cds_genomic_end) (oriented_in σ t.exons) g.exon_indexes.now g.bases.starts.now g.bases.ends.now
        known.even_indexes known.even_ends some bounded.segment_edges o s in
        let f = whole_cds σ (orient σ cds.cds_genomic_start cds.cds_genomic_end) (oriented_in σ t.exons) g.exon_indexes.now g.bases.starts.now g.bases.ends.now
        known.even_indexes known.even_ends some bounded.segment_edges o s in
        rw (sym n, i, lt-ltb 0 (length g.bases.starts.now) some, e, f)
