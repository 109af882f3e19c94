-- An admitted transcript has the facts of each row.
-- Assumes nothing.
use Prim.Native.Nat.{ℕ, ◌-◌, ◌≤◌, ◌<◌}
use mathlib.Core.Path.{◌≡◌, refl, sym, ◌∙◌, ap}
use mathlib.Core.Bool.{Bool, true, false, not}
use mathlib.Core.List.{List, [], ◌∷◌, map}
use native.Mathlib.Omega.{arith}
use lib.Dec.{leb, ltb, eqb}
use borrow.Author.Tests.{ltb-true, ltb-false, leb-true, eqb-true, not-false}
use Rattle.common.specs.Lists.{any}
use Rattle.common.proofs.TestParts.{and_true, or_false, and_not_false, not_and_false, on_test, true_false}
use Rattle.common.proofs.Lists.{any_none}
use Rattle.transcript.specs.declared.Strand.{Strand}
use Rattle.transcript.specs.declared.Exon.{Exon}
use Rattle.transcript.specs.declared.CdsSegment.{CdsSegment}
use Rattle.std.specs.Prelude.{Option, Some, None}
use Rattle.transcript.specs.declared.CdsBounds.{CdsBounds}
use Rattle.transcript.specs.Limits.{top, coordinate_limit}
use Rattle.transcript.specs.Transcript.{Transcript, cds_start, cds_end, has_bounds, is_empty}
use Rattle.transcript.specs.Orient.{Interval, orient, orient_exon, orient_segment, oriented}
use Rattle.transcript.specs.Bases.{inside_any, first_start, end_after, last_end}
use Rattle.transcript.specs.Admission.{bad_exon, ascending, bad_cds, bad_cds_bounds, bad_segments, Admitted}
use Rattle.transcript.specs.Cuts.{cut_of, cuts, same_cuts}
use Rattle.transcript.proofs.Orient.{orient_some, orient_high, bounds_some, bounds_high, bounds_none}
use Rattle.transcript.proofs.Ascends.{Ascends}
use Rattle.transcript.proofs.Cuts.{cut_bases, same_cuts_lem, cuts_none}
use Rattle.transcript.proofs.Facts.{Facts}
use Rattle.transcript.proofs.AdmissionRows.{rows, counts, coordinates}

-- exons with good edges, whose starts ascend
pub ascending_exons : (σ : Strand) (e : ℕ) (xs : List Exon) → any bad_exon xs ≡ false → ascending e (map (orient_exon σ) xs) ≡ true → Ascends e (map (orient_exon σ) xs)
unfolding ascending
ascending_exons σ e [] h a = tt
ascending_exons σ e (x ∷ xs) h a =
    let n = any_none bad_exon x xs h in
    let g = or_false (not (ltb x.genomic_start x.genomic_end)) (ltb coordinate_limit x.genomic_end) n.0 in
    let b = and_true (leb e (orient_exon σ x).start) (ascending (orient_exon σ x).end (map (orient_exon σ) xs)) a in (
      leb-true e (orient_exon σ x).start b.0,
      orient_some σ x.genomic_start x.genomic_end (ltb-false coordinate_limit x.genomic_end g.1)
          (ltb-true x.genomic_start x.genomic_end (not-false (ltb x.genomic_start x.genomic_end) g.0)),
      ascending_exons σ (orient_exon σ x).end xs n.1 b.1,
    )

pub exons_high : (σ : Strand) (e : ℕ) (xs : List Exon) → any bad_exon xs ≡ false → e ≤ top → end_after e (map (orient_exon σ) xs) ≤ top
unfolding end_after
exons_high σ e [] h l = l
exons_high σ e (x ∷ xs) h l =
    let n = any_none bad_exon x xs h in
    let g = or_false (not (ltb x.genomic_start x.genomic_end)) (ltb coordinate_limit x.genomic_end) n.0 in
    exons_high σ (orient_exon σ x).end xs n.1 (orient_high σ x.genomic_start x.genomic_end (ltb-false coordinate_limit x.genomic_end g.1))

-- bounds are there where segments are, and then the start is below the end
pub cds_bounds : (b : Option CdsBounds) (segments : Bool) → bad_cds_bounds b segments ≡ false → (has_bounds b ≡ segments) × (segments ≡ true → cds_start b < cds_end b)
cds_bounds None segments h = (sym h, λ e. absurd (true_false (sym e ∙ h)))
cds_bounds (Some b) segments h =
    let a = or_false (not segments) (not (ltb b.cds_genomic_start b.cds_genomic_end)) h in
    (sym (not-false segments a.0), λ k. ltb-true b.cds_genomic_start b.cds_genomic_end (not-false (ltb b.cds_genomic_start b.cds_genomic_end) a.1))

-- without a CDS there are no segments and no cuts
pub empty_list : {A : Type 0} (xs : List A) → not (is_empty xs) ≡ false → xs ≡ []
empty_list [] h = refl
empty_list (x ∷ xs) h = absurd (true_false h)

cut_all : (t : Transcript) → bad_cds t ≡ false → bad_segments t (oriented t) ≡ false → map (cut_of t.model.strand) t.segments ≡ cuts (oriented t).cds 0 (oriented t).exons
unfolding oriented
cut_all t b h =
    on_test (oriented t).coding
    (λ c. same_cuts_lem (map (cut_of t.model.strand) t.segments) (cuts (oriented t).cds 0 (oriented t).exons)
    (and_not_false (oriented t).coding (same_cuts (map (cut_of t.model.strand) t.segments) (cuts (oriented t).cds 0 (oriented t).exons)) h c))
    (λ c. ap (map (cut_of t.model.strand)) (empty_list t.segments c)
    ∙ sym (cuts_none (oriented t).cds 0 (oriented t).exons (bounds_none t.model.strand t.model.cds ((cds_bounds t.model.cds (oriented t).coding b).0 ∙ c))))

-- the bases of the segments' cuts are the oriented segments
cut_segments : (σ : Strand) (gs : List CdsSegment) → map cut_bases (map (cut_of σ) gs) ≡ map (orient_segment σ) gs
cut_segments σ [] = refl
cut_segments σ (g ∷ gs) = ap (λ (l : List Interval). orient_segment σ g ∷ l) (cut_segments σ gs)

pub facts : (t : Transcript) → Admitted t → Facts t
unfolding oriented
facts t h =
    let r = rows t h in
    let n = counts t r.row_1 in
    let c = coordinates t r.row_2 in
    let b = or_false (not (eqb (orient t.model.strand t.model.tx_start t.model.tx_end).start (first_start (oriented t).exons))) (not (eqb (orient t.model.strand t.model.tx_start t.model.tx_end).end (last_end (oriented t).exons))) r.row_4 in
    let d = cds_bounds t.model.cds (oriented t).coding r.row_5 in
    let k = cut_all t r.row_5 r.row_12 in
    record {
      some = n.0;
      few = n.1;
      counted = n.2;
      few_segments = n.3;
      few_bases = n.4;
      exon_edges = c.0;
      segment_edges = c.1;
      tx_start_low = c.2;
      tx_end_low = c.3;
      cds_start_low = c.4;
      cds_end_low = c.5;
      bases_low = c.6;
      chromosome_from = c.7;
      chromosome_to = c.8;
      order = ascending_exons t.model.strand 0 t.exons c.0 (not-false (ascending 0 (oriented t).exons) r.row_3);
      high = exons_high t.model.strand 0 t.exons c.0 (omega arith);
      begins = eqb-true _ _ (not-false (eqb (orient t.model.strand t.model.tx_start t.model.tx_end).start (first_start (oriented t).exons)) b.0);
      finishes = eqb-true _ _ (not-false (eqb (orient t.model.strand t.model.tx_start t.model.tx_end).end (last_end (oriented t).exons)) b.1);
      bounds = d.0;
      cds_some = λ e. bounds_some t.model.strand t.model.cds c.5 (d.1 e);
      cds_high = bounds_high t.model.strand t.model.cds c.5;
      phases = r.row_6;
      pad_none = λ e. eqb-true (oriented t).pad 0 (not_and_false (eqb (oriented t).pad 0) (oriented t).start_complete r.row_7 e);
      indexes = r.row_8;
      first_in = λ e. and_not_false (oriented t).coding (inside_any (oriented t).cds.start (oriented t).exons) r.row_10 e;
      last_in = λ e. and_not_false (oriented t).coding (inside_any ((oriented t).cds.end - 1) (oriented t).exons) r.row_11 e;
      cut = k;
      segments = sym (cut_segments t.model.strand t.segments) ∙ ap (map cut_bases) k;
      selenocysteine_in = r.row_13;
    }
