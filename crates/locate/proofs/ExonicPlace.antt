-- The place of an exon base from the counts of the index is the place of the definition.
-- Assumes nothing.
use Prim.Native.Nat.{ℕ, ◌+◌, ◌-◌, ◌≤◌, ◌<◌}
use mathlib.Core.Path.{◌≡◌, sym, ap}
use mathlib.Core.Bool.{Bool, true, cond}
use native.Mathlib.Omega.{arith}
use lib.ListN.{length, get_or}
use lib.Dec.{leb, ltb}
use lib.IntN.{pos}
use borrow.Author.Tests.{ltb-true, ltb-false, leb-true, leb-false}
use Rattle.common.proofs.TestParts.{on_test}
use Rattle.locate.specs.declared.VariantLocation.TheVariants.{FivePrimeUtr, ThreePrimeUtr}
use Rattle.transcript.specs.Limits.{top}
use Rattle.transcript.specs.Transcript.{Transcript}
use Rattle.transcript.specs.Orient.{oriented}
use Rattle.transcript.specs.Bases.{bases_in}
use Rattle.locate.specs.Intronic.{minus}
use Rattle.locate.specs.Place.{interval_index, cds_offset, cds_exon, exonic}
use Rattle.locate.specs.code.Exonic.{exonic_of, Countable}
use Rattle.transcript.proofs.Orient.{inside_by}
use Rattle.transcript.proofs.Facts.{Facts}
use Rattle.locate.proofs.Cdna.{coding_bases}
use Rattle.transcript.proofs.Listed.{nowhere}
use Rattle.locate.proofs.Sums.{bases_le}
use Rattle.locate.proofs.Offset.{segment_of_exon}
use Rattle.locate.proofs.CodingExons.{first_exon}
use Rattle.locate.proofs.ExonicCounts.{index_counts, numbers, utr5_is, end_is, five_is, three_is, cds_is}

module _ (t : Transcript) (f : Facts t) (i p : ℕ) (l : i < length (oriented t).exons)
    (a : (get_or (oriented t).exons i nowhere).start ≤ p) (b : p < (get_or (oriented t).exons i nowhere).end) where
  utr5_le : (oriented t).pad ≤ 2 → (index_counts (oriented t) p i (first_exon t)).utr5 ≤ top
  utr5_le q =
      let h = f.cds_high in
      on_test (oriented t).coding
      (λ c. (let s = f.cds_some c in let w = bases_le (oriented t).exons 0 (oriented t).cds.start f.order in let u = utr5_is t f i p (first_exon t) l a b c in omega arith))
      (λ c. rw c (omega arith))

  end_le : (index_counts (oriented t) p i (first_exon t)).coding_end ≤ top
  end_le =
      let h = f.cds_high in
      on_test (oriented t).coding
      (λ c. (let w = bases_le (oriented t).exons 0 (oriented t).cds.end f.order in let u = end_is t f i p (first_exon t) l a b c in omega arith))
      (λ c. (let w = bases_le (oriented t).exons (oriented t).cds.start (oriented t).cds.end f.order in
      let u = (numbers t f i p (first_exon t) l a b).coding_end in
      let v = ap (λ (x : Bool). cond x (bases_in (oriented t).exons 0 (oriented t).cds.start) 0) c in
      omega arith))

  segment_is : (oriented t).cds.start ≤ p → p < (oriented t).cds.end → interval_index (oriented t).segments p + first_exon t ≡ i
  segment_is u v = segment_of_exon t f i p l a b (inside_by p (oriented t).cds u v)

  pub countable : (oriented t).coding ≡ true → p ≤ top → (oriented t).pad ≤ 2 → Countable (index_counts (oriented t) p i (first_exon t)) (oriented t).cds p i
  countable c h q = record {
    before_low = (let w = bases_le (oriented t).exons 0 p f.order in let n = (numbers t f i p (first_exon t) l a b).before in omega arith);
    utr5_low = utr5_le q;
    end_low = end_le;
    pad_low = q;
    five = λ u. (let e = five_is t f i p (first_exon t) l a b c u in omega arith);
    three = λ u. (let e = three_is t f i p (first_exon t) l a b c u in omega arith);
    cds_from = λ u. (let e = cds_is t f i p (first_exon t) l a b c u in omega arith);
    from_first = λ u v. (let e = segment_is u v in omega arith);
  }

  less : (u n w : ℕ) → u ≡ n + w → u - n ≡ w
  less u n w h = omega arith

  pub exonic_same : (oriented t).coding ≡ true → (mark : Bool) → exonic_of (index_counts (oriented t) p i (first_exon t)) (oriented t).cds p i mark ≡ exonic (oriented t) p i mark
  unfolding exonic exonic_of
  exonic_same c mark =
      on_test (ltb p (oriented t).cds.start)
      (λ u. rw (c, u) (ap (λ (n : ℕ). FivePrimeUtr i (minus n) mark) (rw c at (less _ _ _ (five_is t f i p (first_exon t) l a b c (ltb-true p (oriented t).cds.start u))))))
      (λ u. on_test (leb (oriented t).cds.end p)
      (λ v. rw (c, u, v) (ap (λ (n : ℕ). ThreePrimeUtr i (pos n) mark) (rw c at (less _ _ _ (three_is t f i p (first_exon t) l a b c (leb-true (oriented t).cds.end p v))))))
      (λ v. rw (c, u, v) (rw c at (coded mark (ltb-false p (oriented t).cds.start u) (leb-false (oriented t).cds.end p v) (less _ _ _ (cds_is t f i p (first_exon t) l a b c (ltb-false p (oriented t).cds.start u)))))))
    where
      coded : (mark : Bool) → (oriented t).cds.start ≤ p → p < (oriented t).cds.end
          → (index_counts (oriented t) p i (first_exon t)).before - (index_counts (oriented t) p i (first_exon t)).utr5 ≡ bases_in (oriented t).exons (oriented t).cds.start p
          → cds_exon i (i - first_exon t) ((oriented t).pad + ((index_counts (oriented t) p i (first_exon t)).before - (index_counts (oriented t) p i (first_exon t)).utr5)) mark
          ≡ cds_exon i (interval_index (oriented t).segments p) (cds_offset (oriented t) p) mark
      coded mark u v e =
          let s = segment_is u v in
          let o = coding_bases t f p (omega arith) in
          rw (e, sym o) (ap (λ (g : ℕ). cds_exon i g (cds_offset (oriented t) p) mark) (omega arith))
