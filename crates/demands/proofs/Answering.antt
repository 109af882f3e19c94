-- The longer's answer, before refusals, is the shorter's, carried.
use Rattle.std.proofs.Common.{Option}
use Prim.Native.Nat.{ℕ, ◌+◌, ◌-◌, ◌<◌}
use mathlib.Core.Path.{◌≡◌, refl}
use mathlib.Core.Bool.{Bool, true, false, ◌&&◌, ◌||◌}
use mathlib.Core.List.{List}
use native.Mathlib.Omega.{arith}
use lib.ListN.{length}
use Rattle.footprint.specs.declared.SpliceSpill.{SpliceSpill}
use Rattle.locate.specs.declared.VariantLocation.{VariantLocation}
use Rattle.locate.specs.declared.VariantLocation.TheVariants.{Upstream, Downstream, Distal, FivePrimeUtr, CdsExon, ThreePrimeUtr, SpliceDonor, SpliceAcceptor, SpliceRegion, Intron, FrameshiftIntron, NonCodingExon, NonCodingIntron}
use Rattle.transcript.specs.Orient.{Oriented}
use Rattle.transcript.specs.Bases.{bases_in}
use Rattle.consequence.specs.Region.{with_mark}
use Rattle.consequence.specs.Answer.{Columns, no_codon, flank_result, intron_result, exon_result, codon_columns, place_result}
use Rattle.consequence.specs.Call.{add_splice_spill}
use Rattle.demands.specs.Carry.{Added, carry_place, gains_term, carry_result}
use Rattle.demands.proofs.Alike.{Alike}
use Rattle.demands.proofs.Codons.{same_columns}
use Rattle.demands.proofs.SpliceTerms.{Keeps, keeps_five, keeps_three, keeps_noncoding, keeps_columns}
use Rattle.codon.specs.declared.Codon.{Codon}

-- outside the exons no term is gained
no_gain : (m t : Bool) → (m && false && t) ≡ false
no_gain true t = refl
no_gain false t = refl

module _ (x : Added) (s : SpliceSpill) where
  flank_carry : (place : VariantLocation) (terms : ℕ) → add_splice_spill s (flank_result (carry_place x place) terms) ≡ carry_result x (add_splice_spill s (flank_result place terms))
  unfolding carry_result gains_term
  flank_carry place terms = rw no_gain

module _ (S L : Oriented) (a : Alike S L) (x : Added) (s : SpliceSpill) (p : ℕ)
    (some : 0 < length S.exons) (total : length L.exons ≡ length S.exons + x.exons) (count : bases_in L.exons 0 p ≡ bases_in S.exons 0 p + x.bases5) where
  intron_result_lem : (place : VariantLocation) (i terms : ℕ)
      → add_splice_spill s (intron_result L (carry_place x place) (i + x.exons5) terms) ≡ carry_result x (add_splice_spill s (intron_result S place i terms))
  unfolding carry_result gains_term
  intron_result_lem place i terms =
      let k : i + x.exons5 + 1 ≡ i + 1 + x.exons5 = omega arith in
      let n : length L.exons - 1 ≡ length S.exons - 1 + x.exons = omega arith in
      rw (k, n, no_gain)

  exon_result_lem : (place : VariantLocation) (i : ℕ) (m : Bool) (c : Columns) (terms : ℕ) → Keeps terms
      → add_splice_spill s (exon_result L p (carry_place x place) (i + x.exons5) c (with_mark (m || x.mark) terms))
      ≡ carry_result x (add_splice_spill s (exon_result S p place i c (with_mark m terms)))
  unfolding carry_result gains_term
  exon_result_lem place i m c terms f =
      let k : i + x.exons5 + 1 ≡ i + 1 + x.exons5 = omega arith in
      let n : bases_in L.exons 0 p + 1 ≡ bases_in S.exons 0 p + 1 + x.bases5 = omega arith in
      rw (k, total, n, f m x.mark s)

  pub result_carry : (code : List ℕ) (alt : ℕ) (codonL codonS : ℕ → Option Codon) → ((k : ℕ) → codonL k ≡ codonS k) → (place : VariantLocation)
      → add_splice_spill s (place_result code L p alt codonL (carry_place x place)) ≡ carry_result x (add_splice_spill s (place_result code S p alt codonS place))
  unfolding place_result carry_place
  result_carry code alt u v e (Upstream d) = flank_carry x s (Upstream d) _
  result_carry code alt u v e (Downstream d) = flank_carry x s (Downstream d) _
  result_carry code alt u v e Distal = flank_carry x s Distal _
  result_carry code alt u v e (FivePrimeUtr i d m) = exon_result_lem (FivePrimeUtr i d m) i m no_codon _ keeps_five
  result_carry code alt u v e (CdsExon i g o n k m) =
      let f = o.0 in
      let c = codon_columns code S f n k alt (v f) in
      rw (e f, same_columns S L a code f n k alt (v f)) (exon_result_lem (CdsExon i g o n k m) i m c c.terms (keeps_columns code S f n k alt (v f)))
  result_carry code alt u v e (ThreePrimeUtr i d m) = exon_result_lem (ThreePrimeUtr i d m) i m no_codon _ keeps_three
  result_carry code alt u v e (SpliceDonor i d) = intron_result_lem (SpliceDonor i d) i _
  result_carry code alt u v e (SpliceAcceptor i d) = intron_result_lem (SpliceAcceptor i d) i _
  result_carry code alt u v e (SpliceRegion i t d) = intron_result_lem (SpliceRegion i t d) i _
  result_carry code alt u v e (Intron i d) = intron_result_lem (Intron i d) i _
  result_carry code alt u v e (FrameshiftIntron i d) = rw a.coding (intron_result_lem (FrameshiftIntron i d) i _)
  result_carry code alt u v e (NonCodingExon i m) = exon_result_lem (NonCodingExon i m) i m no_codon _ keeps_noncoding
  result_carry code alt u v e (NonCodingIntron i d) = intron_result_lem (NonCodingIntron i d) i _
