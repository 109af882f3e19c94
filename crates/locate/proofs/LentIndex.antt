-- The arrays of the index of an admitted transcript whose lists are lent apart, in terms of the lists.
-- Assumes nothing.
use Prim.Native.Nat.{ℕ, ◌+◌, ◌/◌, ◌≤◌}
use mathlib.Core.Path.{◌≡◌, refl, sym, ◌∙◌, ap}
use mathlib.Core.Bool.{true, false, not}
use mathlib.Core.List.{List, [], ◌∷◌, map}
use native.Mathlib.Omega.{arith}
use lib.ListN.{length, get_or}
use lib.Dec.{ltb}
use borrow.Author.Tests.{ltb-false, ltb-true, not-false}
use Rattle.common.specs.Lists.{any}
use Rattle.common.proofs.TestParts.{or_false}
use Rattle.common.proofs.Lists.{any_none}
use Rattle.transcript.specs.declared.Strand.{Strand}
use Rattle.transcript.specs.declared.Exon.{Exon}
use Rattle.transcript.specs.declared.TranscriptModel.{TranscriptModel}
use Rattle.transcript.specs.Limits.{top, coordinate_limit}
use Rattle.transcript.specs.Transcript.{exons_of, lent}
use Rattle.transcript.specs.Orient.{orient_base, orient_exon, Oriented, oriented}
use Rattle.transcript.specs.Bases.{size, sum, bases_in}
use Rattle.transcript.specs.Admission.{bad_exon, ascending, admission}
use Rattle.transcript.specs.code.Lent.{exon_size, pad_of_phases, lent_exons}
use Rattle.common.specs.Stored.{filled}
use Rattle.locate.specs.Index.{cumulative, index_scalars, locate_index}
use Rattle.locate.specs.code.Sums.{first_sum, Sums, ExonSums, CdsSums}
use Rattle.locate.specs.code.Coded.{Coded}
use Rattle.transcript.proofs.Ascends.{Ascends}
use Rattle.transcript.proofs.Admitted.{ascending_exons, exons_high}
use Rattle.transcript.proofs.Orient.{orient_size}
use Rattle.locate.proofs.Sums.{sizes_le}
use Rattle.locate.proofs.Offset.{sum_last, index_exons, index_cds}
use Rattle.locate.proofs.LentTranscript.{known, ad, exons_are, segments_are, segment_count, pad_is, pad_2}

-- orienting keeps the sizes
pub sizes_turned : (σ : Strand) (xs : List Exon) → any bad_exon xs ≡ false → map size (map (orient_exon σ) xs) ≡ map exon_size xs
sizes_turned σ [] h = refl
sizes_turned σ (x ∷ xs) h =
    let n = any_none bad_exon x xs h in
    let g = or_false (not (ltb x.genomic_start x.genomic_end)) (ltb coordinate_limit x.genomic_end) n.0 in
    let s = orient_size σ x.genomic_start x.genomic_end (ltb-false coordinate_limit x.genomic_end g.1) (ltb-true x.genomic_start x.genomic_end (not-false (ltb x.genomic_start x.genomic_end) g.0)) in
    rw (s, sizes_turned σ xs n.1)

-- the sizes of ascending exons sum up to less than the top
pub sizes_bound : (σ : Strand) (xs : List Exon) → any bad_exon xs ≡ false → ascending 0 (map (orient_exon σ) xs) ≡ true → sum (map exon_size xs) ≤ top
sizes_bound σ xs h a =
    let s = sizes_le (map (orient_exon σ) xs) 0 (ascending_exons σ 0 xs h a) in
    let t = ap sum (sizes_turned σ xs h) in
    let u = exons_high σ 0 xs h (omega arith) in
    omega arith

module _ (m : TranscriptModel) (ss es ps is gs ge bs : List ℕ) (h : admission (lent m ss es ps is gs ge bs) ≡ 0) where
  abbrev o : Oriented
  o = oriented (lent m ss es ps is gs ge bs)

  pub exon_sizes : map exon_size (exons_of ss es) ≡ map size o.exons
  exon_sizes = sym (ap (map size) (exons_are m ss es ps is gs ge bs h) ∙ sizes_turned m.strand (exons_of ss es) (ad m ss es ps is gs ge bs h).edges)

  pub segment_sizes : map exon_size (exons_of gs ge) ≡ map size o.segments
  segment_sizes = sym (ap (map size) (segments_are m ss es ps is gs ge bs h) ∙ sizes_turned m.strand (exons_of gs ge) (ad m ss es ps is gs ge bs h).segment_edges)

  pub exon_array : filled 513 (cumulative 0 (map exon_size (exons_of ss es))) ≡ (locate_index o).cumulative_exons
  exon_array = ap (λ (ns : List ℕ). filled 513 (cumulative 0 ns)) exon_sizes

  pub cds_array : (pad : ℕ) → pad ≡ pad_of_phases ps → filled 513 (cumulative pad (map exon_size (exons_of gs ge))) ≡ (locate_index o).cumulative_cds
  cds_array pad e = let p = e ∙ sym (pad_is m ss es ps is gs ge bs h) in λ k. filled 513 (cumulative (p k) (segment_sizes k))

  pub exons_summed : (sums : List ℕ) → sums ≡ (locate_index o).cumulative_exons → ExonSums o sums
  exons_summed sums e = rw e (index_exons o)

  pub cds_summed : (sums : List ℕ) → sums ≡ (locate_index o).cumulative_cds → CdsSums o sums
  cds_summed sums e = rw e (index_cds o (pad_2 m ss es ps is gs ge bs h))

  -- the arrays
  module _ (sums : List ℕ) (q : ExonSums o sums) where
    pub exonic : Sums (lent_exons m.strand ss es) sums
    exonic = rw (← exons_are m ss es ps is gs ge bs h) q.0

  module _ (sums : List ℕ) (q : CdsSums o sums) where
    pub coding : Sums (lent_exons m.strand gs ge) sums
    coding = rw (← segments_are m ss es ps is gs ge bs h) q.0

    pub total : get_or sums (length gs) 0 ≡ (index_scalars o).total_cds_length
    total =
        let n = ap (λ (k : ℕ). get_or sums k 0) (sym (segment_count m ss es ps is gs ge bs h)) in
        let a : Ascends 0 o.segments = rw (segments_are m ss es ps is gs ge bs h) (ascending_exons m.strand 0 (exons_of gs ge) (ad m ss es ps is gs ge bs h).segment_edges (ad m ss es ps is gs ge bs h).segment_order) in
        let l = sum_last o.segments sums a q.0 in
        let f = q.1 in
        omega arith

    pub coded : Coded m.strand (lent_exons m.strand gs ge) sums bs
    unfolding oriented
    coded =
        let x = ad m ss es ps is gs ge bs h in
        record {
          summed = coding;
          few_bases = x.few_bases;
          bases_low = x.bases_low;
          bases_held = rw (← segments_are m ss es ps is gs ge bs h) (known m ss es ps is gs ge bs h).selenocysteine_in;
        }

    pub codons : filled 64 (map (λ b. (first_sum sums + bases_in (lent_exons m.strand gs ge) 0 b) / 3 + 1) (map (orient_base m.strand) bs)) ≡ (locate_index o).selenocysteine_codons
    unfolding oriented
    codons =
        let f = q.1 in
        let g = sym (segments_are m ss es ps is gs ge bs h) in
        λ k. filled 64 (map (λ b. (f k + bases_in (g k) 0 b) / 3 + 1) (map (orient_base m.strand) bs))
