-- A shorter and a longer transcript on a chromosome, on each strand, to which demand 3 applies: exons are added at both ends, and the shorter's first exon
-- begins farther 5' in the longer.
use Rattle.std.specs.Prelude.{Some}
use Rattle.std.specs.Prelude.{ℕ, ◌+◌, ◌-◌, true, false, [], ◌∷◌, map, ◌≡◌, length}
use Rattle.common.specs.Text.{byte}
use Rattle.transcript.specs.declared.Strand.{Strand}
use Rattle.transcript.specs.declared.Strand.TheVariants.{Plus, Minus}
use Rattle.transcript.specs.declared.TranscriptModel.{TranscriptModel}
use Rattle.footprint.specs.Ranges.{source_ranges}
use Rattle.transcript.specs.Limits.{mitochondrial}
use Rattle.transcript.specs.Transcript.{Transcript, lent}
use Rattle.transcript.specs.Admission.{Admitted}
use Rattle.consequence.specs.Called.{Called}
use Rattle.consequence.specs.Call.{annotate_snv}
use Rattle.terms.specs.declared.Consequence.TheVariants.{SpliceRegionVariant, ThreePrimeUtrVariant}
use Rattle.demands.specs.Longer.{Longer, inside_transcript}
use Rattle.demands.specs.Gains.{has_term}
use Rattle.demands.specs.claims.Demands.{near_outer_end, call_at}

-- CDS [110,170)
abbrev model : ℕ → Strand → ℕ → ℕ → ℕ → ℕ → TranscriptModel
model chromosome strand id count s e = record { id = id; chromosome = chromosome; strand = strand; exon_count = count; tx_start = s; tx_end = e; cds = Some (record { cds_genomic_start = 110; cds_genomic_end = 170 }); cds_start_complete = true }

-- exons [100,130) and [160,190), a selenocysteine base at 127
abbrev pub shorter : ℕ → Strand → Transcript
shorter n Plus = lent (model n Plus 7 2 100 190) (100 ∷ 160 ∷ []) (130 ∷ 190 ∷ []) (0 ∷ 1 ∷ []) (0 ∷ 1 ∷ []) (110 ∷ 160 ∷ []) (130 ∷ 170 ∷ []) (127 ∷ [])
shorter n Minus = lent (model n Minus 7 2 100 190) (160 ∷ 100 ∷ []) (190 ∷ 130 ∷ []) (0 ∷ 2 ∷ []) (0 ∷ 1 ∷ []) (160 ∷ 110 ∷ []) (170 ∷ 130 ∷ []) (127 ∷ [])

-- exons [50,80) and [215,230) are added, and the first exon begins 5 bases farther 5'
abbrev pub longer : ℕ → Strand → Transcript
longer n Plus =
    lent (model n Plus 8 4 50 230) (50 ∷ 95 ∷ 160 ∷ 215 ∷ []) (80 ∷ 130 ∷ 190 ∷ 230 ∷ []) (0 ∷ 1 ∷ []) (1 ∷ 2 ∷ []) (110 ∷ 160 ∷ []) (130 ∷ 170 ∷ []) (127 ∷ [])
longer n Minus =
    lent (model n Minus 8 4 50 230) (215 ∷ 160 ∷ 100 ∷ 50 ∷ []) (230 ∷ 195 ∷ 130 ∷ 80 ∷ []) (0 ∷ 2 ∷ []) (1 ∷ 2 ∷ []) (160 ∷ 110 ∷ []) (170 ∷ 130 ∷ []) (127 ∷ [])

-- the shorter's last base but n in strand order
abbrev pub last_but : ℕ → Strand → ℕ
last_but n Plus = 189 - n
last_but n Minus = 100 + n

-- A to C at the third base from the end, read through a window of that base alone
abbrev pub call_near : (ℕ → Strand → Transcript) → ℕ → Strand → Called
call_near transcript n strand =
    annotate_snv source_ranges (transcript n strand) (record { chromosome = n; first = last_but 2 strand; bytes = byte "A" ∷ [] }) (call_at n (last_but 2 strand) (byte "A") (byte "C"))

-- the premises of demand 3 hold of the pair: both are admitted, one is longer, an exon being added at each end, and a base is inside the
-- shorter; splice_region_variant is gained there, and the base before it is not near the end
pub record Pair (n : ℕ) (strand : Strand) : Type 0 where
  pub admitted_shorter : Admitted (shorter n strand)
  pub admitted_longer : Admitted (longer n strand)
  pub is_longer : Longer (shorter n strand) (longer n strand)
  pub before : length is_longer.before ≡ 1
  pub after : length is_longer.after ≡ 1
  pub inside : inside_transcript (shorter n strand) (last_but 2 strand) ≡ true
  pub near : near_outer_end (shorter n strand) (longer n strand) is_longer (last_but 2 strand) ≡ true
  pub not_near : near_outer_end (shorter n strand) (longer n strand) is_longer (last_but 3 strand) ≡ false
  pub shorter_terms : map (has_term (call_near shorter n strand)) (ThreePrimeUtrVariant ∷ SpliceRegionVariant ∷ []) ≡ true ∷ false ∷ []
  pub longer_terms : map (has_term (call_near longer n strand)) (ThreePrimeUtrVariant ∷ SpliceRegionVariant ∷ []) ≡ true ∷ true ∷ []

-- on each strand, read by the standard code and by the mitochondrial one
abbrev pub Pairs : Type 0
Pairs = (strand : Strand) → Pair 1 strand × Pair mitochondrial strand
