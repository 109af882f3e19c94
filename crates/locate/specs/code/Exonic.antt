-- The place of an exon base from counts of exonic bases, as the index gives them.
use Rattle.std.specs.Prelude.{ℕ, ◌+◌, ◌-◌, ◌≤◌, ◌<◌, Bool, cond, List, [], ◌∷◌, leb, ltb, pos}
use Rattle.locate.specs.declared.exonic.Counts.{Counts}
use Rattle.locate.specs.declared.VariantLocation.{VariantLocation}
use Rattle.locate.specs.declared.VariantLocation.TheVariants.{FivePrimeUtr, ThreePrimeUtr}
use Rattle.transcript.specs.Limits.{top}
use Rattle.transcript.specs.Orient.{Interval}
use Rattle.locate.specs.Intronic.{minus}
use Rattle.locate.specs.Place.{cds_exon}

abbrev pub counts : ℕ → ℕ → ℕ → ℕ → ℕ → Counts
counts before utr5 end pad first = record { before = before; utr5 = utr5; coding_end = end; pad = pad; first = first }

-- the place of base p of exon i of a coding transcript
unfoldable pub exonic_of : Counts → Interval → ℕ → ℕ → Bool → VariantLocation
exonic_of c cds p i mark =
    cond (ltb p cds.start) (FivePrimeUtr i (minus (c.utr5 - c.before)) mark)
    (cond (leb cds.end p) (ThreePrimeUtr i (pos (c.before + 1 - c.coding_end)) mark)
    (cds_exon i (i - c.first) (c.pad + (c.before - c.utr5)) mark))

-- counts that can be added and subtracted
pub record Countable (c : Counts) (cds : Interval) (p i : ℕ) : Type 0 where
  pub before_low : c.before ≤ top
  pub utr5_low : c.utr5 ≤ top
  pub end_low : c.coding_end ≤ top
  pub pad_low : c.pad ≤ 2
  pub five : p < cds.start → c.before ≤ c.utr5
  pub three : cds.end ≤ p → c.coding_end ≤ c.before + 1
  pub cds_from : cds.start ≤ p → c.utr5 ≤ c.before
  pub from_first : cds.start ≤ p → p < cds.end → c.first ≤ i

-- the first of a list, 0 where there is none
abbrev pub head_of : List ℕ → ℕ
head_of [] = 0
head_of (n ∷ ns) = n
