-- A transcript that is admitted, with its index.
use Rattle.std.specs.Prelude.{ℕ, ◌≡◌, Bool, List}
use Rattle.common.specs.Lists.{any}
use Rattle.transcript.specs.Transcript.{Transcript}
use Rattle.transcript.specs.Orient.{oriented}
use Rattle.transcript.specs.Bases.{gaps}
use Rattle.transcript.specs.Admission.{admission}
use Rattle.locate.specs.declared.IndexScalars.{IndexScalars}
use Rattle.locate.specs.Index.{index_scalars, locate_index}
use Rattle.footprint.specs.ShortIntron.{is_frameshift_gap}
use Rattle.locate.specs.code.Sums.{ExonSums, CdsSums}

-- the index's scalars, its sums and its codon numbers as they are lent
pub record Prepared (t : Transcript) (scalars : IndexScalars) (exons segments codons : List ℕ) : Type 0 where
  pub admitted : admission t ≡ 0
  pub scalars_are : scalars ≡ index_scalars (oriented t)
  pub exons_are : ExonSums (oriented t) exons
  pub segments_are : CdsSums (oriented t) segments
  pub codons_are : codons ≡ (locate_index (oriented t)).selenocysteine_codons

-- the sums alone, and whether there is a short intron
pub record Summed (t : Transcript) (exons segments : List ℕ) (short : Bool) : Type 0 where
  pub admitted : admission t ≡ 0
  pub exons_are : ExonSums (oriented t) exons
  pub segments_are : CdsSums (oriented t) segments
  pub short_is : short ≡ any is_frameshift_gap (gaps (oriented t).exons)
