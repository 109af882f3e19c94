-- What is computed once for a transcript.
use Rattle.std.specs.Prelude.{ℕ, ◌+◌, ◌-◌, ◌/◌, cond, List, [], ◌∷◌, map, length, Result}
use Rattle.common.specs.declared.refusal.Refusal.{Refusal}
use Rattle.common.specs.Refusal.{outcome}
use Rattle.common.specs.Lists.{any}
use Rattle.common.specs.Stored.{filled}
use Rattle.transcript.specs.Transcript.{Transcript}
use Rattle.transcript.specs.Orient.{Oriented, oriented}
use Rattle.transcript.specs.Bases.{size, bases_in, gaps}
use Rattle.transcript.specs.Admission.{admission}
use Rattle.footprint.specs.ShortIntron.{is_frameshift_gap}
use Rattle.locate.specs.declared.IndexScalars.{IndexScalars}
use Rattle.locate.specs.declared.LocateIndex.{LocateIndex}
use Rattle.locate.specs.Place.{interval_index, cds_offset, total_cds_length}

-- the sum before each length and after the last, from `first` on
unfoldable pub cumulative : ℕ → List ℕ → List ℕ
cumulative first [] = first ∷ []
cumulative first (n ∷ ns) = first ∷ cumulative (first + n) ns

-- the codon number of each selenocysteine base
abbrev pub selenocysteine_codons : Oriented → List ℕ
selenocysteine_codons t = map (λ b. cds_offset t b / 3 + 1) t.selenocysteine

abbrev pub index_scalars : Oriented → IndexScalars
index_scalars t = record {
  cds_start_pad = t.pad;
  exon_count = length t.exons;
  segment_count = length t.segments;
  total_cds_length = total_cds_length t;
  utr5_exonic_len = cond t.coding (bases_in t.exons 0 t.cds.start) 0;
  cds_start_exon_idx = cond t.coding (interval_index t.exons t.cds.start) 0;
  cds_end_exon_idx = cond t.coding (interval_index t.exons (t.cds.end - 1)) 0;
  has_frameshift_intron = any is_frameshift_gap (gaps t.exons);
  selenocysteine_count = length t.selenocysteine;
}

-- the coding lengths are summed up from the pad, the exonic ones from 0
abbrev pub locate_index : Oriented → LocateIndex
locate_index t = record {
  scalars = index_scalars t;
  cumulative_exons = filled 513 (cumulative 0 (map size t.exons));
  cumulative_cds = filled 513 (cumulative t.pad (map size t.segments));
  selenocysteine_codons = filled 64 (selenocysteine_codons t);
}

-- the index of a transcript that is admitted
unfoldable pub indexed : Transcript → Result LocateIndex Refusal
indexed t = outcome (admission t) (locate_index (oriented t))
