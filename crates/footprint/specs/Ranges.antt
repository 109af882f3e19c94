-- The lengths that a place is judged by.
use Rattle.std.specs.Prelude.{ℕ}
use Rattle.footprint.specs.declared.Ranges.{Ranges}

-- the two canonical splice bases at each end of an intron
abbrev pub splice_canonical_max : ℕ
splice_canonical_max = 2

-- exon bases this near to an intron are of the splice region
abbrev pub splice_region_exon_max : ℕ
splice_region_exon_max = 3

-- the longest gap that is a frameshift intron
abbrev pub frameshift_intron_max_gap : ℕ
frameshift_intron_max_gap = 13

-- 5000 bases of flank, 8 bases from the donor, 17 from the acceptor
abbrev pub source_ranges : Ranges
source_ranges = record { flank = 5000; donor = 8; acceptor = 17 }
