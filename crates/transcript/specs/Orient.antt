-- Oriented coordinates. On the plus strand a base keeps its coordinate; on the minus strand base p stands at top − 1 − p, and
-- [s, e) at [top − e, top − s). So 5' is always below 3', exons ascend, and the definitions over them name no strand.
use Rattle.std.specs.Prelude.{ℕ, ◌-◌, Bool, not, List, Option, Some, None, map}
use Rattle.transcript.specs.declared.Strand.{Strand}
use Rattle.transcript.specs.declared.Strand.TheVariants.{Plus, Minus}
use Rattle.transcript.specs.declared.CdsBounds.{CdsBounds}
use Rattle.transcript.specs.declared.Exon.{Exon}
use Rattle.transcript.specs.declared.CdsSegment.{CdsSegment}
use Rattle.transcript.specs.Limits.{top}
use Rattle.transcript.specs.Transcript.{Transcript, pad_of, is_empty}

-- the bases from `start` to just before `end`, in oriented coordinates
pub record Interval : Type 0 where
  pub start : ℕ
  pub end : ℕ

abbrev pub interval : ℕ → ℕ → Interval
interval s e = record { start = s; end = e }

-- a single base, oriented; applied twice it is the base again
abbrev pub orient_base : Strand → ℕ → ℕ
orient_base Plus p = p
orient_base Minus p = top - 1 - p

-- [s, e), oriented
abbrev pub orient : Strand → ℕ → ℕ → Interval
orient Plus s e = interval s e
orient Minus s e = interval (top - e) (top - s)

-- the CDS, oriented; without bounds it has no bases on either strand
abbrev pub orient_bounds : Strand → Option CdsBounds → Interval
orient_bounds strand None = interval 0 0
orient_bounds strand (Some b) = orient strand b.cds_genomic_start b.cds_genomic_end

abbrev pub orient_exon : Strand → Exon → Interval
orient_exon strand x = orient strand x.genomic_start x.genomic_end

abbrev pub orient_segment : Strand → CdsSegment → Interval
orient_segment strand g = orient strand g.genomic_start g.genomic_end

-- what the places and terms of a transcript are read from; `cds` is meaningful where `coding`
pub record Oriented : Type 0 where
  pub exons : List Interval
  pub coding : Bool
  pub cds : Interval
  pub segments : List Interval
  pub pad : ℕ
  pub start_complete : Bool
  pub selenocysteine : List ℕ

unfoldable pub oriented : Transcript → Oriented
oriented t = record {
  exons = map (orient_exon t.model.strand) t.exons;
  coding = not (is_empty t.segments);
  cds = orient_bounds t.model.strand t.model.cds;
  segments = map (orient_segment t.model.strand) t.segments;
  pad = pad_of t.segments;
  start_complete = t.model.cds_start_complete;
  selenocysteine = map (orient_base t.model.strand) t.selenocysteine;
}
