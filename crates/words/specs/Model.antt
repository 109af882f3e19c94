-- A transcript's scalars as they are handed in.
use Rattle.std.specs.Prelude.{ℕ, Bool, true, false, Option, Some, None}
use Rattle.transcript.specs.declared.Strand.{Strand}
use Rattle.transcript.specs.declared.Strand.TheVariants.{Plus, Minus}
use Rattle.transcript.specs.declared.CdsBounds.{CdsBounds}
use Rattle.transcript.specs.declared.TranscriptModel.{TranscriptModel}
use Rattle.words.specs.declared.VareffectModel.{VareffectModel}

abbrev pub strand_of : Bool → Strand
strand_of true = Minus
strand_of false = Plus

-- both bounds, or neither
abbrev pub bounds_of : Bool → ℕ → ℕ → Option CdsBounds
bounds_of true s e = Some (record { cds_genomic_start = s; cds_genomic_end = e })
bounds_of false s e = None

abbrev pub model_of : VareffectModel → TranscriptModel
model_of m = record {
  id = m.id;
  chromosome = m.chromosome;
  strand = strand_of m.minus;
  exon_count = m.exon_count;
  tx_start = m.tx_start;
  tx_end = m.tx_end;
  cds = bounds_of m.has_cds m.cds_start m.cds_end;
  cds_start_complete = m.start_complete;
}
