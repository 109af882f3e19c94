use Rattle.std.proofs.Common.{◌≡◌, ◌≤◌, length}
use Rattle.common.proofs.Filling.{front}
use Rattle.records.specs.code.Table.{exon_starts_of, exon_ends_of}
use Rattle.records.proofs.table.table_of.Given as goal

-- the first i records' numbers are copied, and zeros stand behind them
abbrev pub invariant-loop-i : goal.invariant-loop-i
invariant-loop-i l = record {
  within : l.i ≤ length l.exons;
  starting : l.starts ≡ front (exon_starts_of l.exons) 512 l.i;
  ending : l.ends ≡ front (exon_ends_of l.exons) 512 l.i;
}
