use Rattle.std.proofs.Common.{refl, arith}
use Rattle.records.proofs.Tables.{counted_many, table_lent}
use Rattle.records.proofs.table.transcript_on.Goals as goal

pub returns-then-n-gt512 : goal.returns-then-n-gt512
returns-then-n-gt512 c =
    let a = c.args in
    let g = a.segments in
    (refl, λ xs k. counted_many a.model xs g.phases.now g.exon_indexes.now g.bases.starts.now g.bases.ends.now a.selenocysteine.now a.table.now k (omega arith))

pub returns : goal.returns
returns c =
    let a = c.args in
    let g = a.segments in
    λ xs k. table_lent a.model xs g.phases.now g.exon_indexes.now g.bases.starts.now g.bases.ends.now a.selenocysteine.now a.table.now k (omega arith)
