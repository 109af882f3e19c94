use Rattle.transcript.proofs.Matched.{Matched}
use Rattle.transcript.proofs.coding.are_cuts.Given as goal

abbrev pub invariant-loop-i : goal.invariant-loop-i
invariant-loop-i l =
    let x = l.exons.intervals in let g = l.segments in let cds = l.fn.cds in
    Matched l.exons.strand x.starts.now x.ends.now cds.cds_genomic_start cds.cds_genomic_end g.exon_indexes.now g.bases.starts.now g.bases.ends.now l.k l.i
