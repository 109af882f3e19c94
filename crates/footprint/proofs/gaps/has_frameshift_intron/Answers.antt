use Rattle.std.proofs.Common.{sym, ◌∙◌, arith}
use Rattle.common.proofs.Lists.{any_end}
use Rattle.footprint.specs.code.Lent.{gaps_in}
use Rattle.footprint.specs.ShortIntron.{is_frameshift_gap}
use Rattle.footprint.proofs.GapList.{gap_end}
use Rattle.footprint.proofs.gaps.has_frameshift_intron.Goals as goal

pub returns : goal.returns
returns c =
    let x = c.args.exons in let l = c.loop-i in
    let e = c.min-n.ensures in let f = c.saturating_sub-i-end.ensures in
    sym (any_end is_frameshift_gap (gaps_in x.strand x.intervals) l.i (gap_end x.strand x.intervals.starts.now x.intervals.ends.now l.i (omega arith) (omega arith))) ∙ l.invariant
