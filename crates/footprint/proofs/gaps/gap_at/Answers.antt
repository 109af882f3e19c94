use Rattle.std.proofs.Common.{arith}
use Rattle.footprint.proofs.GapList.{gap_none}
use Rattle.footprint.proofs.gaps.gap_at.Goals as goal
use Rattle.footprint.proofs.gaps.gap_at.Goals.{then-n-i-via-then-n-i, then-n-i-via-else-n-i+then-n-i-lt2}

pub returns-then-n-i : goal.returns-then-n-i
returns-then-n-i c =
    let x = c.args.exons in
    let e = c.min-n.ensures in
    elim c.then-n-i.branch [
      | then-n-i-via-then-n-i w ↦ gap_none x.strand x.intervals.starts.now x.intervals.ends.now c.args.i (omega arith)
      | then-n-i-via-else-n-i+then-n-i-lt2 w ↦ gap_none x.strand x.intervals.starts.now x.intervals.ends.now c.args.i (omega arith)
    ]
