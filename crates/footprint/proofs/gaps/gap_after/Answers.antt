use Rattle.std.proofs.Common.{sym, ◌∙◌}
use Rattle.transcript.specs.Orient.{interval}
use Rattle.footprint.proofs.GapList.{gap_at}
use Rattle.footprint.proofs.gaps.gap_after.Goals as goal

pub returns : goal.returns
returns c =
    let x = c.args.exons in
    (λ j. interval (c.end.ensures j) (c.start.ensures j)) ∙ sym (gap_at x.strand x.intervals.starts.now x.intervals.ends.now c.args.i c.requires.0 c.requires.1)
