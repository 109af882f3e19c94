use Rattle.std.proofs.Common.{◌∙◌, sym}
use borrow.Author.Tests.{not-true}
use Rattle.common.proofs.TestParts.{true_false}
use Rattle.common.proofs.Outcome.{answered}
use Rattle.transcript.proofs.Segmented.{none_segmented, some_segmented}
use Rattle.transcript.proofs.coding.judge_segments.Goals.{then-is_run, else-is_run}
use Rattle.transcript.proofs.coding.judge_segments.Goals as goal

pub returns-in_default : goal.returns-in_default
returns-in_default c = answered tt _ (sym (none_segmented c.args.transcript.now c.requires.known.0 c.requires.framed c.in_default.is))

pub returns-then-are_cuts : goal.returns-then-are_cuts
returns-then-are_cuts c =
    let x = c.exons-exons.ensures in
    let b = c.segments-bases.ensures in
    elim c.if-is_run.branch [
      | then-is_run w ↦ answered tt _ (sym (some_segmented c.args.transcript.now c.requires.known.0 c.requires.framed c.requires.known.1 c.in-Some.cds c.in-Some.is
          (rw (b.0, b.1) at (sym w.bad_bounds.ensures ∙ not-true _ (sym w.span-is ∙ c.if-span.true))) (rw (x.0, x.1) at (sym c.are_cuts.ensures ∙ c.if-are_cuts.true))))
      | else-is_run w ↦ absurd (true_false (sym c.if-span.true ∙ w.span-is ∙ w.if-is_run.false))
    ]
