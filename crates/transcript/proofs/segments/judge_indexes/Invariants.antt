use Rattle.transcript.proofs.Steps.{Seen}
use Rattle.transcript.proofs.segments.judge_indexes.Given as goal

abbrev pub invariant-loop-index : goal.invariant-loop-index
invariant-loop-index l = Seen l.exons l.indexes l.seen l.index-index
