use Rattle.deck.specs.code.Trail.{left, Before}
use Rattle.deck.proofs.walk.Trail.walk_transcripts.Given as goal

abbrev pub invariant-loop-t : goal.invariant-loop-t
invariant-loop-t l = Before l.d.bytes.now l.self l.from l.t

abbrev pub decreases-loop-t : goal.decreases-loop-t
decreases-loop-t l = left l.d.bytes.now l.self
