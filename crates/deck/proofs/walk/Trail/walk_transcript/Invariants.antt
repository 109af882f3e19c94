use Rattle.deck.specs.code.Trail.{left}
use Rattle.deck.proofs.Walking.{Inner}
use Rattle.deck.proofs.walk.Trail.walk_transcript.Given as goal

abbrev pub invariant-loop-link : goal.invariant-loop-link
invariant-loop-link l = Inner l.d.bytes.now l.t l.fn.self l.self l.b l.link

abbrev pub decreases-loop-link : goal.decreases-loop-link
decreases-loop-link l = left l.d.bytes.now l.self
