use native.Mathlib.Omega.{arith}
use Rattle.deck.proofs.Walking.{before_first, before_end}
use Rattle.deck.proofs.walk.Trail.walk_transcripts.Goals as goal

pub loop-t-init : goal.loop-t-init
loop-t-init c = rw (c.requires, c.link-t.ensures) (before_first c.args.d.bytes.now (omega arith))

pub returns : goal.returns
returns c = before_end c.args.d.bytes.now c.loop-t.self c.loop-t.from c.loop-t.t c.loop-t.invariant c.loop-t-test.false
