use Rattle.common.proofs.Stored.{pushed_more}
use Rattle.common.proofs.text.push_bytes.Goals as goal

pub loop-b-preserved : goal.loop-b-preserved
loop-b-preserved c = pushed_more c.args.text.now c.loop-b.b-index c.loop-b-test.true c.loop-b.invariant c.push-to.ensures
