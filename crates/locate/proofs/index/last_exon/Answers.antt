use native.Mathlib.Omega.{arith}
use borrow.Author.Tests.{lt-ltb}
use Rattle.locate.proofs.index.last_exon.Goals as goal

pub returns-then-segments-eq0 : goal.returns-then-segments-eq0
returns-then-segments-eq0 c = rw c.if-segments-eq0.true

pub returns : goal.returns
returns c = rw (lt-ltb 0 c.args.segments (omega arith)) (omega arith)
