use borrow.Author.Tests.{le-leb, lt-leb}
use Rattle.locate.proofs.place.downstream_place.Goals as goal

pub returns-then-d-flank : goal.returns-then-d-flank
returns-then-d-flank c = rw (le-leb c.args.d c.args.ranges.flank c.if-d-flank.true)

pub returns : goal.returns
returns c = rw (lt-leb c.args.d c.args.ranges.flank c.if-d-flank.false)
