use Prim.Native.Nat.{◌%◌}
use borrow.Author.Tests.{ne_eqb}
use Rattle.consequence.proofs.reading.is_incomplete_terminal_codon.Goals as goal

pub returns-then-over-eq0 : goal.returns-then-over-eq0
returns-then-over-eq0 c = rw c.if-over-eq0.true

pub returns : goal.returns
returns c = rw (ne_eqb (c.args.total % 3) 0 c.if-over-eq0.false)
