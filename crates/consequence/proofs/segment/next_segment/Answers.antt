use Prim.Native.Nat.{◌+◌}
use lib.ListN.{get_or}
use native.Mathlib.Omega.{arith}
use borrow.Author.Tests.{lt-ltb, le-ltb}
use Rattle.consequence.proofs.segment.next_segment.Goals as goal

pub returns-then-k-sums : goal.returns-then-k-sums
returns-then-k-sums c = let a = c.args in rw (lt-ltb a.k (get_or a.sums.now (a.i + 1) 0) (omega arith))

pub returns : goal.returns
returns c = let a = c.args in rw (le-ltb a.k (get_or a.sums.now (a.i + 1) 0) (omega arith))
