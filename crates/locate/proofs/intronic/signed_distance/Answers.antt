use mathlib.Core.Path.{◌∙◌}
use native.Mathlib.Omega.{arith}
use Rattle.locate.proofs.Introns.{is_plus, is_minus}
use Rattle.locate.proofs.Signed.{counted, minus_fits, minus_is}
use Rattle.locate.proofs.intronic.signed_distance.Goals as goal

pub overflow_sub-result : goal.overflow_sub-result
overflow_sub-result c = let d = c.args.distances in let w = d.low in minus_fits d.acceptor (omega arith)

pub returns-then-d-a : goal.returns-then-d-a
returns-then-d-a c = let x = c.args in let d = x.distances in let w = d.low in counted d.donor (omega arith) ∙ is_plus d.donor d.acceptor (omega arith)

pub returns-else-d-a : goal.returns-else-d-a
returns-else-d-a c = let x = c.args in let d = x.distances in let w = d.low in minus_is d.acceptor (omega arith) ∙ is_minus d.donor d.acceptor (omega arith)
