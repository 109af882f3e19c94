use native.Mathlib.Omega.{arith}
use Rattle.common.proofs.Stored.{pushed_on}
use Rattle.common.proofs.Digits.{digits_length}
use Rattle.lines.proofs.line.push_number.Goals as goal

pub push-requires : goal.push-requires
push-requires c = omega (arith, digits_length 20 c.args.n, c.push_decimal-to.ensures.behind)

pub returns : goal.returns
returns c = record { pushed = pushed_on c.push_decimal-to.ensures c.push.ensures; upper_bound = omega (arith, digits_length 20 c.args.n, c.push_decimal-to.ensures.behind, c.push.ensures.behind) }
