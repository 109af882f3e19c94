use Rattle.std.proofs.Common.{Some}
use native.Mathlib.Omega.{arith}
use Rattle.common.proofs.Stored.{pushed_on}
use Rattle.common.proofs.Digits.{digits_length}
use Rattle.lines.proofs.Longest.{numbered_length}
use Rattle.lines.proofs.columns.push_numbered.Goals as goal

pub push-after-requires : goal.push-after-requires
push-after-requires c = omega (arith, digits_length 20 c.in-Some.n.number, c.push_decimal-slash.ensures.behind)

pub push_decimal-requires : goal.push_decimal-requires
push_decimal-requires c = omega (arith, digits_length 20 c.in-Some.n.number, c.push_decimal-slash.ensures.behind, c.push-after.ensures.behind)

pub returns-in-None : goal.returns-in-None
returns-in-None c = record { pushed = rw c.in-None.is c.push.ensures; upper_bound = omega arith }

pub returns-in-Some : goal.returns-in-Some
returns-in-Some c =
    let p = pushed_on c.push_decimal-slash.ensures (pushed_on c.push-after.ensures c.push_decimal.ensures) in
    let b = p.behind in
    let l = numbered_length (Some c.in-Some.n) in
    record { pushed = rw c.in-Some.is p; upper_bound = omega arith }
