-- Each return is one law of `digits`.
use Rattle.std.proofs.Common.{◌-◌, ◌/◌, arith}
use Rattle.common.proofs.Stored.{pushed_none, pushed_on}
use Rattle.common.proofs.Digits.{digits_none, digits_last, digits_more, digits_length}
use Rattle.common.proofs.text.+push_digits.Goals as goal

pub returns-then-places-eq0 : goal.returns-then-places-eq0
returns-then-places-eq0 t c = rw (digits_none c.args.places c.args.n c.if-places-eq0.true) (pushed_none c.args.out.now c.args.at)

pub returns-then-n-lt10 : goal.returns-then-n-lt10
returns-then-n-lt10 t c = rw (digits_last c.args.places c.args.n (omega arith) (omega arith)) c.push.ensures

pub push-requires-2 : goal.push-requires-2
push-requires-2 t c =
    let e = c.push_digits-to.ensures.behind in
    let l = digits_length (c.args.places - 1) (c.args.n / 10) in
    omega arith

pub returns : goal.returns
returns t c = rw (digits_more c.args.places c.args.n (omega arith) (omega arith)) (pushed_on c.push_digits-to.ensures c.push-2.ensures)
