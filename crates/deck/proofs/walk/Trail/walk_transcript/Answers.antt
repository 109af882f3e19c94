use native.Mathlib.Omega.{arith}
use Rattle.std.proofs.lemmas.Result.{err_from_is_err_and}
use Rattle.deck.proofs.Walking.{before_bad, inner_start, inner_fewer, inner_step}
use Rattle.deck.proofs.walk.Trail.walk_transcript.Goals as goal

pub returns-in_err-follow : goal.returns-in_err-follow
returns-in_err-follow c =
    let a = c.args in
    let p = err_from_is_err_and c.from_residual.result c.from_residual.ensures.1 in
    let e = c.in_err-follow.ensures {u = tt} in
    rw (p.1, p.2, e.1) (before_bad a.d.bytes.now a.self.now a.from a.t c.requires.before c.requires.linked e.0)

pub loop-link-init : goal.loop-link-init
loop-link-init c =
    let a = c.args in
    let e = c.in_ok-follow.ensures {u = tt} in
    rw (c.exon_link-link.ensures, c.link.ensures, e.1) (inner_start a.d.bytes.now a.self.now a.from a.t c.requires.before c.requires.linked (omega arith) e.0)

pub loop-link-smaller : goal.loop-link-smaller
loop-link-smaller c =
    let a = c.args in
    let l = c.loop-link in
    let e = c.in_ok-follow-2.ensures {u = tt} in
    let f = inner_fewer a.d.bytes.now a.t a.self.now l.self l.b l.link l.invariant c.loop-link-test.true (omega arith) e.0 in
    rw e.1 (omega arith)

pub loop-link-preserved : goal.loop-link-preserved
loop-link-preserved c =
    let a = c.args in
    let l = c.loop-link in
    let e = c.in_ok-follow-2.ensures {u = tt} in
    rw (c.next_link-link.ensures, c.bounds_after-b.ensures, e.1)
    (inner_step a.d.bytes.now a.t a.self.now l.self l.b l.link l.invariant c.loop-link-test.true (omega arith) e.0)
