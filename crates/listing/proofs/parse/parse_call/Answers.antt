use mathlib.Core.Path.{refl, sym, ◌∙◌}
use native.Mathlib.Omega.{arith}
use lib.ListN.{get_or}
use Rattle.common.proofs.TestParts.{true_false}
use Rattle.listing.specs.Calls.{is_number, value, call_of}
use Rattle.listing.specs.code.Fields.{is_base, is_last_base}
use Rattle.listing.proofs.Fields.{test_failed, test_passed, tests, tested, malformed, wellformed, other_count}
use Rattle.listing.proofs.Numbers.{value_below}
use Rattle.listing.proofs.parse.parse_call.Goals as goal

pub returns-in_err-chromosome : goal.returns-in_err-chromosome
returns-in_err-chromosome c =
    let s = c.args.line.now in
    rw c.from_residual.ensures (malformed s refl (other_count s c.in_err-chromosome.ensures))

pub returns-in_err-chromosome-2 : goal.returns-in_err-chromosome-2
returns-in_err-chromosome-2 c =
    let f = c.in_ok-chromosome in
    let e = test_failed (value f.chromosome.now) (is_number 3 f.chromosome.now) (sym c.in_err-chromosome-2.ensures) in
    rw c.from_residual-in_err-chromosome-2.ensures (malformed c.args.line.now f.ensures (λ h. true_false (sym (tests f.chromosome.now f.position.now f.reference.now f.altered.now h).0 ∙ e)))

pub returns-in_err-position : goal.returns-in_err-position
returns-in_err-position c =
    let f = c.in_ok-chromosome in
    let e = test_failed (value f.position.now) (is_number 19 f.position.now) (sym c.in_err-position.ensures) in
    rw c.from_residual-in_err-position.ensures (malformed c.args.line.now f.ensures (λ h. true_false (sym (tests f.chromosome.now f.position.now f.reference.now f.altered.now h).1 ∙ e)))

pub returns-in_err-ref_base : goal.returns-in_err-ref_base
returns-in_err-ref_base c =
    let f = c.in_ok-chromosome in
    let e = test_failed (get_or f.reference.now 0 0) (is_base f.reference.now) (sym c.in_err-ref_base.ensures) in
    rw c.from_residual-in_err-ref_base.ensures (malformed c.args.line.now f.ensures (λ h. true_false (sym (tests f.chromosome.now f.position.now f.reference.now f.altered.now h).2 ∙ e)))

pub returns-in_err-alt_base : goal.returns-in_err-alt_base
returns-in_err-alt_base c =
    let f = c.in_ok-chromosome in
    let e = test_failed (get_or f.altered.now 0 0) (is_last_base f.altered.now) (sym c.in_err-alt_base.ensures) in
    rw c.from_residual-in_err-alt_base.ensures (malformed c.args.line.now f.ensures (λ h. true_false (sym (tests f.chromosome.now f.position.now f.reference.now f.altered.now h).3 ∙ e)))

pub overflow_cast-result : goal.overflow_cast-result
overflow_cast-result c =
    let s = c.in_ok-chromosome.chromosome.now in
    let p = test_passed (value s) (is_number 3 s) (sym c.in_ok-chromosome-2.ensures) in
    let h = value_below 3 s p.0 in
    let e = p.1 in
    omega arith

pub returns : goal.returns
unfolding call_of
returns c =
    let f = c.in_ok-chromosome in
    let a = test_passed (value f.chromosome.now) (is_number 3 f.chromosome.now) (sym c.in_ok-chromosome-2.ensures) in
    let b = test_passed (value f.position.now) (is_number 19 f.position.now) (sym c.in_ok-position.ensures) in
    let r = test_passed (get_or f.reference.now 0 0) (is_base f.reference.now) (sym c.in_ok-ref_base.ensures) in
    let d = test_passed (get_or f.altered.now 0 0) (is_last_base f.altered.now) (sym c.in_ok-alt_base.ensures) in
    rw (← a.1, ← b.1, ← r.1, ← d.1) (wellformed c.args.line.now f.ensures (tested f.chromosome.now f.position.now f.reference.now f.altered.now a.0 b.0 r.0 d.0))
