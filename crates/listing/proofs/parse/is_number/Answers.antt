use mathlib.Core.Path.{sym, ◌∙◌}
use native.Mathlib.Omega.{arith}
use borrow.Author.Tests.{eqb-true, eqb-false, eq-eqb}
use lib.ListN.{length}
use Rattle.listing.proofs.Numbers.{number_empty, number_long, number_letter, number_one, number_more}
use Rattle.listing.proofs.parse.is_number.Goals as goal
use Rattle.listing.proofs.parse.is_number.Goals.{then-is_empty-via-then-is_empty, then-is_empty-via-else-is_empty+then-most-s, then-is_empty-via-else-is_empty+else-most-s+then-not-all_digits}

pub returns-then-is_empty : goal.returns-then-is_empty
returns-then-is_empty c =
    let a = c.args in
    elim c.then-is_empty.branch [
      | then-is_empty-via-then-is_empty w ↦ number_empty a.most a.s.now (eqb-true (length a.s.now) 0 (sym c.is_empty.ensures ∙ w.if-is_empty.true))
      | then-is_empty-via-else-is_empty+then-most-s w ↦ number_long a.most a.s.now w.if-most-s.true
      | then-is_empty-via-else-is_empty+else-most-s+then-not-all_digits w ↦ (let n = eqb-false (length a.s.now) 0 (sym c.is_empty.ensures ∙ w.if-is_empty.false) in number_letter a.most a.s.now (omega arith) (omega arith) (sym w.all_digits.ensures ∙ w.if-not-all_digits.true))
    ]

pub returns-then-s-eq1 : goal.returns-then-s-eq1
returns-then-s-eq1 c =
    let a = c.args in
    let e = c.if-s-eq1.true in
    rw (eq-eqb (length a.s.now) 1 e) (number_one a.most a.s.now e (omega arith) (sym c.all_digits.ensures ∙ c.if-not-all_digits.false))

pub returns-else-s-eq1 : goal.returns-else-s-eq1
returns-else-s-eq1 c =
    let a = c.args in
    let n = eqb-false (length a.s.now) 0 (sym c.is_empty.ensures ∙ c.if-is_empty.false) in
    let e = c.if-s-eq1.false in
    number_more a.most a.s.now (omega arith) (omega arith) (sym c.all_digits.ensures ∙ c.if-not-all_digits.false)
