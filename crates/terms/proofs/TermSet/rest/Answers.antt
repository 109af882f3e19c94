-- The lowest bit is taken away.
use Rattle.std.proofs.Common.{ap, ◌∙◌, ◌≡◌, ◌-◌, ◌*◌, ◌^◌, ◌%◌, arith}
use lib.Count.{count_trailing_zeros}
use borrow.Author.Tests.{ne_eqb}
use Rattle.terms.specs.Terms.{ranks, without_first}
use Rattle.terms.proofs.Bit.{bit_is}
use Rattle.terms.proofs.RankLists.{Lowest, lowest, severe_is, ranks_rest}
use Rattle.terms.proofs.TermSet.rest.Goals as goal
use Rattle.terms.proofs.TermSet.rest.Goals.{Else-s-eq0}

bottom : (c : Else-s-eq0) → Lowest 32 1 c.args.self.0
bottom c = lowest 32 1 c.args.self.0 (omega arith) (omega arith)

pub overflow_sub-result : goal.overflow_sub-result
overflow_sub-result c =
    let b = bottom (goal.at.overflow_sub-result c).Else-s-eq0 in
    let e = bit_is (count_trailing_zeros 32 c.args.self.0) b.inside in
    omega arith

pub returns-then-s-eq0 : goal.returns-then-s-eq0
unfolding without_first
returns-then-s-eq0 c =
    let e : c.args.self.0 ≡ without_first c.args.self.0 = rw c.if-s-eq0.true in
    record { set = e; ranks = ap ranks e ∙ ranks_rest c.args.self.0 (omega arith) }

pub returns-else-s-eq0 : goal.returns-else-s-eq0
unfolding without_first
returns-else-s-eq0 c =
    let s = c.args.self.0 in
    let b = bottom (goal.at.returns-else-s-eq0 c).Else-s-eq0 in
    let e : s - 1 * 2 ^ count_trailing_zeros 32 s % 2 ^ 32 ≡ without_first s =
    rw (bit_is (count_trailing_zeros 32 s) b.inside, ne_eqb s 0 c.if-s-eq0.false, severe_is s (omega arith) (omega arith)) in
    record { set = e; ranks = ap ranks e ∙ ranks_rest s (omega arith) }
