-- The table is that of the names: antt compares the two.
use Rattle.std.proofs.Common.{rules, sym, ◌≢◌, ◌-◌, ◌<◌, arith}
use Rattle.names.specs.Names.{term_names}
use Rattle.names.proofs.Names.{nameless, name_in}
use Rattle.names.proofs.term_name.Goals as goal

pub returns-then-rank-gt28 : goal.returns-then-rank-gt28
returns-then-rank-gt28 c = sym (nameless c.args.rank (λ p. omega arith))

pub returns-else-rank-gt28 : goal.returns-else-rank-gt28
unfolding term_names
returns-else-rank-gt28 c =
    let n : c.args.rank ≢ 0 = λ e. omega arith in
    let l : c.args.rank - 1 < 28 = omega arith in
    search (rules, name_in)
