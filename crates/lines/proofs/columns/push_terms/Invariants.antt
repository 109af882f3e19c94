use Rattle.terms.specs.Terms.{ranks}
use Rattle.lines.proofs.TermList.{Naming}
use Rattle.lines.proofs.columns.push_terms.Given as goal

abbrev pub invariant-loop-rank : goal.invariant-loop-rank
invariant-loop-rank l = Naming l.initial.out l.initial.to (ranks l.initial.rank-iterator.0.0) l.out l.to l.yielded (ranks l.rank-iterator.0.0)
