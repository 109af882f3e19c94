-- The set without its most severe term has the ranks behind the first.
use Rattle.std.proofs.Common.{◌∷◌, ◌≡◌, ap, length, sym, ◌∙◌, rules, arith}
use Rattle.terms.specs.Terms.{ranks}
use Rattle.terms.proofs.RankLists.{first_more}
use Rattle.terms.proofs.ranks.RanksIterator.next.Goals as goal
use Rattle.terms.proofs.ranks.RanksIterator.next.Goals.{After-self-1}

next_ranks : (c : After-self-1) → ranks c.args.self.now.0.0 ≡ c.in_ok-rank.rank ∷ ranks c.rest-self.result.0
next_ranks c =
    rw c.rest-self.ensures.ranks
    (first_more (ranks c.args.self.now.0.0) c.in_ok-rank.rank (sym c.most_severe.ensures ∙ c.in_ok-rank.was))

pub returns-clause-steps : goal.returns-clause-steps
returns-clause-steps c = next_ranks c

pub returns-clause-goes : goal.returns-clause-goes
returns-clause-goes c = let e = next_ranks c in let n = ap length e in search (rules, arith)
