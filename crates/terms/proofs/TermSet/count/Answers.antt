-- There are as many ranks as ones.
use native.Mathlib.Omega.{arith}
use Rattle.terms.proofs.RankLists.{rank_count}
use Rattle.terms.proofs.TermSet.count.Goals as goal

pub returns : goal.returns
returns c = rank_count 32 1 c.args.self.0 (omega arith)
