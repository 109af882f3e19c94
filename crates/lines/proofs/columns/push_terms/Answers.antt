-- The first rank's name, and behind it those of the others, each behind a comma.
use Rattle.std.proofs.Common.{◌≡◌, ◌∷◌, sym, ◌∙◌, ap, arith}
use Rattle.common.specs.Stored.{Pushed}
use Rattle.common.proofs.Stored.{pushed_on}
use Rattle.names.proofs.Names.{name_short}
use Rattle.terms.specs.declared.ranks.Ranks.{Ranks}
use Rattle.terms.specs.Terms.{ranks}
use Rattle.lines.specs.Line.{term_list}
use Rattle.lines.proofs.TermList.{few_ranks, near, named_next, named_all, no_terms, some_terms, terms_length}
use Rattle.lines.proofs.columns.push_terms.Goals as goal
use Rattle.lines.proofs.columns.push_terms.Goals.{In-None}

pub returns-in_default-clause-pushed : goal.returns-in_default-clause-pushed
returns-in_default-clause-pushed c =
    rw (no_terms c.args.set.0 (ap ranks (sym c.ranks-ranks.ensures) ∙ c.in_default.ensures.steps.0)) c.push.ensures

pub push_next-to-requires : goal.push_next-to-requires
push_next-to-requires c =
    let p = c.push_name-to.ensures.behind in
    let n = name_short c.in-Some.first in
    let m = near c.loop-rank.invariant (few_ranks 32 1 c.into_iter-rank-iterator.result.0.0) in
    omega arith

pub loop-rank-preserved : goal.loop-rank-preserved
loop-rank-preserved c = named_next c.loop-rank.invariant c.in-Some-rank.ensures.steps c.push_next-to.ensures

all_pushed : (c : In-None) → Pushed c.args.out.now c.args.at (term_list c.args.set.0) c.loop-rank.out c.loop-rank.to
all_pushed c =
    let first = c.in-Some.first in
    let e : ranks c.args.set.0 ≡ first ∷ ranks c.into_iter-rank-iterator.result.0.0 =
    ap ranks (sym c.ranks-ranks.ensures) ∙ c.in-Some.ensures.steps
    ∙ ap (λ (r : Ranks). first ∷ ranks r.0.0) (sym c.into_iter-rank-iterator.ensures.into_iter_gives) in
    rw (some_terms c.args.set.0 first (ranks c.into_iter-rank-iterator.result.0.0) e)
    (pushed_on c.push_name-to.ensures (named_all c.loop-rank.invariant c.in-None.ensures.steps.0))

pub returns : goal.returns
returns c =
    let q = all_pushed c in
    let b = q.behind in
    let t = terms_length c.args.set.0 in
    record { pushed = q; upper_bound = omega arith }
