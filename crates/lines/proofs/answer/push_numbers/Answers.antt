use Rattle.common.specs.Stored.{Pushed}
use native.Mathlib.Omega.{arith}
use Rattle.common.proofs.Stored.{pushed_on, pushed_length}
use Rattle.lines.specs.code.Columns.{number_columns}
use Rattle.lines.proofs.answer.push_numbers.Goals as goal
use Rattle.lines.proofs.answer.push_numbers.Goals.{After-slice_known-11-1}

-- the columns one behind the other
written : (c : After-slice_known-11-1)
    → Pushed c.args.out.now c.args.at (number_columns c.args.x) c.push.new.out c.push.result
unfolding number_columns
written c =
    pushed_on c.push_numbered-a.ensures.pushed (pushed_on c.push-b.ensures (pushed_on c.push_numbered-c.ensures.pushed (pushed_on c.push-d.ensures
    (pushed_on c.push_counted-e.ensures.pushed (pushed_on c.push-f.ensures (pushed_on c.push_cdna-g.ensures.pushed (pushed_on c.push-h.ensures
    (pushed_on c.push_counted-i.ensures.pushed c.push.ensures))))))))

pub push_counted-i-requires : goal.push_counted-i-requires
push_counted-i-requires c = omega (arith, c.push-h.ensures.behind, c.push_cdna-g.ensures.upper_bound, c.push-f.ensures.behind, c.push_counted-e.ensures.upper_bound, c.push-d.ensures.behind, c.push_numbered-c.ensures.upper_bound, c.push-b.ensures.behind, c.push_numbered-a.ensures.upper_bound, c.requires)

pub push-requires : goal.push-requires
push-requires c = omega (arith, c.push_counted-i.ensures.upper_bound, c.push-h.ensures.behind, c.push_cdna-g.ensures.upper_bound, c.push-f.ensures.behind, c.push_counted-e.ensures.upper_bound, c.push-d.ensures.behind, c.push_numbered-c.ensures.upper_bound, c.push-b.ensures.behind, c.push_numbered-a.ensures.upper_bound, c.requires)

pub shape_of-out : goal.shape_of-out
shape_of-out c = pushed_length (written (goal.at.shape_of-out c).After-slice_known-11-1)

pub returns : goal.returns
returns c = record { pushed = written (goal.at.returns c).After-slice_known-11-1; upper_bound = omega (arith, c.push.ensures.behind, c.push_counted-i.ensures.upper_bound, c.push-h.ensures.behind, c.push_cdna-g.ensures.upper_bound, c.push-f.ensures.behind, c.push_counted-e.ensures.upper_bound, c.push-d.ensures.behind, c.push_numbered-c.ensures.upper_bound, c.push-b.ensures.behind, c.push_numbered-a.ensures.upper_bound) }
