use native.Mathlib.Omega.{arith}
use Rattle.common.proofs.Stored.{pushed_on}
use Rattle.lines.proofs.AnswerLine.{front_parts}
use Rattle.lines.proofs.answer.push_front.Goals as goal

pub returns : goal.returns
returns c = record { pushed = rw (front_parts c.args.number c.args.id c.args.place) at (pushed_on (pushed_on (pushed_on (pushed_on c.push_number-a.ensures.pushed c.push_number-b.ensures.pushed) c.push_number-c.ensures.pushed) (rw c.place_name.ensures.name at c.push_bytes-d.ensures)) c.push.ensures); upper_bound = omega (arith, c.push_number-a.ensures.upper_bound, c.push_number-b.ensures.upper_bound, c.push_number-c.ensures.upper_bound, c.push_bytes-d.ensures.behind, c.place_name.ensures.upper_bound, c.push.ensures.behind) }
