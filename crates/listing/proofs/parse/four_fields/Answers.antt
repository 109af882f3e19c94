use Rattle.listing.proofs.Fields.{five_fields}
use Rattle.listing.proofs.parse.four_fields.Goals as goal

pub returns-in-Some : goal.returns-in-Some
returns-in-Some c = five_fields c.args.line.now c.in_ok-first.rest.now c.in_ok-second.rest.now c.in_ok-third.fourth.now c.in-Some.field-0.1.now c.in_ok-first.ensures c.in_ok-second.ensures c.in_ok-third.ensures c.in-Some.ensures
