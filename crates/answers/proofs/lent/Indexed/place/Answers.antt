use Rattle.answers.proofs.Indexed.{exons_indexed}
use Rattle.answers.proofs.lent.Indexed.place.Goals as goal

pub place_of_base-requires-clause-indexed : goal.place_of_base-requires-clause-indexed
place_of_base-requires-clause-indexed c = exons_indexed c.args.self
