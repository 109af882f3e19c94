use Rattle.pieces.proofs.parsed.fill_parsed.Goals as goal

pub returns-in-Some : goal.returns-in-Some
returns-in-Some c = rw c.in-Some.is c.fill_called.ensures

pub returns-in-None : goal.returns-in-None
returns-in-None c = rw c.in-None.is c.fill_malformed.ensures
