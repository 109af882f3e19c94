use mathlib.Core.Path.{◌≡◌}
use lib.ListN.{drop}
use Rattle.listing.specs.Calls.{value, value_from}
use Rattle.listing.proofs.parse.number_of.Given as goal

abbrev pub invariant-loop-b : goal.invariant-loop-b
invariant-loop-b l = value_from l.n (drop l.b-index l.s) ≡ value l.s
