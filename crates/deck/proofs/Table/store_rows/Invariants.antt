use mathlib.Core.Path.{◌≡◌}
use Rattle.deck.proofs.Columned.{first_rows}
use Rattle.deck.proofs.Table.store_rows.Given as goal

abbrev pub invariant-loop-k : goal.invariant-loop-k
invariant-loop-k l = l.self ≡ first_rows l.d l.order l.k
