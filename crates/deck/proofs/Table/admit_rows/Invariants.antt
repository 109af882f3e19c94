use mathlib.Core.Path.{◌≡◌}
use Rattle.deck.specs.code.Table.{rows_left, admit_rows, admit_table}
use Rattle.deck.proofs.Table.admit_rows.Given as goal

abbrev pub invariant-loop-rows : goal.invariant-loop-rows
invariant-loop-rows l = admit_rows l.order l.self (rows_left l.rows-iterator) ≡ admit_table l.order l.self
