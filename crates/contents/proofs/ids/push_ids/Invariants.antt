use Rattle.deck.specs.code.Table.{rows_left}
use Rattle.contents.proofs.Collecting.{Collected}
use Rattle.contents.proofs.ids.push_ids.Given as goal

abbrev pub invariant-loop-rows : goal.invariant-loop-rows
invariant-loop-rows l = Collected l.table l.initial.ids l.ids l.n l.yielded (rows_left l.rows-iterator)
