use native.Mathlib.Omega.{arith}
use Rattle.deck.proofs.RowOrder.{first_low}
use Rattle.contents.proofs.Collecting.{collected_few, collected_more, collected_all}
use Rattle.contents.proofs.ids.push_ids.Goals as goal

pub offset_bounds-table-rows : goal.offset_bounds-table-rows
offset_bounds-table-rows c = let i = c.loop-rows.rows-iterator in let h = first_low i.table.now.kinds i.row c.in-Some.ensures.steps in omega arith

pub bounds-table-rows : goal.bounds-table-rows
bounds-table-rows c = let i = c.loop-rows.rows-iterator in first_low i.table.now.kinds i.row c.in-Some.ensures.steps

pub push-n-requires : goal.push-n-requires
push-n-requires c = let h = collected_few c.loop-rows.invariant in omega arith

pub loop-rows-preserved : goal.loop-rows-preserved
loop-rows-preserved c = collected_more c.loop-rows.invariant c.in-Some.ensures.steps c.push-n.ensures

pub returns : goal.returns
returns c = collected_all c.loop-rows.invariant c.in-None.ensures.steps.0
