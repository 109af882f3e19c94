use mathlib.Core.Path.{◌≡◌, refl, ◌∙◌, ap}
use Prim.Native.Nat.{ℕ}
use native.Mathlib.Omega.{arith}
use lib.ListN.{length, length-replicate}
use Rattle.deck.specs.code.Table.{rows_left, transcript_rows, InOrder}
use Rattle.deck.proofs.RowOrder.{rows_ordered, rows_few}
use Rattle.pieces.specs.code.TableIndex.{empty_index}
use Rattle.pieces.proofs.WholeIndex.{index_on}
use Rattle.pieces.proofs.index.index_table.Goals as goal
use Rattle.pieces.proofs.index.index_table.Goals.{In-Some}

order : (c : In-Some) → InOrder c.in-Some.rows
order c = let i = c.loop-rows.rows-iterator in rows_ordered i.table.now.kinds i.row c.in-Some.ensures.steps

pub loop-rows-init : goal.loop-rows-init
unfolding empty_index
loop-rows-init c =
    let t = c.args.table.now in
    let s : rows_left c.into_iter-rows-iterator.result ≡ transcript_rows t = ap rows_left c.into_iter-rows-iterator.ensures.into_iter_gives ∙ c.transcripts-rows-items.ensures in
    let f = rows_few 4096 t.kinds 0 in
    rw (c.requires.index_before, s) (record { sums_len = length-replicate {A = ℕ} 4096 0; room = omega arith; left = c.requires.all_admitted; indexed = refl })

pub index_row-short-requires-clause-in_order : goal.index_row-short-requires-clause-in_order
index_row-short-requires-clause-in_order c = order (goal.at.index_row-short-requires-clause-in_order c).In-Some

pub of-requires : goal.of-requires
of-requires c = order (goal.at.of-requires c).In-Some

pub loop-rows-preserved : goal.loop-rows-preserved
loop-rows-preserved c =
    let l = c.loop-rows in
    let e = c.in-Some.ensures.steps in
    let i = c.index_row-short in
    record {
      sums_len = i.auto.sums ∙ l.invariant.sums_len;
      room = (let n = ap length e in let m = l.invariant.room in omega arith);
      left = (let a = rw e at l.invariant.left in a.1);
      indexed = rw c.of.ensures (index_on c.args.table.now e l.index.count l.index i.ensures.0 i.ensures.1) ∙ l.invariant.indexed;
    }
