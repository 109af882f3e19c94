use Prim.Native.Nat.{◌+◌, ◌≤◌}
use mathlib.Core.Path.{◌≡◌}
use lib.ListN.{length}
use Rattle.deck.specs.code.Table.{rows_left}
use Rattle.pieces.specs.code.TableIndex.{Admits, index_rows, table_index}
use Rattle.pieces.proofs.index.index_table.Given as goal

abbrev pub invariant-loop-rows : goal.invariant-loop-rows
invariant-loop-rows l = record {
  sums_len : length l.index.sums ≡ 4096;
  room : l.index.count + length (rows_left l.rows-iterator) ≤ 4096;
  left : Admits l.table (rows_left l.rows-iterator);
  indexed : index_rows l.table l.index.count (rows_left l.rows-iterator) l.index ≡ table_index l.table;
}
