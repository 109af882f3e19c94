use Prim.Native.Nat.{◌<◌}
use native.Mathlib.Omega.{arith}
use Rattle.consequence.specs.Window.{window_of}
use Rattle.pieces.specs.code.TableIndex.{entry_at}
use Rattle.pieces.proofs.IndexTable.{IndexedAt}
use Rattle.pieces.proofs.Entries.{count_low, row_below, ready, entry_line_lem}
use Rattle.pieces.proofs.called.write_entry.Goals as goal
use Rattle.pieces.proofs.called.write_entry.Goals.{Start}

-- the transcript's place and its row lie in the columns
low : (b : Start) → b.args.entry < 4096
low b = let d = b.args.sources.deck in let h = count_low d.table.now d.index.now d.indexed in let l = b.requires in omega arith

below : (b : Start) → (entry_at b.args.sources.deck.index.now b.args.entry).row < 4096
below b = let d = b.args.sources.deck in row_below d.table.now d.index.now d.indexed d.admitted b.args.entry b.requires

indexed : (b : Start) → IndexedAt b.args.sources.deck.table.now (entry_at b.args.sources.deck.index.now b.args.entry) b.args.sources.deck.index.now.sums
indexed b = let d = b.args.sources.deck in ready d.table.now d.index.now d.indexed d.admitted b.args.entry b.requires

pub offset_bounds-deck-entry : goal.offset_bounds-deck-entry
offset_bounds-deck-entry c = let h = low (goal.at.offset_bounds-deck-entry c).Start in omega arith

pub bounds-deck-entry : goal.bounds-deck-entry
bounds-deck-entry c = low (goal.at.bounds-deck-entry c).Start

pub call_indexed-called-requires-clause-in_order : goal.call_indexed-called-requires-clause-in_order
call_indexed-called-requires-clause-in_order c = (indexed (goal.at.call_indexed-called-requires-clause-in_order c).Start).order

pub call_indexed-called-requires-clause-summed : goal.call_indexed-called-requires-clause-summed
call_indexed-called-requires-clause-summed c = (indexed (goal.at.call_indexed-called-requires-clause-summed c).Start).summed

pub offset_bounds-deck-from : goal.offset_bounds-deck-from
offset_bounds-deck-from c = let h = below (goal.at.offset_bounds-deck-from c).Start in let e = c.from.ensures in omega arith

pub bounds-deck-from : goal.bounds-deck-from
bounds-deck-from c = rw c.from.ensures (below (goal.at.bounds-deck-from c).Start)

pub returns : goal.returns
returns c =
    let d = c.args.sources.deck in
    let e = entry_line_lem d.table.now d.index.now d.indexed d.admitted c.args.entry c.requires (window_of c.args.sources.window.now) c.args.number c.args.call c.call_indexed-called.ensures in
    rw (← e) (rw (c.from.ensures, c.by_number.ensures) at c.write_called.ensures)
