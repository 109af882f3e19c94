use Prim.Native.Nat.{◌-◌}
use mathlib.Core.Path.{◌∙◌}
use native.Mathlib.Omega.{arith}
use lib.ListN.{length}
use borrow.Rule.Slice.PartMut.{same_len_mid}
use Rattle.consequence.specs.Window.{Window, window_of}
use Rattle.deck.specs.declared.Table.{Table}
use Rattle.pieces.specs.declared.TableIndex.{TableIndex}
use Rattle.pieces.proofs.Filling.{filling_none, filling_length, filling_low, filling_end}
use Rattle.pieces.proofs.Entries.{steps_end, entry_put, entry_left}
use Rattle.pieces.proofs.called.fill_called.Invariants.{steps}
use Rattle.pieces.proofs.called.fill_called.Goals as goal
use Rattle.pieces.proofs.called.fill_called.Goals.{Start}

abbrev table : Start → Table
table b = b.args.sources.deck.table.now

abbrev index : Start → TableIndex
index b = b.args.sources.deck.index.now

abbrev window : Start → Window
window b = window_of b.args.sources.window.now

pub loop-entry-init : goal.loop-entry-init
loop-entry-init c = let a = c.args in filling_none a.out.now (steps (table (goal.at.loop-entry-init c).Start) (window (goal.at.loop-entry-init c).Start) a.number a.call a.cursor.at a.cursor.entry)

pub slice_bounds-write_entry-count : goal.slice_bounds-write_entry-count
slice_bounds-write_entry-count c = filling_low c.loop-entry.invariant

pub slice_bounds-write_entry-start : goal.slice_bounds-write_entry-start
slice_bounds-write_entry-start c = let h = filling_low c.loop-entry.invariant in omega arith

pub shape_of-out-in_default : goal.shape_of-out-in_default
shape_of-out-in_default c =
    let l = c.loop-entry in
    let e = c.write_entry-written in
    same_len_mid l.filled (length l.out - l.filled) l.out e.new.out e.auto.out ∙ filling_length l.invariant

pub returns-in_default : goal.returns-in_default
returns-in_default c =
    let l = c.loop-entry in
    let e = c.write_entry-written in
    entry_left (table (goal.at.returns-in_default c).Start) (index (goal.at.returns-in_default c).Start) c.args.sources.deck.indexed (window (goal.at.returns-in_default c).Start) c.args.number c.args.call c.args.cursor.at l.entry (omega arith) l.invariant e.ensures.0 e.ensures.1 c.in_default.is

pub overflow_add-filled : goal.overflow_add-filled
overflow_add-filled c =
    let l = c.loop-entry in
    let e = c.write_entry-written in
    let f = entry_put (table (goal.at.overflow_add-filled c).Start) (index (goal.at.overflow_add-filled c).Start) c.args.sources.deck.indexed (window (goal.at.overflow_add-filled c).Start) c.args.number c.args.call c.args.cursor.at l.entry (omega arith) l.invariant e.ensures.0 e.ensures.1 c.in-Ok.is in
    let g = filling_low f in
    let h = same_len_mid l.filled (length l.out - l.filled) l.out e.new.out e.auto.out in
    let k = c.well_formed.1.1.1.1.0 in
    let j = filling_length l.invariant in
    omega arith

pub loop-entry-preserved : goal.loop-entry-preserved
loop-entry-preserved c =
    let l = c.loop-entry in
    let e = c.write_entry-written in
    entry_put (table (goal.at.loop-entry-preserved c).Start) (index (goal.at.loop-entry-preserved c).Start) c.args.sources.deck.indexed (window (goal.at.loop-entry-preserved c).Start) c.args.number c.args.call c.args.cursor.at l.entry (omega arith) l.invariant e.ensures.0 e.ensures.1 c.in-Ok.is

pub shape_of-out : goal.shape_of-out
shape_of-out c = filling_length c.loop-entry.invariant

pub returns : goal.returns
returns c =
    let l = c.loop-entry in
    filling_end l.invariant (steps_end (table (goal.at.returns c).Start) (index (goal.at.returns c).Start) c.args.sources.deck.indexed (window (goal.at.returns c).Start) c.args.number c.args.call c.args.cursor.at l.entry (omega arith))
