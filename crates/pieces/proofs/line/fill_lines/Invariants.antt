use Prim.Native.Nat.{◌+◌, ◌-◌, ◌≤◌}
use lib.ListN.{length}
use Rattle.deck.specs.code.Table.{table_transcripts}
use Rattle.listing.specs.WindowFile.{window_of}
use Rattle.listing.specs.Pieces.{pack}
use Rattle.pieces.proofs.Filling.{Filling}
use Rattle.pieces.proofs.CallLines.{lines_from}
use Rattle.pieces.proofs.line.fill_lines.Given as goal

abbrev pub invariant-loop-at : goal.invariant-loop-at
invariant-loop-at l = Filling l.initial.out l.out l.filled (lines_from (table_transcripts l.deck.table.now) (window_of l.files.window.now) l.files.calls.now l.number l.at l.entry) (pack (length l.initial.out) (lines_from (table_transcripts l.deck.table.now) (window_of l.files.window.now) l.files.calls.now l.initial.number l.initial.at l.initial.entry))
    × (l.number + (length l.files.calls.now - l.at) ≤ 65537)

abbrev pub decreases-loop-at : goal.decreases-loop-at
decreases-loop-at l = length l.files.calls.now - l.at
