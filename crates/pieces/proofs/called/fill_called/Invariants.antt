use Prim.Native.Nat.{ℕ}
use mathlib.Core.List.{List}
use lib.ListN.{length, drop}
use Rattle.consequence.specs.declared.Call.{Call}
use Rattle.consequence.specs.Window.{Window, window_of}
use Rattle.deck.specs.declared.Table.{Table}
use Rattle.deck.specs.code.Table.{table_transcripts}
use Rattle.std.specs.Prelude.{Some}
use Rattle.listing.specs.Entries.{call_entries}
use Rattle.listing.specs.Pieces.{Step, call_steps, pack}
use Rattle.pieces.proofs.Filling.{Filling}
use Rattle.pieces.proofs.called.fill_called.Given as goal

-- the lines of a call from an entry on
abbrev pub steps : Table → Window → ℕ → Call → ℕ → ℕ → List Step
steps t w number q at k = call_steps at k (drop k (call_entries (table_transcripts t) w number (Some q)))

abbrev pub invariant-loop-entry : goal.invariant-loop-entry
invariant-loop-entry l = Filling l.initial.out l.out l.filled (steps l.sources.deck.table.now (window_of l.sources.window.now) l.number l.call l.at l.entry) (pack (length l.initial.out) (steps l.sources.deck.table.now (window_of l.sources.window.now) l.number l.call l.at l.fn.cursor.entry))
