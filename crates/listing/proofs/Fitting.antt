-- Every line of a listing has a byte, and fits into the longest line's room.
-- Assumes nothing.
use Prim.Native.Nat.{ℕ, suc, ◌+◌, ◌≤◌}
use mathlib.Core.List.{List, [], ◌∷◌, ◌++◌}
use lib.ListN.{length, drop}
use Rattle.transcript.specs.Transcript.{Transcript}
use Rattle.consequence.specs.Window.{Window}
use Rattle.deck.specs.Deck.{deck_transcripts}
use Rattle.lines.proofs.Longest.{longest_line, line_some}
use Rattle.std.specs.Prelude.{Result, Ok, Err}
use Rattle.deck.specs.declared.DeckRefusal.{DeckRefusal}
use Rattle.listing.specs.declared.Cursor.{Cursor}
use Rattle.listing.specs.Calls.{lines_of, parse_call}
use Rattle.listing.specs.WindowFile.{window_of}
use Rattle.listing.specs.Listing.{opening}
use Rattle.listing.specs.Entries.{Entry, entry_line, call_entries}
use Rattle.listing.specs.Pieces.{Step, call_steps, steps_from, line_number, steps_by, steps}
use Rattle.listing.specs.claims.Numbers.{Each}
use Rattle.listing.specs.claims.Whole.{LongestEntry}
use Rattle.listing.proofs.NumbersGiven.{each_both}

abbrev pub Fitting : Step → Type 0
Fitting s = (1 ≤ length s.text) × (length s.text ≤ 1553)

pub each_at : {A : Type 0} (so : A → Type 0) (pre : List A) (x : A) (post : List A) → Each so (pre ++ (x ∷ post)) → so x
each_at so [] x post h = h.0
each_at so (y ∷ pre) x post h = each_at so pre x post h.1

pub longest_entry : LongestEntry
longest_entry e = longest_line e.number e.id e.answer

some : (e : Entry) → 1 ≤ length (entry_line e)
some e = line_some e.number e.id e.answer

call_fits : (at k : ℕ) (es : List Entry) → Each Fitting (call_steps at k es)
call_fits at k [] = tt
call_fits at k (e ∷ es) = ((some e, longest_entry e), call_fits at (suc k) es)

lines_fit : (ts : List Transcript) (w : Window) (number at k : ℕ) (ls : List (List ℕ)) → Each Fitting (steps_from ts w number at k ls)
unfolding steps_from
lines_fit ts w number at k [] = tt
lines_fit ts w number at k (l ∷ ls) =
    each_both Fitting (call_steps at k (drop k (call_entries ts w number (parse_call l)))) (steps_from ts w (suc number) (at + length l) 0 ls)
    (call_fits at k (drop k (call_entries ts w number (parse_call l)))) (lines_fit ts w (suc number) (at + length l) 0 ls)

by : (o : Result Unit DeckRefusal) (deck window calls : List ℕ) (c : Cursor) → Each Fitting (steps_by o deck window calls c)
by (Err r) deck window calls c =
    let e : Entry = record { number = 0; id = r.«record»; answer = Err r.refusal } in
    ((some e, longest_entry e), tt)
by (Ok x) deck window calls c =
    lines_fit (deck_transcripts deck) (window_of window) (line_number calls c.at) c.at c.entry (lines_of (drop c.at calls))

pub steps_fit : (deck window calls : List ℕ) (c : Cursor) → Each Fitting (steps deck window calls c)
unfolding steps
steps_fit deck window calls c = by (opening deck window calls) deck window calls c
