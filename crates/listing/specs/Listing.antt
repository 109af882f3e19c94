-- The listing: every line that the lister prints for a deck, a window file and the calls.
use Rattle.std.specs.Prelude.{cond, ◌||◌, List, [], ◌∷◌, map, ℕ, Result, Ok, Err}
use Rattle.common.specs.Lists.{concat}
use Rattle.common.specs.Refusal.{number}
use Rattle.common.specs.declared.refusal.Refusal.TheVariants.{FileLength}
use Rattle.deck.specs.declared.DeckRefusal.{DeckRefusal}
use Rattle.deck.specs.Deck.{read_deck, deck_transcripts}
use Rattle.lines.specs.Line.{refusal_line}
use Rattle.listing.specs.Calls.{lines_of}
use Rattle.listing.specs.WindowFile.{bad_window_file, bad_call_file, window_of}
use Rattle.listing.specs.Entries.{Entry, entry_line, entries}

-- 27 with record 0 where a file of an accepted deck is too long
abbrev pub opening_by : Result Unit DeckRefusal → List ℕ → List ℕ → Result Unit DeckRefusal
opening_by (Err e) window calls = Err e
opening_by (Ok x) window calls = cond (bad_window_file window || bad_call_file calls) (Err (record { refusal = FileLength; «record» = 0 })) (Ok x)

-- deck, then window, then calls are judged: whether they are listed
unfoldable pub opening : List ℕ → List ℕ → List ℕ → Result Unit DeckRefusal
opening deck window calls = opening_by (read_deck deck) window calls

-- the entries of each line of the calls
abbrev pub listed : List ℕ → List ℕ → List ℕ → List (List Entry)
listed deck window calls = entries (deck_transcripts deck) (window_of window) 1 (lines_of calls)

abbrev pub listing_by : Result Unit DeckRefusal → List (List Entry) → List (List ℕ)
listing_by (Err e) es = refusal_line 0 e.«record» (number e.refusal) ∷ []
listing_by (Ok x) es = map entry_line (concat es)

unfoldable pub listing : List ℕ → List ℕ → List ℕ → List (List ℕ)
listing deck window calls = listing_by (opening deck window calls) (listed deck window calls)

-- the bytes printed
abbrev pub printed : List ℕ → List ℕ → List ℕ → List ℕ
printed deck window calls = concat (listing deck window calls)
