-- The listing in pieces: as many whole lines as fit into a lent buffer, from a cursor on.
use Rattle.std.specs.Prelude.{ℕ, suc, ◌+◌, ◌-◌, cond, List, [], ◌∷◌, ◌++◌, length, take, drop, leb, eqb, count_by, Option, Some, None, Result, Ok, Err}
use Rattle.common.specs.declared.refusal.Refusal.{Refusal}
use Rattle.common.specs.declared.refusal.Refusal.TheVariants.{LineLength}
use Rattle.transcript.specs.Transcript.{Transcript}
use Rattle.consequence.specs.Window.{Window}
use Rattle.common.specs.Refusal.{number}
use Rattle.deck.specs.declared.DeckRefusal.{DeckRefusal}
use Rattle.deck.specs.Deck.{deck_transcripts}
use Rattle.lines.specs.Line.{newline, refusal_line}
use Rattle.listing.specs.declared.Cursor.{Cursor}
use Rattle.listing.specs.declared.Piece.{Piece}
use Rattle.listing.specs.Calls.{lines_of, parse_call}
use Rattle.listing.specs.WindowFile.{window_of}
use Rattle.listing.specs.Entries.{Entry, entry_line, call_entries}
use Rattle.listing.specs.Listing.{opening}

-- a line, and the cursor before it
pub record Step : Type 0 where
  pub before : Cursor
  pub text : List ℕ

-- the lines of entries of the call at a byte, of which k are behind
abbrev pub call_steps : ℕ → ℕ → List Entry → List Step
call_steps at k [] = []
call_steps at k (e ∷ es) = record { before = record { at = at; entry = k }; text = entry_line e } ∷ call_steps at (suc k) es

-- of the calls that stand from a byte on: the first has the number given, and k of its entries are behind
unfoldable pub steps_from : List Transcript → Window → ℕ → ℕ → ℕ → List (List ℕ) → List Step
steps_from ts w number at k [] = []
steps_from ts w number at k (l ∷ ls) =
    call_steps at k (drop k (call_entries ts w number (parse_call l))) ++ steps_from ts w (suc number) (at + length l) 0 ls

abbrev pub newlines : List ℕ → ℕ
newlines bs = count_by (λ b. eqb b newline) bs

-- the number of the line that begins at a byte of the calls
abbrev pub line_number : List ℕ → ℕ → ℕ
line_number calls at = suc (newlines (take at calls))

abbrev pub steps_at : List Transcript → Window → List ℕ → Cursor → List Step
steps_at ts w calls c = steps_from ts w (line_number calls c.at) c.at c.entry (lines_of (drop c.at calls))

abbrev pub steps_by : Result Unit DeckRefusal → List ℕ → List ℕ → List ℕ → Cursor → List Step
steps_by (Err e) deck window calls c = record { before = c; text = refusal_line 0 e.«record» (number e.refusal) } ∷ []
steps_by (Ok x) deck window calls c = steps_at (deck_transcripts deck) (window_of window) calls c

-- the lines of the listing from a cursor on; where deck, window or calls are refused, the line of the refusal
unfoldable pub steps : List ℕ → List ℕ → List ℕ → Cursor → List Step
steps deck window calls c = steps_by (opening deck window calls) deck window calls c

-- where the listing begins
abbrev pub start : Cursor
start = record { at = 0; entry = 0 }

-- lines one behind the other, and where those that are left begin
pub record Packed : Type 0 where
  pub text : List ℕ
  pub rest : Option Cursor

abbrev pub behind : List ℕ → Packed → Packed
behind l p = record { text = l ++ p.text; rest = p.rest }

-- as many as fit into the room
unfoldable pub pack : ℕ → List Step → Packed
pack room [] = record { text = []; rest = None }
pack room (s ∷ ss) =
    cond (leb (length s.text) room) (behind s.text (pack (room - length s.text) ss)) (record { text = []; rest = Some s.before })

abbrev pub packed : List ℕ → List ℕ → List ℕ → Cursor → List ℕ → Packed
packed deck window calls c buffer = pack (length buffer) (steps deck window calls c)

-- refused where not even the first line fits
abbrev pub piece_by : ℕ → Option Cursor → Result Piece Refusal
piece_by n (Some c) = cond (eqb n 0) (Err LineLength) (Ok (record { length = n; next = Some c }))
piece_by n None = Ok (record { length = n; next = None })

abbrev pub piece_of : Packed → Result Piece Refusal
piece_of p = piece_by (length p.text) p.rest

-- the lent bytes afterwards: the lines, and what stood behind them
abbrev pub piece_to : List ℕ → Packed → List ℕ
piece_to buffer p = p.text ++ drop (length p.text) buffer
