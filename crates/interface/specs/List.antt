-- A listing asked for piece by piece, with the cursor in three lent words: a byte of the calls, how many of its line's entries are
-- behind, and whether the listing is at its end.
use Rattle.std.specs.Prelude.{ℕ, ◌≡◌, cond, List, [], get_or, set, eqb, Option, Some, None, Result, Ok, Err}
use Rattle.common.specs.declared.refusal.Refusal.{Refusal}
use Rattle.common.specs.Refusal.{number}
use Rattle.listing.specs.declared.Cursor.{Cursor}
use Rattle.listing.specs.declared.Piece.{Piece}
use Rattle.listing.specs.Pieces.{Packed, packed, piece_of, piece_to}
use Rattle.words.specs.declared.VareffectOutcome.{VareffectOutcome}

abbrev pub cursor_of : List ℕ → Cursor
cursor_of words = record { at = get_or words 0 0; entry = get_or words 1 0 }

-- the piece from the cursor on; behind the end nothing is left
abbrev pub piece_at : List ℕ → List ℕ → List ℕ → List ℕ → List ℕ → Packed
piece_at deck window calls words buffer =
    cond (eqb (get_or words 2 0) 0) (packed deck window calls (cursor_of words) buffer) (record { text = []; rest = None })

-- 0 and the length, or the refusal and 0
abbrev pub piece_outcome : Result Piece Refusal → VareffectOutcome
piece_outcome (Ok p) = record { number = 0; value = p.length }
piece_outcome (Err r) = record { number = number r; value = 0 }

abbrev pub moved_to : List ℕ → Option Cursor → List ℕ
moved_to words (Some next) = set (set words 0 next.at) 1 next.entry
moved_to words None = set words 2 1

-- the cursor behind the piece; a refusal leaves it
abbrev pub moved : List ℕ → Result Piece Refusal → List ℕ
moved words (Ok p) = moved_to words p.next
moved words (Err r) = words

-- the outcome, the cursor and the buffer afterwards
pub record Listed (deck window calls words buffer words' buffer' : List ℕ) (r : VareffectOutcome) : Type 0 where
  pub outcome_is : r ≡ piece_outcome (piece_of (piece_at deck window calls words buffer))
  pub cursor_is : words' ≡ moved words (piece_of (piece_at deck window calls words buffer))
  pub bytes_are : buffer' ≡ piece_to buffer (piece_at deck window calls words buffer)
