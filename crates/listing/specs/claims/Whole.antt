-- The pieces of a listing, joined, are its bytes.
use Rattle.std.specs.Prelude.{ℕ, zero, suc, ◌≤◌, ◌<◌, ◌≡◌, List, [], ◌++◌, length, take, Option, Some, None, Result, Ok, Err}
use Rattle.listing.specs.declared.Cursor.{Cursor}
use Rattle.listing.specs.declared.Piece.{Piece}
use Rattle.common.specs.declared.refusal.Refusal.{Refusal}
use Rattle.listing.specs.Entries.{Entry, entry_line}
use Rattle.listing.specs.Listing.{listing, printed}
use Rattle.listing.specs.Pieces.{start, packed, piece_of, piece_to}

-- what comes from a cursor on, nothing where there is none
abbrev pub gone_on : Option Cursor → (Cursor → List ℕ) → List ℕ
gone_on (Some c) go = go c
gone_on None go = []

-- what a piece left in the buffer, and what comes behind it
abbrev pub shown : Result Piece Refusal → List ℕ → (List ℕ → Cursor → List ℕ) → List ℕ
shown (Ok p) buffer go = take p.length buffer ++ gone_on p.next (go buffer)
shown (Err r) buffer go = []

-- at most n pieces from a cursor on, each in the buffer as the one before left it
unfoldable pub output : ℕ → List ℕ → List ℕ → List ℕ → List ℕ → Cursor → List ℕ
output zero deck window calls buffer c = []
output (suc n) deck window calls buffer c =
    let p = packed deck window calls c buffer in
    shown (piece_of p) (piece_to buffer p) (output n deck window calls)

-- no line is longer
abbrev pub LongestEntry : Type 0
LongestEntry = (e : Entry) → length (entry_line e) ≤ 1553

-- however many more pieces are asked for
abbrev pub WholeOutput : Type 0
WholeOutput =
    (deck window calls buffer : List ℕ) → 1553 ≤ length buffer → (n : ℕ) → length (listing deck window calls) < n
    → output n deck window calls buffer start ≡ printed deck window calls
