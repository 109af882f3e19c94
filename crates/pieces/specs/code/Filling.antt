-- Lines put into a lent buffer, and what is left.
use Rattle.std.specs.Prelude.{ℕ, length, Some, None, Result, Ok, Err}
use Rattle.common.specs.declared.refusal.Refusal.{Refusal}
use Rattle.listing.specs.declared.Cursor.{Cursor}
use Rattle.listing.specs.declared.Piece.{Piece}
use Rattle.listing.specs.Pieces.{Packed}

abbrev pub filled_as : Packed → Piece
filled_as p = record { length = length p.text; next = p.rest }

-- one line that was put, or is left
abbrev pub line_filled : Result ℕ Refusal → Cursor → Piece
line_filled (Ok n) c = record { length = n; next = None }
line_filled (Err r) c = record { length = 0; next = Some c }
