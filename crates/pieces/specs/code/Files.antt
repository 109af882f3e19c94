-- The files of a listing as a struct lends them.
use Rattle.std.specs.Prelude.{ℕ, List}
use Rattle.listing.specs.declared.Cursor.{Cursor}
use Rattle.listing.specs.Pieces.{Packed, packed}
use Rattle.pieces.specs.declared.ListingFiles.{ListingFiles}
use Rattle.pieces.specs.code.Opening.{OpenedListing, opened}

-- what they are judged to be
abbrev pub opened_files : ListingFiles → OpenedListing
opened_files f = opened f.deck.now f.window.now f.calls.now

-- what a buffer takes of their listing from a cursor on
abbrev pub packed_files : ListingFiles → Cursor → List ℕ → Packed
packed_files f cursor out = packed f.deck.now f.window.now f.calls.now cursor out
