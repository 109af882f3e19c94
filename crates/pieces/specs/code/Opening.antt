-- An opened listing: what deck, window file and calls are judged to be, the deck's table and its index.
use Rattle.std.specs.Prelude.{ℕ, List, Result, Ok, Err}
use Rattle.deck.specs.declared.Table.{Table}
use Rattle.deck.specs.code.Table.{deck_table}
use Rattle.deck.specs.declared.DeckRefusal.{DeckRefusal}
use Rattle.listing.specs.Listing.{opening}
use Rattle.pieces.specs.declared.TableIndex.{TableIndex}
use Rattle.pieces.specs.code.TableIndex.{empty_index, table_index}

pub record OpenedListing : Type 0 where
  pub opening : Result Unit DeckRefusal
  pub table : Table
  pub index : TableIndex

-- a refused listing needs no index
abbrev pub index_by : Result Unit DeckRefusal → Table → TableIndex
index_by (Ok x) t = table_index t
index_by (Err e) t = empty_index

unfoldable pub opened : List ℕ → List ℕ → List ℕ → OpenedListing
opened deck window calls = record {
  opening = opening deck window calls;
  table = deck_table deck;
  index = index_by (opening deck window calls) (deck_table deck);
}

abbrev pub opened_as : Result Unit DeckRefusal → Table → TableIndex → OpenedListing
opened_as judged table index = record { opening = judged; table = table; index = index }
