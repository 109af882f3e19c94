-- What is claimed of a deck's table: it has the deck's transcripts, in chain order.
use Rattle.std.specs.Prelude.{ℕ, ◌≡◌, List, Ok}
use Rattle.deck.specs.Deck.{read_deck, deck_transcripts}
use Rattle.deck.specs.code.Table.{table_transcripts, deck_table}

abbrev pub TableHolds : Type 0
TableHolds = (d : List ℕ) → read_deck d ≡ Ok tt → table_transcripts (deck_table d) ≡ deck_transcripts d
