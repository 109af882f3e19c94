-- Refusals of a deck, by number and the record at fault.
use Rattle.std.specs.Prelude.{ℕ}
use Rattle.common.specs.Refusal.{refusal}
use Rattle.deck.specs.declared.DeckRefusal.{DeckRefusal}

abbrev pub refused_at : ℕ → ℕ → DeckRefusal
refused_at n i = record { refusal = refusal n; «record» = i }

-- 24: the record that holds a bad link, or that no link reaches
abbrev pub link_refusal : ℕ → DeckRefusal
link_refusal i = refused_at 24 i
