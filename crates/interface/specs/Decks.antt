-- What questions about a deck are answered with.
use Rattle.std.specs.Prelude.{ℕ, Result, Ok, Err}
use Rattle.common.specs.Refusal.{number}
use Rattle.deck.specs.declared.DeckRefusal.{DeckRefusal}
use Rattle.words.specs.declared.VareffectOutcome.{VareffectOutcome}

-- 0 and how many transcripts there are, or the refusal and its record
abbrev pub deck_outcome : Result ℕ DeckRefusal → VareffectOutcome
deck_outcome (Ok n) = record { number = 0; value = n }
deck_outcome (Err e) = record { number = number e.refusal; value = e.record }

-- where a deck is only judged, an accepted one stands for 0
abbrev pub uncounted : Result Unit DeckRefusal → Result ℕ DeckRefusal
uncounted (Ok x) = Ok 0
uncounted (Err e) = Err e
