-- The records of transcripts as the walk reaches them.
use Rattle.std.specs.Prelude.{ℕ, ◌<◌, cond, List, [], ◌∷◌, ◌++◌, length, get_or, eqb}
use Rattle.deck.specs.Records.{record_count}
use Rattle.deck.specs.Walk.{Parts}

abbrev pub bounds_list : ℕ → List ℕ
bounds_list b = cond (eqb b 0) [] (b ∷ [])

-- the records of transcripts one behind the other, as the walk reaches them
unfoldable pub records_of : List Parts → List ℕ
records_of [] = []
records_of (p ∷ ps) = (p.transcript ∷ (p.exons ++ (bounds_list p.bounds ++ (p.segments ++ p.selenocysteine)))) ++ records_of ps

-- every number is a record of the deck
abbrev pub InDeck : List ℕ → List ℕ → Type 0
InDeck d l = (k : ℕ) → k < length l → get_or l k 0 < record_count d
