-- The records that the walk reaches stand in the deck.
-- Assumes nothing.
use Prim.Native.Nat.{ℕ, zero, suc}
use mathlib.Core.List.{List, [], ◌∷◌, ◌++◌}
use native.Mathlib.Omega.{arith}
use Rattle.deck.specs.Walk.{Parts, walk_deck}
use Rattle.deck.specs.code.Order.{order_of}
use Rattle.deck.specs.Deck.{parts_of}
use Rattle.deck.specs.code.Reached.{InDeck, bounds_list, records_of}
use Rattle.deck.proofs.Grown.{Kind, AllKinds, walk_order}

-- every record stands in the deck
kind_in : (d : List ℕ) (k : ℕ) (xs : List ℕ) → Kind d k xs → InDeck d xs
kind_in d k [] h i l = absurd (omega arith)
kind_in d k (x ∷ xs) h zero l = h.0.1
kind_in d k (x ∷ xs) h (suc i) l = kind_in d k xs h.1 i (omega arith)

in_append : (d xs ys : List ℕ) → InDeck d xs → InDeck d ys → InDeck d (xs ++ ys)
in_append d [] ys g h i l = h i l
in_append d (x ∷ xs) ys g h zero l = g zero (omega arith)
in_append d (x ∷ xs) ys g h (suc i) l = in_append d xs ys (λ k m. g (suc k) (omega arith)) h i (omega arith)

all_in : (d : List ℕ) (ps : List Parts) → AllKinds d ps → InDeck d (records_of ps)
unfolding records_of
all_in d [] h = λ i l. absurd (omega arith)
all_in d (p ∷ ps) h =
    let k = h.0 in
    in_append d (p.transcript ∷ (p.exons ++ (bounds_list p.bounds ++ (p.segments ++ p.selenocysteine)))) (records_of ps)
    (in_append d (p.transcript ∷ []) (p.exons ++ (bounds_list p.bounds ++ (p.segments ++ p.selenocysteine))) (kind_in d 1 (p.transcript ∷ []) k.transcripts)
    (in_append d p.exons (bounds_list p.bounds ++ (p.segments ++ p.selenocysteine)) (kind_in d 3 p.exons k.exons)
    (in_append d (bounds_list p.bounds) (p.segments ++ p.selenocysteine) (kind_in d 2 (bounds_list p.bounds) k.bounds)
    (in_append d p.segments p.selenocysteine (kind_in d 4 p.segments k.segments) (kind_in d 5 p.selenocysteine k.selenocysteine)))))
    (all_in d ps h.1)

pub deck_in : (d : List ℕ) → InDeck d (order_of (walk_deck d))
deck_in d = rw (walk_order d).0 (all_in d (parts_of (walk_deck d)) (walk_order d).1)
