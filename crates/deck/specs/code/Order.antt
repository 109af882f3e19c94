-- The order in which the walk reaches the records.
use Rattle.std.specs.Prelude.{ℕ, ◌≤◌, ◌≡◌, List, [], reverse, length, take, drop}
use Rattle.deck.specs.Walk.{Walk, walked, stopped, walk_deck}

-- the records in the order in which they were reached, the head left out
abbrev pub order_of : Walk → List ℕ
order_of (walked ps reached) = drop 1 (reverse reached)
order_of (stopped i) = []

-- n records in the order of the walk stand at the front of an array
pub record IsOrder (d : List ℕ) (n : ℕ) (order : List ℕ) : Type 0 where
  pub few : n ≤ 4096
  pub within : n ≤ length order
  pub front : take n order ≡ order_of (walk_deck d)
