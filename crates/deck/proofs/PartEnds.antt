-- How long a part of a column is.
-- Assumes nothing.
use Prim.Native.Nat.{ℕ, ◌-◌, min}
use mathlib.Core.Path.{◌≡◌}
use mathlib.Core.List.{List}
use native.Mathlib.Omega.{arith}
use lib.ListN.{length, drop, length-take, length-drop}
use Rattle.deck.specs.code.Table.{part}

module _ {A : Type 0} (l : List A) (e : length l ≡ 4096) (from to : ℕ) where
  pub part_length : length (part from to l) ≡ min to 4096 - from
  part_length =
      let n = length-drop from l in
      let m = length-take (to - from) (drop from l) in
      omega arith
