-- A step of the binary search, and the bracket that it keeps.
-- Assumes nothing.
use Prim.Native.Nat.{ℕ, ◌+◌, ◌-◌, ◌/◌, ◌≤◌, ◌<◌}
use mathlib.Core.Path.{◌≡◌}
use mathlib.Core.List.{List}
use native.Mathlib.Omega.{arith}
use lib.ListN.{length, get_or}
use Rattle.transcript.specs.Orient.{Interval}
use Rattle.transcript.proofs.Ascends.{Ascends}
use Rattle.transcript.proofs.Listed.{nowhere}
use Rattle.locate.proofs.Walking.{starts_ascend}

-- the binary search: the intervals before lo start at or before p, and those from hi on after it
pub record Bracket (xs : List Interval) (p lo hi : ℕ) : Type 0 where
  pub lo_le : lo ≤ hi
  pub hi_le : hi ≤ length xs
  pub before : (k : ℕ) → k < lo → (get_or xs k nowhere).start ≤ p
  pub after : (k : ℕ) → hi ≤ k → k < length xs → p < (get_or xs k nowhere).start

module _ (xs : List Interval) (p lo hi mid : ℕ) (o : Ascends 0 xs) (b : Bracket xs p lo hi) (l : lo ≤ mid) (m : mid < hi) where
  pub up : (get_or xs mid nowhere).start ≤ p → Bracket xs p (mid + 1) hi
  up f =
      let hl = b.hi_le in
      record { lo_le = omega arith; hi_le = b.hi_le; before = λ k q. (let r = starts_ascend xs 0 k mid o (omega arith) (omega arith) in omega arith); after = b.after }

  pub down : p < (get_or xs mid nowhere).start → Bracket xs p lo mid
  down f =
      let hl = b.hi_le in
      record { lo_le = l; hi_le = omega arith; before = b.before; after = λ k q t. (let r = starts_ascend xs 0 mid k o q t in omega arith) }

-- none started from hi on: nor from a place behind it
pub loosened : (xs : List Interval) (p lo hi to : ℕ) → Bracket xs p lo hi → hi ≤ to → to ≤ length xs → Bracket xs p lo to
loosened xs p lo hi to b h l = record { lo_le = let n = b.lo_le in omega arith; hi_le = l; before = b.before; after = λ k q r. b.after k (omega arith) r }

-- halving behind interval i, which has started: it and those behind it that may have started are so many
module _ (xs : List Interval) (p i left : ℕ) (o : Ascends 0 xs) (b : Bracket xs p (i + 1) (i + left)) (some : 1 < left) where
  pub later_half : (get_or xs (i + left / 2) nowhere).start ≤ p → Bracket xs p (i + left / 2 + 1) (i + left / 2 + (left - left / 2))
  later_half f =
      let e : i + left ≡ i + left / 2 + (left - left / 2) = omega arith in
      rw e at (up xs p (i + 1) (i + left) (i + left / 2) o b (omega arith) (omega arith) f)

  pub earlier_half : p < (get_or xs (i + left / 2) nowhere).start → Bracket xs p (i + 1) (i + (left - left / 2))
  earlier_half f =
      let h = b.hi_le in
      loosened xs p (i + 1) (i + left / 2) (i + (left - left / 2)) (down xs p (i + 1) (i + left) (i + left / 2) o b (omega arith) (omega arith) f) (omega arith) (omega arith)
