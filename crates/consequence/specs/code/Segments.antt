-- Coding segments with their cumulative lengths, and the segment of a padded offset.
use Rattle.std.specs.Prelude.{ℕ, ◌+◌, ◌≤◌, ◌<◌, max, ◌≡◌, List, length, get_or}
use Rattle.transcript.specs.Orient.{Interval}
use Rattle.locate.specs.code.Sums.{first_sum, Sums}

-- some segments, whose lengths are summed up from the pad
pub record Segments (xs : List Interval) (sums : List ℕ) (pad : ℕ) : Type 0 where
  pub some : 0 < length xs
  pub summed : Sums xs sums
  pub pad_is : pad ≡ first_sum sums

-- none of the first `count` sums is above the next
abbrev pub Rising : List ℕ → ℕ → Type 0
Rising sums count = (i : ℕ) → i < count → get_or sums i 0 ≤ get_or sums (i + 1) 0

-- of `count` segments i holds padded offset k; a pad place stands before the first
pub record Held (sums : List ℕ) (count k i : ℕ) : Type 0 where
  pub index : i < count
  pub from : get_or sums i 0 ≤ max k (first_sum sums)
  pub to : k < get_or sums (i + 1) 0
