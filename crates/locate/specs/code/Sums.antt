-- Cumulative lengths of intervals in an array.
use Rattle.std.specs.Prelude.{ℕ, ◌≤◌, ◌<◌, ◌≡◌, List, map, length, get_or}
use Rattle.transcript.specs.Orient.{Interval, Oriented}
use Rattle.transcript.specs.Bases.{size}
use Rattle.locate.specs.Index.{cumulative}

-- what the sums start from: the pad for the CDS, 0 for the exons
abbrev pub first_sum : List ℕ → ℕ
first_sum sums = get_or sums 0 0

-- the array begins with the cumulative lengths of the intervals
pub record Sums (xs : List Interval) (sums : List ℕ) : Type 0 where
  pub reach : length xs < length sums
  pub are : (k : ℕ) → k ≤ length xs → get_or sums k 0 ≡ get_or (cumulative (first_sum sums) (map size xs)) k 0
  pub low : first_sum sums ≤ 2

abbrev pub ExonSums : Oriented → List ℕ → Type 0
ExonSums o sums = Sums o.exons sums × (first_sum sums ≡ 0)

abbrev pub CdsSums : Oriented → List ℕ → Type 0
CdsSums o sums = Sums o.segments sums × (first_sum sums ≡ o.pad)
