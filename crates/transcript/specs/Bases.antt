-- Counting bases of a list of intervals.
use Rattle.std.specs.Prelude.{ℕ, ◌+◌, ◌-◌, min, max, Bool, ◌&&◌, List, [], ◌∷◌, map, leb, ltb}
use Rattle.common.specs.Lists.{any}
use Rattle.transcript.specs.Orient.{Interval}

-- the base lies in the interval
abbrev pub inside : ℕ → Interval → Bool
inside p x = leb x.start p && ltb p x.end

-- the base lies in one of the intervals
abbrev pub inside_any : ℕ → List Interval → Bool
inside_any p xs = any (inside p) xs

abbrev pub size : Interval → ℕ
size x = x.end - x.start

-- how many bases of the intervals lie in [a, b)
unfoldable pub bases_in : List Interval → ℕ → ℕ → ℕ
bases_in [] a b = 0
bases_in (x ∷ xs) a b = (min x.end b - max x.start a) + bases_in xs a b

unfoldable pub sum : List ℕ → ℕ
sum [] = 0
sum (n ∷ ns) = n + sum ns

-- how many bases the intervals have
abbrev pub total_size : List Interval → ℕ
total_size xs = sum (map size xs)

-- where the first interval starts
abbrev pub first_start : List Interval → ℕ
first_start [] = 0
first_start (x ∷ xs) = x.start

-- where the last of the intervals ends, or e where there are none
unfoldable pub end_after : ℕ → List Interval → ℕ
end_after e [] = e
end_after e (x ∷ xs) = end_after x.end xs

abbrev pub last_end : List Interval → ℕ
last_end xs = end_after 0 xs

-- the gap from e to the first interval, then the gaps between the intervals
unfoldable pub gaps_after : ℕ → List Interval → List Interval
gaps_after e [] = []
gaps_after e (x ∷ xs) = record { start = e; end = x.start } ∷ gaps_after x.end xs

-- the introns: the gap after each exon but the last
abbrev pub gaps : List Interval → List Interval
gaps [] = []
gaps (x ∷ xs) = gaps_after x.end xs
