-- A slice of numbers as a contract names it: in a `requires` the slice, in an `ensures` the slice at entry and at exit. `Lent` is one that
-- is lent to be filled.
use Rattle.std.specs.Prelude.{ℕ, List}
use Rattle.std.specs.Borrow.{Bor, MutBor}
use denote.Triple.Both.{Both}

abbrev pub Slice : Type 0
Slice = Bor (List ℕ)

abbrev pub Passed : Type 0
Passed = Both Slice Slice

abbrev pub Lent : Type 0
Lent = MutBor (List ℕ)

abbrev pub PassedLent : Type 0
PassedLent = Both Lent Lent
