-- The lowest number that passes a test, searched from the front.
-- Assumes nothing.
use Prim.Native.Nat.{ℕ, suc, ◌+◌, ◌-◌, ◌≤◌, ◌<◌}
use mathlib.Core.Path.{◌≡◌}
use mathlib.Core.Bool.{Bool, true, false}
use native.Mathlib.Omega.{arith}
use native.Mathlib.Numerals.{add-one}
use Rattle.deck.specs.Records.{lowest}

module _ (f : ℕ → Bool) (n i : ℕ) where
  pub lowest_on : i < n → f i ≡ false → lowest f (n - i) i ≡ lowest f (n - (i + 1)) (i + 1)
  unfolding lowest
  lowest_on l h = let e : n - i ≡ suc (n - (i + 1)) = omega arith in rw (e, h, add-one)

  pub lowest_here : i < n → f i ≡ true → lowest f (n - i) i ≡ i
  unfolding lowest
  lowest_here l h = let e : n - i ≡ suc (n - (i + 1)) = omega arith in rw (e, h)

  pub lowest_none : n ≤ i → lowest f (n - i) i ≡ i
  unfolding lowest
  lowest_none h = let e : n - i ≡ 0 = omega arith in rw e
