-- A count as a signed number, and its negation.
-- Assumes nothing.
use Prim.Native.Nat.{ℕ, zero, suc, ◌<◌, ◌^◌}
use mathlib.Core.Path.{◌≡◌}
use native.Mathlib.Omega.{arith}
use lib.IntN.{ℤ, pos, neg_ℤ, ◌-ℤ◌, +ℤ_idl}
use lib.Signed.{mag}
use mir.Syntax.{w64}
use mir.Val.{SFits, to_z, of_z}
use mir.Facts.{to_z-of_z, to_z_pos}

-- a count below 2 ^ 63, read as signed, is itself
pub counted : (n : ℕ) → n < 2 ^ 63 → to_z w64 n ≡ pos n
counted n h = to_z_pos w64 h

zero_minus : (n : ℕ) → pos 0 -ℤ pos n ≡ neg_ℤ (pos n)
zero_minus n = +ℤ_idl (neg_ℤ (pos n))

neg_fits : (n : ℕ) → n < 2 ^ 63 → SFits w64 (neg_ℤ (pos n))
neg_fits zero h = record { sfits = omega arith }
neg_fits (suc n) h = record { sfits = omega arith }

-- what the machine asks of `-(n as i64)`, and what it gives
pub minus_fits : (n : ℕ) → n < 2 ^ 63 → SFits w64 (pos 0 -ℤ to_z w64 n)
minus_fits n h = rw (counted n h, zero_minus n) (neg_fits n h)

pub minus_is : (n : ℕ) → n < 2 ^ 63 → to_z w64 (of_z w64 (pos 0 -ℤ to_z w64 n)) ≡ neg_ℤ (pos n)
minus_is n h = rw (counted n h, zero_minus n) (to_z-of_z (neg_fits n h))

-- a signed result of a call, which a local holds as bits, read back
pub back : (z : ℤ) → mag z < 2 ^ 63 → to_z w64 (of_z w64 z) ≡ z
back z h = to_z-of_z {w = w64} (record { sfits = h })
