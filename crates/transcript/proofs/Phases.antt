-- The phases of segments: the pad is read from the first, and its phase completes it.
-- Assumes nothing.
use Prim.Native.Nat.{ℕ, ◌+◌, ◌-◌, ◌%◌, ◌≤◌}
use mathlib.Core.Path.{◌≡◌}
use native.Mathlib.Omega.{arith}
use Rattle.transcript.specs.claims.Phases.{PhaseCompletesPad}

pub phase_completes_pad : PhaseCompletesPad
phase_completes_pad g gs h = completes g.phase h
  where
    completes : (n : ℕ) → n ≤ 2 → ((3 - n) % 3 + n) % 3 ≡ 0
    completes n h = omega arith
