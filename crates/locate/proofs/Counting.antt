-- Counts of bases: of joined lists, and of intervals that lie wholly on one side.
use Prim.Native.Nat.{ℕ, ◌+◌, ◌-◌, ◌≤◌, min, max}
use mathlib.Core.Path.{◌≡◌, refl}
use mathlib.Core.List.{List, [], ◌∷◌, ◌++◌}
use native.Mathlib.Omega.{arith}
use Rattle.transcript.specs.Orient.{Interval}
use Rattle.transcript.specs.Bases.{bases_in, end_after}
use Rattle.transcript.proofs.Ascends.{Ascends, ends_after}

pub bases_append : (xs ys : List Interval) (a b : ℕ) → bases_in (xs ++ ys) a b ≡ bases_in xs a b + bases_in ys a b
unfolding bases_in
bases_append [] ys a b = omega arith
bases_append (x ∷ xs) ys a b = let r = bases_append xs ys a b in omega arith

pub none_before : (s e a b : ℕ) → e ≤ a → min e b - max s a ≡ 0
none_before s e a b h = omega arith

pub none_after : (s e a b : ℕ) → b ≤ s → min e b - max s a ≡ 0
none_after s e a b h = omega arith

-- intervals that end at or before a have no base from a on
pub bases_before : (xs : List Interval) (e a b : ℕ) → Ascends e xs → end_after e xs ≤ a → bases_in xs a b ≡ 0
unfolding bases_in end_after
bases_before [] e a b o l = refl
bases_before (x ∷ xs) e a b o l =
    let g = ends_after x.end xs o.2 in
    rw (bases_before xs x.end a b o.2 l, none_before x.start x.end a b (omega arith))

-- intervals from e on have no base before e
pub bases_after : (xs : List Interval) (e a b : ℕ) → Ascends e xs → b ≤ e → bases_in xs a b ≡ 0
unfolding bases_in
bases_after [] e a b o l = refl
bases_after (x ∷ xs) e a b o l =
    let f = o.0 in
    let s = o.1 in
    rw (bases_after xs x.end a b o.2 (omega arith), none_after x.start x.end a b (omega arith))
