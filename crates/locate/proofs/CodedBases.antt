-- Selenocysteine bases at an index: each lies within the limit and in a segment.
-- Assumes nothing.
use Prim.Native.Nat.{ℕ, zero, suc, ◌≤◌, ◌<◌}
use mathlib.Core.Path.{◌≡◌, sym}
use mathlib.Core.Bool.{Bool, true, false, not}
use mathlib.Core.List.{List, [], ◌∷◌, map}
use native.Mathlib.Omega.{arith}
use lib.ListN.{length, get_or}
use borrow.Author.Tests.{ltb-false, not-false}
use Rattle.common.specs.Lists.{any}
use Rattle.common.proofs.TestParts.{true_false}
use Rattle.common.proofs.Lists.{any_none}
use Rattle.transcript.specs.declared.Strand.{Strand}
use Rattle.transcript.specs.Limits.{coordinate_limit}
use Rattle.transcript.specs.Orient.{Interval, orient_base}
use Rattle.transcript.specs.Bases.{inside_any}
use Rattle.transcript.specs.Admission.{over_limit, in_none}
use Rattle.locate.specs.code.Coded.{Coded}

-- a test that no element passes, at an index
none_at : (f : ℕ → Bool) (xs : List ℕ) (i : ℕ) → any f xs ≡ false → i < length xs → f (get_or xs i 0) ≡ false
none_at f [] i h l = absurd (omega arith)
none_at f (x ∷ xs) zero h l = (any_none f x xs h).0
none_at f (x ∷ xs) (suc i) h l = none_at f xs i (any_none f x xs h).1 (omega arith)

pub base_low : (bs : List ℕ) (i : ℕ) → any over_limit bs ≡ false → i < length bs → get_or bs i 0 ≤ coordinate_limit
base_low bs i h l = ltb-false coordinate_limit (get_or bs i 0) (none_at over_limit bs i h l)

-- a base of one of them: there is one
pub some_interval : (xs : List Interval) (p : ℕ) → inside_any p xs ≡ true → 0 < length xs
some_interval [] p h = absurd (true_false (sym h))
some_interval (x ∷ xs) p h = omega arith

module _ (σ : Strand) (xs : List Interval) (sums bs : List ℕ) (c : Coded σ xs sums bs) where
  pub base_inside : (i : ℕ) → i < length bs → inside_any (orient_base σ (get_or bs i 0)) xs ≡ true
  base_inside i l = not-false _ (inside bs i c.bases_held l)
    where
      inside : (bs : List ℕ) (i : ℕ) → any (in_none xs) (map (orient_base σ) bs) ≡ false → i < length bs → not (inside_any (orient_base σ (get_or bs i 0)) xs) ≡ false
      inside [] i h l = absurd (omega arith)
      inside (x ∷ ys) zero h l = (any_none (in_none xs) (orient_base σ x) (map (orient_base σ) ys) h).0
      inside (x ∷ ys) (suc i) h l = inside ys i (any_none (in_none xs) (orient_base σ x) (map (orient_base σ) ys) h).1 (omega arith)
