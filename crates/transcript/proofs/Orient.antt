-- What orienting keeps: order, bounds, size, which bases an interval holds, and how many pass a test.
-- Assumes nothing.
use Prim.Native.Nat.{ℕ, ◌-◌, ◌≤◌, ◌<◌}
use mathlib.Core.Path.{◌≡◌, refl, sym}
use mathlib.Core.Bool.{Bool, true, false}
use native.Mathlib.Omega.{arith}
use lib.Dec.{leb, ltb}
use borrow.Author.Tests.{ltb-true, leb-true, lt-ltb, le-leb}
use Rattle.common.specs.Lists.{count_below}
use Rattle.common.proofs.TestParts.{and_true, same_test, true_false}
use Rattle.common.proofs.Counting.{count_reflected}
use Rattle.transcript.specs.declared.Strand.{Strand}
use Rattle.transcript.specs.declared.Strand.TheVariants.{Plus, Minus}
use Rattle.std.specs.Prelude.{Option, Some, None}
use Rattle.transcript.specs.declared.CdsBounds.{CdsBounds}
use Rattle.transcript.specs.Limits.{top, coordinate_limit}
use Rattle.transcript.specs.Transcript.{cds_start, cds_end, has_bounds}
use Rattle.transcript.specs.Orient.{Interval, interval, orient, orient_base, orient_bounds}
use Rattle.transcript.specs.Bases.{inside, size}

module _ (σ : Strand) (s e : ℕ) (l : e ≤ coordinate_limit) where
  -- an interval that is not empty is not empty when oriented
  pub orient_some : s < e → (orient σ s e).start < (orient σ s e).end
  orient_some h = some σ h
    where
      some : (σ : Strand) → s < e → (orient σ s e).start < (orient σ s e).end
      some Plus h = h
      some Minus h = omega arith

  pub orient_high : (orient σ s e).end ≤ top
  orient_high = high σ
    where
      high : (σ : Strand) → (orient σ s e).end ≤ top
      high Plus = omega arith
      high Minus = omega arith

  -- orienting keeps the size
  pub orient_size : s < e → size (orient σ s e) ≡ e - s
  orient_size h = same σ h
    where
      same : (σ : Strand) → s < e → size (orient σ s e) ≡ e - s
      same Plus h = refl
      same Minus h = omega arith

-- orienting keeps the order
pub orient_order : (σ : Strand) (s e : ℕ) → s ≤ e → (orient σ s e).start ≤ (orient σ s e).end
orient_order Plus s e h = h
orient_order Minus s e h = omega arith

pub orient_low : (σ : Strand) (s e : ℕ) → s ≤ coordinate_limit → (orient σ s e).start ≤ top
orient_low Plus s e l = omega arith
orient_low Minus s e l = omega arith

-- the same of a CDS; without bounds it has no bases
pub bounds_both : (σ : Strand) (b : Option CdsBounds) → has_bounds b ≡ true → orient_bounds σ b ≡ orient σ (cds_start b) (cds_end b)
bounds_both σ None h = absurd (true_false (sym h))
bounds_both σ (Some b) h = refl

pub bounds_some : (σ : Strand) (b : Option CdsBounds) → cds_end b ≤ coordinate_limit → cds_start b < cds_end b → (orient_bounds σ b).start < (orient_bounds σ b).end
bounds_some σ None l h = absurd (omega arith)
bounds_some σ (Some b) l h = orient_some σ b.cds_genomic_start b.cds_genomic_end l h

pub bounds_high : (σ : Strand) (b : Option CdsBounds) → cds_end b ≤ coordinate_limit → (orient_bounds σ b).end ≤ top
bounds_high σ None l = omega arith
bounds_high σ (Some b) l = orient_high σ b.cds_genomic_start b.cds_genomic_end l

pub bounds_none : (σ : Strand) (b : Option CdsBounds) → has_bounds b ≡ false → (orient_bounds σ b).end ≤ (orient_bounds σ b).start
bounds_none σ None h = omega arith
bounds_none σ (Some b) h = absurd (true_false h)

-- the base in the interval, as numbers
pub inside_start : (p : ℕ) (x : Interval) → inside p x ≡ true → x.start ≤ p
inside_start p x h = leb-true x.start p (and_true (leb x.start p) (ltb p x.end) h).0

pub inside_end : (p : ℕ) (x : Interval) → inside p x ≡ true → p < x.end
inside_end p x h = ltb-true p x.end (and_true (leb x.start p) (ltb p x.end) h).1

pub inside_by : (p : ℕ) (x : Interval) → x.start ≤ p → p < x.end → inside p x ≡ true
inside_by p x h l = rw (le-leb x.start p h, lt-ltb p x.end l)

-- an oriented interval holds the oriented bases of the interval, and no others
pub inside_orient : (σ : Strand) (s e p : ℕ) → e ≤ coordinate_limit → inside (orient_base σ p) (orient σ s e) ≡ inside p (interval s e)
inside_orient Plus s e p l = refl
inside_orient Minus s e p l =
    same_test (inside (top - 1 - p) (interval (top - e) (top - s))) (inside p (interval s e))
    (λ h. (let a = inside_start (top - 1 - p) (interval (top - e) (top - s)) h in
    let b = inside_end (top - 1 - p) (interval (top - e) (top - s)) h in
    inside_by p (interval s e) (omega arith) (omega arith)))
    (λ h. (let a = inside_start p (interval s e) h in
    let b = inside_end p (interval s e) h in
    inside_by (top - 1 - p) (interval (top - e) (top - s)) (omega arith) (omega arith)))

-- oriented twice a base is itself
pub orient_twice : (σ : Strand) (p : ℕ) → p < top → orient_base σ (orient_base σ p) ≡ p
orient_twice Plus p l = refl
orient_twice Minus p l = omega arith

-- as many oriented bases pass a test as bases do whose oriented ones pass it
pub count_oriented : (σ : Strand) (f : ℕ → Bool) → count_below (λ p. f (orient_base σ p)) top ≡ count_below f top
count_oriented Plus f = refl
count_oriented Minus f = count_reflected f top
