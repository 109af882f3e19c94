-- Intervals that ascend, are disjoint and not empty: from where to where they hold a base.
-- Assumes nothing.
use Prim.Native.Nat.{ℕ, ◌≤◌, ◌<◌}
use mathlib.Core.Path.{◌≡◌, refl, sym}
use mathlib.Core.Bool.{true, false}
use mathlib.Core.List.{List, [], ◌∷◌, ◌++◌}
use native.Mathlib.Omega.{arith}
use lib.ListN.{length}
use Rattle.common.proofs.TestParts.{on_test, true_false}
use Rattle.transcript.specs.Orient.{Interval}
use Rattle.transcript.specs.Bases.{inside, inside_any, first_start, end_after}
use Rattle.transcript.proofs.Orient.{inside_start, inside_end}

-- each interval starts at or after the end of the one before it, the first at or after e, and none is empty
abbrev pub Ascends : ℕ → List Interval → Type 0
Ascends e [] = Unit {0}
Ascends e (x ∷ xs) = (e ≤ x.start) × (x.start < x.end) × Ascends x.end xs

pub ascends_low : (d e : ℕ) (xs : List Interval) → d ≤ e → Ascends e xs → Ascends d xs
ascends_low d e [] l h = tt
ascends_low d e (x ∷ xs) l h = (let a = h.0 in omega arith, h.1, h.2)

pub ends_after : (e : ℕ) (xs : List Interval) → Ascends e xs → e ≤ end_after e xs
unfolding end_after
ends_after e [] h = omega arith
ends_after e (x ∷ xs) h = let r = ends_after x.end xs h.2 in let a = h.0 in let b = h.1 in omega arith

-- a base that one of the intervals holds lies after the edge and before the last end
pub inside_from : (e : ℕ) (xs : List Interval) (p : ℕ) → Ascends e xs → inside_any p xs ≡ true → (e ≤ p) × (p < end_after e xs)
unfolding end_after
inside_from e [] p a h = absurd (true_false (sym h))
inside_from e (x ∷ xs) p a h =
    let s = a.0 in let m = a.1 in let w = ends_after x.end xs a.2 in
    on_test (inside p x)
    (λ i. (let f = inside_start p x i in let l = inside_end p x i in (omega arith, omega arith)))
    (λ i. (let r = inside_from x.end xs p a.2 (rw i at h) in (omega arith, r.1)))

-- before the edge and from the last end on no interval holds a base
pub outside_before : (e : ℕ) (xs : List Interval) (p : ℕ) → Ascends e xs → p < e → inside_any p xs ≡ false
outside_before e xs p a l = on_test (inside_any p xs) (λ h. absurd (let r = inside_from e xs p a h in omega arith)) (λ h. h)

pub outside_after : (e : ℕ) (xs : List Interval) (p : ℕ) → Ascends e xs → end_after e xs ≤ p → inside_any p xs ≡ false
outside_after e xs p a l = on_test (inside_any p xs) (λ h. absurd (let r = inside_from e xs p a h in omega arith)) (λ h. h)

-- the same, seen from the first start
pub ascends_first : (e : ℕ) (xs : List Interval) → Ascends e xs → Ascends (first_start xs) xs
ascends_first e [] h = tt
ascends_first e (x ∷ xs) h = (omega arith, h.1, h.2)

-- joined lists
pub ascends_append : (xs ys : List Interval) (e : ℕ) → Ascends e (xs ++ ys) → Ascends e xs × Ascends (end_after e xs) ys
unfolding end_after
ascends_append [] ys e h = (tt, h)
ascends_append (x ∷ xs) ys e h = let r = ascends_append xs ys x.end h.2 in ((h.0, h.1, r.0), r.1)

pub end_append : (xs ys : List Interval) (e : ℕ) → end_after e (xs ++ ys) ≡ end_after (end_after e xs) ys
unfolding end_after
end_append [] ys e = refl
end_append (x ∷ xs) ys e = end_append xs ys x.end

-- joined lists start at or before the first interval of the second
pub first_after : (xs ys : List Interval) (y : Interval) (e : ℕ) → Ascends e (xs ++ (y ∷ ys)) → e ≤ y.start
first_after [] ys y e o = o.0
first_after (x ∷ xs) ys y e o = let r = first_after xs ys y x.end o.2 in let a = o.0 in let b = o.1 in omega arith

pub first_joined : (xs ys : List Interval) (y : Interval) (e : ℕ) → Ascends e (xs ++ (y ∷ ys)) → first_start (xs ++ (y ∷ ys)) ≤ y.start
first_joined [] ys y e o = omega arith
first_joined (x ∷ xs) ys y e o = first_after (x ∷ xs) ys y x.start (omega arith, o.1, o.2)

pub some_joined : (xs ys : List Interval) (y : Interval) → 0 < length (xs ++ (y ∷ ys))
some_joined [] ys y = omega arith
some_joined (x ∷ xs) ys y = omega arith

pub first_append : (xs ys : List Interval) (e : ℕ) → Ascends e (xs ++ ys) → 0 < length ys → first_start (xs ++ ys) ≤ first_start ys
first_append xs [] e o n = absurd (omega arith)
first_append xs (y ∷ ys) e o n = first_joined xs ys y e o

-- a base in one of the intervals is at or after the first start
pub inside_first : (xs : List Interval) (e p : ℕ) → Ascends e xs → inside_any p xs ≡ true → first_start xs ≤ p
inside_first [] e p o h = omega arith
inside_first (x ∷ xs) e p o h = (inside_from x.start (x ∷ xs) p (omega arith, o.1, o.2) h).0
