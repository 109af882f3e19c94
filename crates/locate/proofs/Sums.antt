-- The count of bases in an interval: its steps along the list, its bound, and the cumulative lengths that give it.
-- Assumes nothing.
use Prim.Native.Nat.{ℕ, zero, suc, ◌+◌, ◌-◌, ◌≤◌, ◌<◌, min, max}
use mathlib.Core.Path.{◌≡◌, refl, ◌∙◌, ap}
use mathlib.Core.List.{List, [], ◌∷◌, map}
use native.Mathlib.Omega.{arith}
use native.Mathlib.Nat.{le-max_right, le_trans, add-le-add}
use lib.ListN.{length, get_or}
use borrow.Author.Tests.{lt-ltb, le-ltb}
use Rattle.transcript.specs.Orient.{Interval}
use Rattle.transcript.specs.Bases.{size, bases_in, end_after, sum}
use Rattle.locate.specs.Place.{interval_index}
use Rattle.locate.specs.Index.{cumulative}
use Rattle.transcript.proofs.Ascends.{Ascends, ends_after}
use Rattle.transcript.proofs.Listed.{nowhere}

-- the parts, in few enough cases for `omega`
bound_edge : (u f a e : ℕ) → e ≤ f → u - max f a ≤ u - max a e
bound_edge u f a e h = omega arith

bound_sum : (t b m y : ℕ) → t ≤ y → m ≤ y → min t b - m + (b - y) ≤ b - m
bound_sum t b m y h l = omega arith

max_edge : (a e f t : ℕ) → e ≤ f → f < t → max a e ≤ max a t
max_edge a e f t h l = omega arith

bound_step : (f t a b e r : ℕ) → e ≤ f → f < t → r ≤ b - max a t → min t b - max f a + r ≤ b - max a e
bound_step f t a b e r h l m =
    let u = bound_edge (min t b) f a e h in
    let v = bound_sum t b (max a e) (max a t) (le-max_right a t) (max_edge a e f t h l) in
    le_trans (add-le-add u m) v

-- ascending intervals hold at most the bases of [a, b) that lie past their edge
pub bases_from : (xs : List Interval) (e a b : ℕ) → Ascends e xs → bases_in xs a b ≤ b - max a e
unfolding bases_in
bases_from [] e a b h = omega arith
bases_from (x ∷ xs) e a b h = bound_step x.start x.end a b e (bases_in xs a b) h.0 h.1 (bases_from xs x.end a b h.2)

pub bases_le : (xs : List Interval) (a b : ℕ) → Ascends 0 xs → bases_in xs a b ≤ b
bases_le xs a b h = let r = bases_from xs 0 a b h in omega arith

-- before the edge there are none
pub bases_none : (xs : List Interval) (e p : ℕ) → Ascends e xs → p ≤ e → bases_in xs 0 p ≡ 0
bases_none xs e p h l = let r = bases_from xs e 0 p h in omega arith

-- up to the last end all of them are counted
pub bases_all : (xs : List Interval) (e b : ℕ) → Ascends e xs → end_after e xs ≤ b → bases_in xs 0 b ≡ sum (map size xs)
unfolding bases_in sum end_after
bases_all [] e b h l = refl
bases_all (x ∷ xs) e b h l =
    let w = ends_after x.end xs h.2 in
    rw (bases_all xs x.end b h.2 l, whole x.start x.end b (omega arith))
  where
    whole : (s e b : ℕ) → e ≤ b → min e b - max s 0 ≡ e - s
    whole s e b l = omega arith

-- the sum of the sizes is at most the last end
pub sizes_le : (xs : List Interval) (e : ℕ) → Ascends e xs → sum (map size xs) ≤ end_after e xs
sizes_le xs e h = let r = bases_from xs e 0 (end_after e xs) h in let a = bases_all xs e (end_after e xs) h (omega arith) in omega arith

-- each interval starts past the edge
pub starts_from : (xs : List Interval) (e k : ℕ) → Ascends e xs → k < length xs → e ≤ (get_or xs k nowhere).start
starts_from [] e k h l = absurd (omega arith)
starts_from (x ∷ xs) e zero h l = h.0
starts_from (x ∷ xs) e (suc k) h l =
    let r = starts_from xs x.end k h.2 (omega arith) in
    let a = h.0 in let b = h.1 in
    omega arith

-- a base of interval k: the sum before k and its place in k are the bases before it
pub sum_before : (xs : List Interval) (e first k p : ℕ) → Ascends e xs → k < length xs → (get_or xs k nowhere).start ≤ p → p < (get_or xs k nowhere).end
    → get_or (cumulative first (map size xs)) k 0 + (p - (get_or xs k nowhere).start) ≡ first + bases_in xs 0 p
unfolding cumulative bases_in
sum_before [] e first k p h l a b = absurd (omega arith)
sum_before (x ∷ xs) e first zero p h l a b =
    let n = bases_none xs x.end p h.2 (omega arith) in
    rw n (omega arith)
sum_before (x ∷ xs) e first (suc k) p h l a b =
    let r = sum_before xs x.end (first + (x.end - x.start)) k p h.2 (omega arith) a b in
    let f = starts_from xs x.end k h.2 (omega arith) in
    r ∙ passed x.start x.end p first (bases_in xs 0 p) (omega arith)
  where
    passed : (s e p f r : ℕ) → e ≤ p → f + (e - s) + r ≡ f + (min e p - max s 0 + r)
    passed s e p f r l = omega arith

-- and k is the index of the first interval that ends after the base
pub index_at : (xs : List Interval) (e k p : ℕ) → Ascends e xs → k < length xs → (get_or xs k nowhere).start ≤ p → p < (get_or xs k nowhere).end → interval_index xs p ≡ k
unfolding interval_index
index_at [] e k p h l a b = absurd (omega arith)
index_at (x ∷ xs) e zero p h l a b = rw (lt-ltb p x.end b)
index_at (x ∷ xs) e (suc k) p h l a b =
    let f = starts_from xs x.end k h.2 (omega arith) in
    rw (le-ltb p x.end (omega arith)) (ap suc (index_at xs x.end k p h.2 (omega arith) a b))
