-- `bases_in` counts bases: in oriented coordinates, and in genomic ones in strand order.
-- Assumes nothing.
use Prim.Native.Nat.{ℕ, ◌-◌, ◌≤◌, min, max}
use mathlib.Core.Path.{◌≡◌, sym, ◌∙◌}
use mathlib.Core.Bool.{false, ◌&&◌, and-false}
use mathlib.Core.List.{List, [], ◌∷◌}
use native.Mathlib.Omega.{arith}
use Rattle.common.specs.Lists.{count_below}
use Rattle.common.proofs.Counting.{count_same, count_none, count_interval, count_cons}
use Rattle.transcript.specs.Orient.{Interval, interval}
use Rattle.transcript.specs.Bases.{inside, inside_any, bases_in, end_after}
use Rattle.transcript.specs.Cuts.{meet}
use Rattle.transcript.proofs.Orient.{inside_end}
use Rattle.transcript.proofs.Ascends.{Ascends, ends_after, outside_before}
use Rattle.transcript.proofs.Cuts.{inside_meet}

-- the bases that two intervals share
pub count_meet : (x y : Interval) (n : ℕ) → x.end ≤ n → count_below (λ q. inside q y && inside q x) n ≡ min x.end y.end - max x.start y.start
count_meet x y n l =
    sym (count_same (λ q. inside q (meet x y)) (λ q. inside q y && inside q x) n (λ q. inside_meet x y q))
    ∙ count_interval (meet x y).start (meet x y).end n ∙ within x.end y.end n (max x.start y.start) l
  where
    within : (e f n s : ℕ) → e ≤ n → min (min e f) n - s ≡ min e f - s
    within e f n s h = omega arith

-- `bases_in xs a b` is the number of bases q of [a, b) that one of the intervals holds
pub bases_in_counts : (e : ℕ) (xs : List Interval) (a b n : ℕ) → Ascends e xs → end_after e xs ≤ n → bases_in xs a b ≡ count_below (λ q. inside q (interval a b) && inside_any q xs) n
unfolding bases_in end_after
bases_in_counts e [] a b n h l = sym (count_none (λ q. inside q (interval a b) && false) n (λ q. and-false (inside q (interval a b))))
bases_in_counts e (x ∷ xs) a b n h l =
    let r = bases_in_counts x.end xs a b n h.2 l in
    let w = ends_after x.end xs h.2 in
    sym (count_cons (λ q. inside q (interval a b)) (λ (y : Interval) q. inside q y) x xs n (λ q i. outside_before x.end xs q h.2 (inside_end q x i))
    ∙ rw (count_meet x (interval a b) n (omega arith), r))
