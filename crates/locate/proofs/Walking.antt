-- What the walk along ascending exons finds, from an exon or a gap that holds the base.
-- Assumes nothing.
use Prim.Native.Nat.{ℕ, zero, suc, ◌+◌, ◌≤◌, ◌<◌}
use mathlib.Core.Path.{◌≡◌, ◌∙◌, ap}
use mathlib.Core.List.{List, [], ◌∷◌}
use native.Mathlib.Omega.{arith}
use lib.ListN.{length, get_or}
use borrow.Author.Tests.{lt-ltb, le-ltb}
use Rattle.transcript.specs.Orient.{Interval, interval}
use Rattle.locate.specs.Find.{in_exon, in_intron, outside, find_after, find_exon_or_intron}
use Rattle.transcript.proofs.Ascends.{Ascends}
use Rattle.transcript.proofs.Listed.{nowhere}
use Rattle.locate.proofs.Sums.{starts_from}

-- an interval at an index is not empty; starts ascend
pub some_at : (xs : List Interval) (e k : ℕ) → Ascends e xs → k < length xs → (get_or xs k nowhere).start < (get_or xs k nowhere).end
some_at [] e k h l = absurd (omega arith)
some_at (x ∷ xs) e zero h l = h.1
some_at (x ∷ xs) e (suc k) h l = some_at xs x.end k h.2 (omega arith)

pub starts_ascend : (xs : List Interval) (e i j : ℕ) → Ascends e xs → i ≤ j → j < length xs → (get_or xs i nowhere).start ≤ (get_or xs j nowhere).start
starts_ascend [] e i j h l m = absurd (omega arith)
starts_ascend (x ∷ xs) e zero zero h l m = omega arith
starts_ascend (x ∷ xs) e (suc i) zero h l m = absurd (omega arith)
starts_ascend (x ∷ xs) e zero (suc j) h l m = let r = starts_from xs x.end j h.2 (omega arith) in let s = h.1 in omega arith
starts_ascend (x ∷ xs) e (suc i) (suc j) h l m = starts_ascend xs x.end i j h.2 (omega arith) (omega arith)

-- past an interval the walk goes on after it
walk_on : (i e : ℕ) (x : Interval) (xs : List Interval) (p : ℕ) → x.start < x.end → x.end ≤ p → find_after i e (x ∷ xs) p ≡ find_after (suc i) x.end xs p
unfolding find_after
walk_on i e x xs p h l = rw (le-ltb p x.start (omega arith), le-ltb p x.end l)

after_exon : (xs : List Interval) (i e k j p : ℕ) → Ascends e xs → j ≡ suc (i + k) → k < length xs → (get_or xs k nowhere).start ≤ p → p < (get_or xs k nowhere).end
    → find_after i e xs p ≡ in_exon j (get_or xs k nowhere)
unfolding find_after
after_exon [] i e k j p h q l a b = absurd (omega arith)
after_exon (x ∷ xs) i e zero j p h q l a b = rw (le-ltb p x.start a, lt-ltb p x.end b) (ap (λ (n : ℕ). in_exon n x) (omega arith))
after_exon (x ∷ xs) i e (suc k) j p h q l a b =
    let f = starts_from xs x.end k h.2 (omega arith) in
    walk_on i e x xs p h.1 (omega arith) ∙ after_exon xs (suc i) x.end k j p h.2 (omega arith) (omega arith) a b

after_gap : (xs : List Interval) (i e k j p : ℕ) → Ascends e xs → j ≡ suc (i + k) → suc k < length xs → (get_or xs k nowhere).end ≤ p → p < (get_or xs (suc k) nowhere).start
    → find_after i e xs p ≡ in_intron j (interval (get_or xs k nowhere).end (get_or xs (suc k) nowhere).start)
unfolding find_after
after_gap [] i e k j p h q l a b = absurd (omega arith)
after_gap (x ∷ []) i e k j p h q l a b = absurd (omega arith)
after_gap (x ∷ y ∷ ys) i e zero j p h q l a b =
    walk_on i e x (y ∷ ys) p h.1 a ∙ rw (lt-ltb p y.start b) (ap (λ (n : ℕ). in_intron n (interval x.end y.start)) (omega arith))
after_gap (x ∷ y ∷ ys) i e (suc k) j p h q l a b =
    let f = starts_from (y ∷ ys) x.end k h.2 (omega arith) in
    let s = some_at (y ∷ ys) x.end k h.2 (omega arith) in
    walk_on i e x (y ∷ ys) p h.1 (omega arith) ∙ after_gap (y ∷ ys) (suc i) x.end k j p h.2 (omega arith) (omega arith) a b

after_past : (xs : List Interval) (i e k p : ℕ) → Ascends e xs → length xs ≡ suc k → (get_or xs k nowhere).end ≤ p → find_after i e xs p ≡ outside
unfolding find_after
after_past [] i e k p h l a = absurd (omega arith)
after_past (x ∷ []) i e zero p h l a = walk_on i e x [] p h.1 a
after_past (x ∷ []) i e (suc k) p h l a = absurd (omega arith)
after_past (x ∷ y ∷ ys) i e zero p h l a = absurd (omega arith)
after_past (x ∷ y ∷ ys) i e (suc k) p h l a =
    let f = starts_from (y ∷ ys) x.end k h.2 (omega arith) in
    let s = some_at (y ∷ ys) x.end k h.2 (omega arith) in
    walk_on i e x (y ∷ ys) p h.1 (omega arith) ∙ after_past (y ∷ ys) (suc i) x.end k p h.2 (omega arith) a

pub at_exon : (xs : List Interval) (e k p : ℕ) → Ascends e xs → k < length xs → (get_or xs k nowhere).start ≤ p → p < (get_or xs k nowhere).end → find_exon_or_intron xs p ≡ in_exon k (get_or xs k nowhere)
unfolding find_exon_or_intron
at_exon [] e k p h l a b = absurd (omega arith)
at_exon (x ∷ xs) e zero p h l a b = rw (lt-ltb p x.end b)
at_exon (x ∷ xs) e (suc k) p h l a b =
    let f = starts_from xs x.end k h.2 (omega arith) in
    rw (le-ltb p x.end (omega arith)) (after_exon xs 0 x.end k (suc k) p h.2 (omega arith) (omega arith) a b)

pub at_gap : (xs : List Interval) (e k p : ℕ) → Ascends e xs → suc k < length xs → (get_or xs k nowhere).end ≤ p → p < (get_or xs (suc k) nowhere).start
    → find_exon_or_intron xs p ≡ in_intron k (interval (get_or xs k nowhere).end (get_or xs (suc k) nowhere).start)
unfolding find_exon_or_intron find_after
at_gap [] e k p h l a b = absurd (omega arith)
at_gap (x ∷ []) e k p h l a b = absurd (omega arith)
at_gap (x ∷ y ∷ ys) e zero p h l a b = rw (le-ltb p x.end a, lt-ltb p y.start b)
at_gap (x ∷ y ∷ ys) e (suc k) p h l a b =
    let f = starts_from (y ∷ ys) x.end k h.2 (omega arith) in
    let s = some_at (y ∷ ys) x.end k h.2 (omega arith) in
    rw (le-ltb p x.end (omega arith)) (after_gap (y ∷ ys) 0 x.end k (suc k) p h.2 (omega arith) (omega arith) a b)

pub at_past : (xs : List Interval) (e k p : ℕ) → Ascends e xs → length xs ≡ suc k → (get_or xs k nowhere).end ≤ p → find_exon_or_intron xs p ≡ outside
unfolding find_exon_or_intron find_after
at_past [] e k p h l a = absurd (omega arith)
at_past (x ∷ []) e zero p h l a = rw (le-ltb p x.end a)
at_past (x ∷ []) e (suc k) p h l a = absurd (omega arith)
at_past (x ∷ y ∷ ys) e zero p h l a = absurd (omega arith)
at_past (x ∷ y ∷ ys) e (suc k) p h l a =
    let f = starts_from (y ∷ ys) x.end k h.2 (omega arith) in
    let s = some_at (y ∷ ys) x.end k h.2 (omega arith) in
    rw (le-ltb p x.end (omega arith)) (after_past (y ∷ ys) 0 x.end k p h.2 (omega arith) a)
