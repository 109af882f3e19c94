-- Exons whose first begins farther 5' or whose last ends farther 3': what is found, counted and cut between the old edges stays.
use Prim.Native.Nat.{ℕ, zero, suc, ◌+◌, ◌-◌, ◌≤◌, ◌<◌, min, max}
use mathlib.Core.Path.{◌≡◌, refl, ap}
use mathlib.Core.Bool.{Bool, true, false, cond}
use mathlib.Core.List.{List, [], ◌∷◌}
use native.Mathlib.Omega.{arith}
use lib.Dec.{ltb, eqb}
use lib.ListN.{length}
use borrow.Author.Tests.{lt-ltb, eq-eqb, ne_eqb}
use Rattle.common.specs.Lists.{cons_if}
use Rattle.transcript.specs.Orient.{Interval, interval}
use Rattle.transcript.specs.Bases.{bases_in, end_after, gaps_after}
use Rattle.locate.specs.Find.{Found, in_exon, in_intron, outside, find_after, find_exon_or_intron}
use Rattle.transcript.proofs.Cutting.{parts}
use Rattle.demands.specs.Longer.{end_at_from}

-- ---- the list itself
pub length_end : (f : ℕ) (x : Interval) (xs : List Interval) → length (end_at_from f x xs) ≡ suc (length xs)
unfolding end_at_from
length_end f x [] = refl
length_end f x (y ∷ ys) = ap suc (length_end f y ys)

pub last_end_lem : (f e : ℕ) (x : Interval) (xs : List Interval) → end_after e (end_at_from f x xs) ≡ f
unfolding end_at_from end_after
last_end_lem f e x [] = refl
last_end_lem f e x (y ∷ ys) = last_end_lem f x.end y ys

-- ---- counts
min_same : (t u b : ℕ) → b ≤ t → t ≤ u → min u b ≡ min t b
min_same t u b h l = omega arith

max_same : (s r a : ℕ) → r ≤ s → s ≤ a → max r a ≡ max s a
max_same s r a h l = omega arith

pub bases_end : (f a b : ℕ) (x : Interval) (xs : List Interval) → end_after x.end xs ≤ f → b ≤ end_after x.end xs → bases_in (end_at_from f x xs) a b ≡ bases_in (x ∷ xs) a b
unfolding end_at_from end_after bases_in
bases_end f a b x [] h l = rw (min_same x.end f b l h)
bases_end f a b x (y ∷ ys) h l = ap (λ (k : ℕ). (min x.end b - max x.start a) + k) (bases_end f a b y ys h l)

pub bases_start : (r a b : ℕ) (x : Interval) (xs : List Interval) → r ≤ x.start → x.start ≤ a → bases_in (interval r x.end ∷ xs) a b ≡ bases_in (x ∷ xs) a b
unfolding bases_in
bases_start r a b x xs h l = rw (max_same x.start r a h l)

-- from 0 on, the bases that the first exon gained are counted too
added : (r s e p k : ℕ) → r ≤ s → s < e → s ≤ p → (min e p - max r 0) + k ≡ (min e p - max s 0) + k + (s - r)
added r s e p k h l m =
    let a : max r 0 ≡ r = omega arith in
    let b : max s 0 ≡ s = omega arith in
    let c : s ≤ min e p = omega arith in
    rw (a, b) (plain (min e p) c)
  where
    plain : (u : ℕ) → s ≤ u → (u - r) + k ≡ (u - s) + k + (s - r)
    plain u c = omega arith

pub bases_gain : (r p : ℕ) (x : Interval) (xs : List Interval) → r ≤ x.start → x.start < x.end → x.start ≤ p → bases_in (interval r x.end ∷ xs) 0 p ≡ bases_in (x ∷ xs) 0 p + (x.start - r)
unfolding bases_in
bases_gain r p x xs h l m = added r x.start x.end p (bases_in xs 0 p) h l m

-- ---- the parts in the CDS
pub parts_end : (cds : Interval) (f : ℕ) (x : Interval) (xs : List Interval) → end_after x.end xs ≤ f → cds.end ≤ end_after x.end xs → parts cds (end_at_from f x xs) ≡ parts cds (x ∷ xs)
unfolding end_at_from end_after
parts_end cds f x [] h l = rw (min_same x.end f cds.end l h)
parts_end cds f x (y ∷ ys) h l =
    ap (λ (k : List Interval). cons_if (ltb (max x.start cds.start) (min x.end cds.end)) (interval (max x.start cds.start) (min x.end cds.end)) k) (parts_end cds f y ys h l)

pub parts_start : (cds : Interval) (r : ℕ) (x : Interval) (xs : List Interval) → r ≤ x.start → x.start ≤ cds.start → parts cds (interval r x.end ∷ xs) ≡ parts cds (x ∷ xs)
parts_start cds r x xs h l = rw (max_same x.start r cds.start h l)

-- ---- the gaps
pub gaps_end : (f e : ℕ) (x : Interval) (xs : List Interval) → gaps_after e (end_at_from f x xs) ≡ gaps_after e (x ∷ xs)
unfolding end_at_from gaps_after
gaps_end f e x [] = refl
gaps_end f e x (y ∷ ys) = ap (λ (k : List Interval). interval e x.start ∷ k) (gaps_end f x.end y ys)

-- ---- what is found
-- the last of N exons ends at f
abbrev pub end_moved : ℕ → ℕ → Found → Found
end_moved N f (in_exon i x) = in_exon i (interval x.start (cond (eqb (suc i) N) f x.end))
end_moved N f (in_intron i gap) = in_intron i gap
end_moved N f outside = outside

-- the first exon begins at b
abbrev pub start_moved : ℕ → Found → Found
start_moved b (in_exon zero x) = in_exon zero (interval b x.end)
start_moved b (in_exon (suc i) x) = in_exon (suc i) x
start_moved b (in_intron i gap) = in_intron i gap
start_moved b outside = outside

one_exon : (N f i j : ℕ) (gap x : Interval) (s : Bool) → suc i ≡ N → cond s (in_intron j gap) (in_exon i (interval x.start f)) ≡ end_moved N f (cond s (in_intron j gap) (in_exon i x))
one_exon N f i j gap x true q = refl
one_exon N f i j gap x false q = rw (eq-eqb (suc i) N q)

more_exons : (N f i j : ℕ) (gap x : Interval) (s t : Bool) (v w : Found) → suc i < N → (t ≡ false → v ≡ end_moved N f w)
    → cond s (in_intron j gap) (cond t (in_exon i x) v) ≡ end_moved N f (cond s (in_intron j gap) (cond t (in_exon i x) w))
more_exons N f i j gap x true t v w l h = refl
more_exons N f i j gap x false true v w l h = let z : eqb (suc i) N ≡ false = ne_eqb (suc i) N (λ q. omega arith) in rw z
more_exons N f i j gap x false false v w l h = h refl

after_end : (N f i e p : ℕ) (x : Interval) (xs : List Interval) → N ≡ suc (suc (i + length xs)) → p < end_after x.end xs → end_after x.end xs ≤ f
    → find_after i e (end_at_from f x xs) p ≡ end_moved N f (find_after i e (x ∷ xs) p)
unfolding end_at_from end_after find_after
after_end N f i e p x [] q h l = rw (lt-ltb p f (omega arith), lt-ltb p x.end h) (one_exon N f (suc i) i (interval e x.start) x (ltb p x.start) (omega arith))
after_end N f i e p x (y ∷ ys) q h l =
    more_exons N f (suc i) i (interval e x.start) x (ltb p x.start) (ltb p x.end) (find_after (suc i) x.end (end_at_from f y ys) p) (find_after (suc i) x.end (y ∷ ys) p) (omega arith)
    (λ t. after_end N f (suc i) x.end p y ys (omega arith) h l)

pub find_end : (f p : ℕ) (x : Interval) (xs : List Interval) → p < end_after x.end xs → end_after x.end xs ≤ f
    → find_exon_or_intron (end_at_from f x xs) p ≡ end_moved (suc (length xs)) f (find_exon_or_intron (x ∷ xs) p)
unfolding end_at_from end_after find_exon_or_intron
find_end f p x [] h l = rw (lt-ltb p f (omega arith), lt-ltb p x.end h)
find_end f p x (y ∷ ys) h l =
    more_exons (suc (suc (length ys))) f 0 0 x x false (ltb p x.end) (find_after 0 x.end (end_at_from f y ys) p) (find_after 0 x.end (y ∷ ys) p) (omega arith)
    (λ t. after_end (suc (suc (length ys))) f 0 x.end p y ys (omega arith) h l)

after_start : (b i e p : ℕ) (xs : List Interval) → find_after i e xs p ≡ start_moved b (find_after i e xs p)
unfolding find_after
after_start b i e p [] = refl
after_start b i e p (x ∷ xs) = step (ltb p x.start) (ltb p x.end) (find_after (suc i) x.end xs p) (after_start b (suc i) x.end p xs)
  where
    step : (s t : Bool) (v : Found) → v ≡ start_moved b v → cond s (in_intron i (interval e x.start)) (cond t (in_exon (suc i) x) v) ≡ start_moved b (cond s (in_intron i (interval e x.start)) (cond t (in_exon (suc i) x) v))
    step true t v h = refl
    step false true v h = refl
    step false false v h = h

pub find_start : (b p : ℕ) (x : Interval) (xs : List Interval) → find_exon_or_intron (interval b x.end ∷ xs) p ≡ start_moved b (find_exon_or_intron (x ∷ xs) p)
unfolding find_exon_or_intron
find_start b p x xs = step (ltb p x.end) (find_after 0 x.end xs p) (after_start b 0 x.end p xs)
  where
    step : (t : Bool) (v : Found) → v ≡ start_moved b v → cond t (in_exon 0 (interval b x.end)) v ≡ start_moved b (cond t (in_exon 0 x) v)
    step true v h = refl
    step false v h = h
