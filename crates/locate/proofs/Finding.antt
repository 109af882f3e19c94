-- Which exon or intron holds a base, of joined lists: exons before the base move the index, exons after it change nothing.
use Prim.Native.Nat.{ℕ, suc, ◌+◌, ◌≤◌, ◌<◌}
use mathlib.Core.Path.{◌≡◌, refl, ◌∙◌, ap}
use mathlib.Core.Bool.{Bool, true, false, cond}
use mathlib.Core.List.{List, [], ◌∷◌, ◌++◌}
use native.Mathlib.Omega.{arith}
use native.Mathlib.Nat.{add-zero}
use lib.Dec.{ltb}
use lib.ListN.{length}
use borrow.Author.Tests.{ltb-false, le-ltb}
use Rattle.transcript.specs.Orient.{Interval, interval}
use Rattle.transcript.specs.Bases.{first_start, last_end, end_after}
use Rattle.locate.specs.Find.{Found, in_exon, in_intron, outside, find_after, find_exon_or_intron}
use Rattle.transcript.proofs.Ascends.{Ascends, ends_after, first_after, first_joined, some_joined}

-- the index moved by n
abbrev pub shifted : ℕ → Found → Found
shifted n (in_exon i x) = in_exon (i + n) x
shifted n (in_intron i gap) = in_intron (i + n) gap
shifted n outside = outside

shifted_none : (w : Found) → w ≡ shifted 0 w
shifted_none (in_exon i x) = rw add-zero
shifted_none (in_intron i gap) = rw add-zero
shifted_none outside = refl

shifted_one : (n : ℕ) (w : Found) → shifted 1 (shifted n w) ≡ shifted (suc n) w
shifted_one n (in_exon i x) = ap (λ (k : ℕ). in_exon k x) (omega arith)
shifted_one n (in_intron i gap) = ap (λ (k : ℕ). in_intron k gap) (omega arith)
shifted_one n outside = refl

-- the answers of a walk that began at another index
after_shift : (xs : List Interval) (i j n e p : ℕ) → j ≡ i + n → find_after j e xs p ≡ shifted n (find_after i e xs p)
unfolding find_after
after_shift [] i j n e p q = refl
after_shift (x ∷ xs) i j n e p q = step (ltb p x.start) (ltb p x.end) (find_after (suc j) x.end xs p) (find_after (suc i) x.end xs p) (after_shift xs (suc i) (suc j) n x.end p (omega arith))
  where
    step : (s t : Bool) (v w : Found) → v ≡ shifted n w
        → cond s (in_intron j (interval e x.start)) (cond t (in_exon (suc j) x) v) ≡ shifted n (cond s (in_intron i (interval e x.start)) (cond t (in_exon (suc i) x) w))
    step true t v w h = ap (λ (k : ℕ). in_intron k (interval e x.start)) q
    step false true v w h = ap (λ (k : ℕ). in_exon k x) (omega arith)
    step false false v w h = h

-- past the gap the walk after exon i is the walk from the start, the index moved
after_gap : (xs : List Interval) (e p : ℕ) → 0 < length xs → first_start xs ≤ p → find_after 0 e xs p ≡ shifted 1 (find_exon_or_intron xs p)
unfolding find_after find_exon_or_intron
after_gap [] e p n h = absurd (omega arith)
after_gap (x ∷ xs) e p n h = rw (le-ltb p x.start h) (step (ltb p x.end) (find_after 1 x.end xs p) (find_after 0 x.end xs p) (after_shift xs 0 1 1 x.end p refl))
  where
    step : (t : Bool) (v w : Found) → v ≡ shifted 1 w → cond t (in_exon 1 x) v ≡ shifted 1 (cond t (in_exon 0 x) w)
    step true v w h = refl
    step false v w h = h

cons_before : (xs ys : List Interval) (y : Interval) (e p : ℕ) → Ascends e (xs ++ (y ∷ ys)) → y.start ≤ p
    → find_exon_or_intron (xs ++ (y ∷ ys)) p ≡ shifted (length xs) (find_exon_or_intron (y ∷ ys) p)
unfolding find_exon_or_intron
cons_before [] ys y e p o h = shifted_none (find_exon_or_intron (y ∷ ys) p)
cons_before (x ∷ xs) ys y e p o h =
    let a = first_after xs ys y x.end o.2 in
    let b = first_joined xs ys y x.end o.2 in
    rw (le-ltb p x.end (omega arith))
    (after_gap (xs ++ (y ∷ ys)) x.end p (some_joined xs ys y) (omega arith)
    ∙ ap (λ (w : Found). shifted 1 w) (cons_before xs ys y x.end p o.2 h)
    ∙ shifted_one (length xs) (find_exon_or_intron (y ∷ ys) p))

-- exons before the base
pub find_before : (xs ys : List Interval) (e p : ℕ) → Ascends e (xs ++ ys) → 0 < length ys → first_start ys ≤ p → find_exon_or_intron (xs ++ ys) p ≡ shifted (length xs) (find_exon_or_intron ys p)
find_before xs [] e p o n h = absurd (omega arith)
find_before xs (y ∷ ys) e p o n h = cons_before xs ys y e p o h

same_rest : (s t : Bool) (a b v w : Found) → (t ≡ false → v ≡ w) → cond s a (cond t b v) ≡ cond s a (cond t b w)
same_rest true t a b v w h = refl
same_rest false true a b v w h = refl
same_rest false false a b v w h = h refl

after_after : (xs ys : List Interval) (i e p : ℕ) → e ≤ p → p < end_after e xs → find_after i e (xs ++ ys) p ≡ find_after i e xs p
unfolding find_after end_after
after_after [] ys i e p h l = absurd (omega arith)
after_after (x ∷ xs) ys i e p h l =
    same_rest (ltb p x.start) (ltb p x.end) (in_intron i (interval e x.start)) (in_exon (suc i) x) (find_after (suc i) x.end (xs ++ ys) p) (find_after (suc i) x.end xs p)
    (λ q. after_after xs ys (suc i) x.end p (ltb-false p x.end q) l)

-- exons after the base
pub find_after_lem : (xs ys : List Interval) (p : ℕ) → 0 < length xs → p < last_end xs → find_exon_or_intron (xs ++ ys) p ≡ find_exon_or_intron xs p
unfolding find_exon_or_intron end_after
find_after_lem [] ys p n l = absurd (omega arith)
find_after_lem (x ∷ xs) ys p n l =
    same_rest false (ltb p x.end) outside (in_exon 0 x) (find_after 0 x.end (xs ++ ys) p) (find_after 0 x.end xs p)
    (λ q. after_after xs ys 0 x.end p (ltb-false p x.end q) l)

-- what is found at a base between the outer edges a and b of N exons
abbrev pub Inner : ℕ → ℕ → ℕ → Found → Type 0
Inner a b N (in_exon i x) = (i < N) × (a ≤ x.start) × (x.end ≤ b)
Inner a b N (in_intron i gap) = Unit {0}
Inner a b N outside = ⊥

inner_after : (xs : List Interval) (i e p a b N : ℕ) → Ascends e xs → a ≤ e → end_after e xs ≤ b → N ≡ suc i + length xs → e ≤ p → p < end_after e xs → Inner a b N (find_after i e xs p)
unfolding find_after end_after
inner_after [] i e p a b N o h l q u v = absurd (omega arith)
inner_after (x ∷ xs) i e p a b N o h l q u v =
    step (ltb p x.start) (ltb p x.end) (find_after (suc i) x.end xs p) (ends_after x.end xs o.2) o.0
    (λ t. inner_after xs (suc i) x.end p a b N o.2 (after h o.0 o.1) l (omega arith) (ltb-false p x.end t) v)
  where
    after : a ≤ e → e ≤ x.start → x.start < x.end → a ≤ x.end
    after f g h = omega arith

    step : (s t : Bool) (w : Found) → x.end ≤ end_after x.end xs → e ≤ x.start → (t ≡ false → Inner a b N w) → Inner a b N (cond s (in_intron i (interval e x.start)) (cond t (in_exon (suc i) x) w))
    step true t w g f r = tt
    step false true w g f r = (omega arith, omega arith, omega arith)
    step false false w g f r = r refl

pub find_inner : (x : Interval) (xs : List Interval) (p : ℕ) → Ascends 0 (x ∷ xs) → p < end_after x.end xs
    → Inner x.start (end_after x.end xs) (suc (length xs)) (find_exon_or_intron (x ∷ xs) p)
unfolding find_exon_or_intron
find_inner x xs p o l =
    step (ltb p x.end) (find_after 0 x.end xs p) (ends_after x.end xs o.2)
    (λ q. let s = o.1 in inner_after xs 0 x.end p x.start (end_after x.end xs) (suc (length xs)) o.2 (omega arith) (omega arith) (omega arith) (ltb-false p x.end q) l)
  where
    step : (t : Bool) (w : Found) → x.end ≤ end_after x.end xs → (t ≡ false → Inner x.start (end_after x.end xs) (suc (length xs)) w) → Inner x.start (end_after x.end xs) (suc (length xs)) (cond t (in_exon 0 x) w)
    step true w g r = (omega arith, omega arith, g)
    step false w g r = r refl
