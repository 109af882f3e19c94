-- The ranks of a set's terms, counted and the first taken, are the machine's counts of bits.
-- Assumes nothing.
use Prim.Native.Nat.{ℕ, zero, suc, ◌+◌, ◌-◌, ◌/◌, ◌%◌, ◌^◌, ◌≤◌, ◌<◌}
use mathlib.Core.Path.{◌≡◌, refl, ◌∙◌, ap}
use mathlib.Core.Bool.{cond}
use native.Mathlib.Omega.{arith}
use native.Mathlib.Nat.{pow-suc, add-zero, add-suc, suc-add}
use lib.ListN.{length, get_or, drop}
use lib.Dec.{eqb, eqb-suc-suc, eqb-zero-suc, eqb-suc-zero}
use lib.Count.{count_trailing_zeros, under, ones, ones_in, ones_step}
use borrow.Author.Tests.{ne_eqb}
use Rattle.std.proofs.Common.{List, [], ◌∷◌, Some, None, slice_get, add-one}
use Rattle.common.specs.Lists.{cons_if}
use Rattle.terms.specs.Terms.{ranks_from, ranks, most_severe, without_first}

-- the first rank, 0 where there is none: after as many bits as there are zeros
pub first_rank : (k r n : ℕ) → get_or (ranks_from k r n) 0 0 ≡ cond (eqb (count_trailing_zeros k n) k) 0 (r + count_trailing_zeros k n)
unfolding ranks_from count_trailing_zeros
first_rank zero r n = refl
first_rank (suc k) r n = step (n % 2) (omega arith) (first_rank k (suc r) (n / 2))
  where
    step :
        (d : ℕ) → d < 2 →
        get_or (ranks_from k (suc r) (n / 2)) 0 0 ≡ cond (eqb (count_trailing_zeros k (n / 2)) k) 0 (suc r + count_trailing_zeros k (n / 2)) →
        get_or (cons_if (eqb d 1) r (ranks_from k (suc r) (n / 2))) 0 0 ≡ cond (eqb (under d (count_trailing_zeros k (n / 2))) (suc k)) 0 (r + under d (count_trailing_zeros k (n / 2)))
    step zero h e =
        let t = count_trailing_zeros k (n / 2) in
        rw (eqb-suc-suc t k, add-suc r t) (e ∙ (let s = suc-add r t in rw s))
    step (suc zero) h e = rw (eqb-zero-suc k, add-zero r)
    step (suc (suc d)) h e = absurd (omega arith)

-- the number of ranks: as many as there are ones
pub rank_count : (k r n : ℕ) → n < 2 ^ k → ones n ≡ length (ranks_from k r n)
unfolding ranks_from ones ones_in
rank_count zero r n h = let e : n ≡ 0 = omega arith in ap ones e
rank_count (suc k) r n h = ones_step n ∙ step (n % 2) (omega arith) (rank_count k (suc r) (n / 2) (let p = pow-suc 2 k in omega arith))
  where
    step :
        (d : ℕ) → d < 2 → ones (n / 2) ≡ length (ranks_from k (suc r) (n / 2)) →
        d + ones (n / 2) ≡ length (cons_if (eqb d 1) r (ranks_from k (suc r) (n / 2)))
    step zero h e = omega arith
    step (suc zero) h e = omega arith
    step (suc (suc d)) h e = absurd (omega arith)

-- the lowest bit of a set that is not empty: it can be taken away, and the other ranks are left
pub record Lowest (k r n : ℕ) : Type 0 where
  pub inside : count_trailing_zeros k n < k
  pub held : 2 ^ count_trailing_zeros k n ≤ n
  pub rest : ranks_from k r (n - 2 ^ count_trailing_zeros k n) ≡ drop 1 (ranks_from k r n)

pub lowest : (k r n : ℕ) → 0 < n → n < 2 ^ k → Lowest k r n
unfolding ranks_from count_trailing_zeros
lowest zero r n g h = absurd (omega arith)
lowest (suc k) r n g h = step (n % 2) refl (omega arith) (λ g h. lowest k (suc r) (n / 2) g h)
  where
    step : (d : ℕ) → n % 2 ≡ d → d < 2 → (0 < n / 2 → n / 2 < 2 ^ k → Lowest k (suc r) (n / 2)) → Lowest (suc k) r n
    step zero e l below =
        let p = pow-suc 2 k in
        let t = count_trailing_zeros k (n / 2) in
        let q = pow-suc 2 t in
        let b = below (omega arith) (omega arith) in
        let x : (n - 2 ^ suc t) % 2 ≡ 0 = omega arith in
        let y : (n - 2 ^ suc t) / 2 ≡ n / 2 - 2 ^ t = omega arith in
        record { inside = rw e (omega arith); held = rw e (omega arith); rest = rw (e, x, y) b.rest }
    step (suc zero) e l below =
        let x : (n - 1) % 2 ≡ 0 = omega arith in
        let y : (n - 1) / 2 ≡ n / 2 = omega arith in
        record { inside = rw e (omega arith); held = rw e g; rest = rw (e, x, y) }
    step (suc (suc d)) e l below = absurd (omega arith)

-- the place of the most severe term's bit
pub severe_is : (s : ℕ) → 0 < s → s < 2 ^ 32 → most_severe s - 1 ≡ count_trailing_zeros 32 s
severe_is s g h =
    let b = (lowest 32 1 s g h).inside in
    let r : most_severe s ≡ 1 + count_trailing_zeros 32 s = first_rank 32 1 s ∙ rw (ne_eqb (count_trailing_zeros 32 s) 32 (λ e. omega arith)) in
    omega arith

-- the set without its most severe term has the other ranks
empty_rest : ranks (without_first 0) ≡ drop 1 (ranks 0)
unfolding without_first ranks_from
empty_rest = refl

pub ranks_rest : (s : ℕ) → s < 2 ^ 32 → ranks (without_first s) ≡ drop 1 (ranks s)
unfolding without_first
ranks_rest zero h = empty_rest
ranks_rest (suc n) h = rw (eqb-suc-zero n, severe_is (suc n) (omega arith) h) (lowest 32 1 (suc n) (omega arith) h).rest

-- the first rank of a set that is not empty
first_of : (ks : List ℕ) (n : ℕ) → get_or ks 0 0 ≡ suc n → slice_get ks 0 ≡ Some (suc n)
first_of [] n e = absurd (omega arith)
first_of (k ∷ ks) n e = ap Some e

pub severe_first : (s : ℕ) → 0 < s → s < 2 ^ 32 → slice_get (ranks s) 0 ≡ Some (count_trailing_zeros 32 s + 1)
severe_first s g h =
    let b = (lowest 32 1 s g h).inside in
    let r : most_severe s ≡ suc (count_trailing_zeros 32 s) =
    first_rank 32 1 s ∙ rw (ne_eqb (count_trailing_zeros 32 s) 32 (λ e. omega arith)) (omega arith) in
    rw add-one (first_of (ranks s) (count_trailing_zeros 32 s) r)

pub severe_none : (s : ℕ) → s ≡ 0 → slice_get (ranks s) 0 ≡ None
unfolding ranks_from
severe_none s e = rw e

-- a list with a first rank is that rank and the others
pub first_more : (ks : List ℕ) (k : ℕ) → slice_get ks 0 ≡ Some k → ks ≡ k ∷ drop 1 ks
first_more [] k e = cc
first_more (x ∷ ks) k e = let z : x ≡ k = cc in rw z
