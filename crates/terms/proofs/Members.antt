-- The ranks of a set: those of the terms that it holds, ascending.
-- Assumes nothing.
use Prim.Native.Nat.{ℕ, zero, suc, ◌+◌, ◌-◌, ◌/◌, ◌%◌, ◌^◌, ◌≤◌, ◌<◌}
use mathlib.Core.Path.{◌≡◌, refl, sym, ◌∙◌, ap}
use mathlib.Core.Bool.{Bool, true, false, ◌&&◌, ◌||◌}
use mathlib.Core.List.{List, [], ◌∷◌}
use native.Mathlib.Omega.{arith}
use native.Mathlib.Nat.{pow-suc}
use lib.Dec.{eqb}
use borrow.Author.Tests.{eq-eqb, ne_eqb}
use Rattle.common.specs.Lists.{memb, cons_if}
use Rattle.terms.specs.Severity.{severity_rank}
use Rattle.terms.specs.Terms.{ranks_from, ranks}
use Rattle.terms.specs.claims.Held.{RanksHeld, Rising, RanksRise}
use Rattle.terms.proofs.Bit.{rank}
use Rattle.terms.proofs.Holding.{bit, bit_low, bit_next}

memb_if : (b : Bool) (x r : ℕ) (xs : List ℕ) → memb x (cons_if b r xs) ≡ ((b && eqb x r) || memb x xs)
memb_if true x r xs = refl
memb_if false x r xs = refl

other : (b m : Bool) → ((b && false) || m) ≡ m
other true m = refl
other false m = refl

self : (b : Bool) → ((b && true) || false) ≡ b
self true = refl
self false = refl

-- no rank is below the first
below : (k x r n : ℕ) → x < r → memb x (ranks_from k r n) ≡ false
unfolding ranks_from
below zero x r n h = refl
below (suc k) x r n h =
    memb_if (eqb (n % 2) 1) x r (ranks_from k (suc r) (n / 2))
    ∙ rw (ne_eqb x r (λ e. omega arith)) (other (eqb (n % 2) 1) (memb x (ranks_from k (suc r) (n / 2))))
    ∙ below k x (suc r) (n / 2) (omega arith)

-- the rank of bit t is there where the bit is set
member : (k t r n : ℕ) → t < k → memb (r + t) (ranks_from k r n) ≡ bit n t
unfolding ranks_from
member zero t r n h = absurd (omega arith)
member (suc k) zero r n h =
    let z : r + 0 ≡ r = omega arith in
    ap (λ (x : ℕ). memb x (ranks_from (suc k) r n)) z
    ∙ memb_if (eqb (n % 2) 1) r r (ranks_from k (suc r) (n / 2))
    ∙ rw (eq-eqb r r refl, below k r (suc r) (n / 2) (omega arith)) (self (eqb (n % 2) 1)) ∙ sym (bit_low n)
member (suc k) (suc t) r n h =
    let z : r + suc t ≡ suc r + t = omega arith in
    memb_if (eqb (n % 2) 1) (r + suc t) r (ranks_from k (suc r) (n / 2))
    ∙ rw (ne_eqb (r + suc t) r (λ e. omega arith)) (other (eqb (n % 2) 1) (memb (r + suc t) (ranks_from k (suc r) (n / 2))))
    ∙ ap (λ (x : ℕ). memb x (ranks_from k (suc r) (n / 2))) z
    ∙ member k t (suc r) (n / 2) (omega arith) ∙ sym (bit_next n t)

pub ranks_held : RanksHeld
ranks_held s c =
    let i = rank c in
    let z : severity_rank c ≡ 1 + (severity_rank c - 1) = omega arith in
    ap (λ (x : ℕ). memb x (ranks s)) z ∙ member 32 (severity_rank c - 1) 1 s (omega arith)

no_ranks : (k r : ℕ) → ranks_from k r 0 ≡ []
unfolding ranks_from
no_ranks zero r = refl
no_ranks (suc k) r = no_ranks k (suc r)

rising_low : (low more high : ℕ) (xs : List ℕ) → low ≤ more → Rising more high xs → Rising low high xs
rising_low low more high [] l r = tt
rising_low low more high (x ∷ xs) l r = (let a = r.0 in omega arith, r.1, r.2)

rising : (k m low high n : ℕ) → low + m ≤ high → n < 2 ^ m → Rising low high (ranks_from k (suc low) n)
unfolding ranks_from
rising zero m low high n l h = tt
rising (suc k) zero low high n l h = let e : n ≡ 0 = omega arith in rw (e, no_ranks (suc k) (suc low)) tt
rising (suc k) (suc m) low high n l h =
    step (n % 2) (omega arith) (rising k m (suc low) high (n / 2) (omega arith) (let p = pow-suc 2 m in omega arith))
  where
    step : (d : ℕ) → d < 2 → Rising (suc low) high (ranks_from k (suc (suc low)) (n / 2)) → Rising low high (cons_if (eqb d 1) (suc low) (ranks_from k (suc (suc low)) (n / 2)))
    step zero b r = rising_low low (suc low) high (ranks_from k (suc (suc low)) (n / 2)) (omega arith) r
    step (suc zero) b r = (omega arith, omega arith, r)
    step (suc (suc d)) b r = absurd (omega arith)

pub ranks_rise : RanksRise
ranks_rise n s h = rising 32 n 0 n s (omega arith) h
