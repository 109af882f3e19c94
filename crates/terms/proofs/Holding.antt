-- Which terms the set of each operation holds: one bit is added or taken away, and the others stay.
-- Assumes nothing.
use Prim.Native.Nat.{ℕ, zero, suc, ◌+◌, ◌-◌, ◌/◌, ◌%◌, ◌^◌}
use mathlib.Core.Path.{◌≡◌, refl, sym, ◌∙◌, ap}
use mathlib.Core.Bool.{Bool, true, false, not, ◌&&◌, ◌||◌}
use native.Mathlib.Omega.{arith}
use native.Mathlib.Nat.{pow-suc}
use lib.Dec.{eqb, eqb-suc-suc, eqb-zero-suc, eqb-suc-zero}
use borrow.Author.Tests.{eqb-true, eqb-false, eq-eqb, ne_eqb}
use Rattle.common.proofs.TestParts.{on_test, same_test}
use Rattle.terms.specs.declared.Consequence.{Consequence}
use Rattle.terms.specs.declared.Consequence.TheVariants.{SpliceAcceptorVariant, SpliceDonorVariant, SpliceRegionVariant}
use Rattle.terms.specs.Severity.{severity_rank}
use Rattle.terms.specs.Terms.{only, holds_term, with_term, with_term_if, without_term, spill_terms}
use Rattle.terms.specs.claims.Held.{same_term, HoldsOnly, HoldsWith, HoldsWithIf, HoldsWithout, HoldsSpilled}
use Rattle.terms.proofs.Bit.{rank, shifted, held}

-- bit t of the number is set
abbrev pub bit : ℕ → ℕ → Bool
bit n t = eqb (n / 2 ^ t % 2) 1

pub bit_low : (n : ℕ) → bit n 0 ≡ eqb (n % 2) 1
bit_low n = let d : n / 1 ≡ n = omega arith in rw d

pub bit_next : (n t : ℕ) → bit n (suc t) ≡ bit (n / 2) t
bit_next n t = ap (λ (k : ℕ). eqb (k % 2) 1) (shifted n t)

or_none : (b : Bool) → b ≡ (b || false)
or_none true = refl
or_none false = refl

or_all : (b : Bool) → true ≡ (b || true)
or_all true = refl
or_all false = refl

and_none : (b : Bool) → false ≡ (b && false)
and_none true = refl
and_none false = refl

and_all : (b : Bool) → b ≡ (b && true)
and_all true = refl
and_all false = refl

-- a bit that is not set is added: it is set, and the others are as they were
added : (t u n : ℕ) → bit n t ≡ false → bit (n + 2 ^ t) u ≡ (bit n u || eqb t u)
added zero zero n h =
    let e = eqb-false (n % 2) 1 (sym (bit_low n) ∙ h) in
    bit_low (n + 1) ∙ eq-eqb ((n + 1) % 2) 1 (omega arith) ∙ or_all (bit n 0)
added zero (suc u) n h =
    let e = eqb-false (n % 2) 1 (sym (bit_low n) ∙ h) in
    let d : (n + 1) / 2 ≡ n / 2 = omega arith in
    bit_next (n + 1) u ∙ ap (λ (k : ℕ). bit k u) d ∙ sym (bit_next n u) ∙ rw (eqb-zero-suc u) (or_none (bit n (suc u)))
added (suc t) zero n h =
    let p = pow-suc 2 t in
    let d : (n + 2 ^ suc t) % 2 ≡ n % 2 = omega arith in
    bit_low (n + 2 ^ suc t) ∙ ap (λ (k : ℕ). eqb k 1) d ∙ sym (bit_low n) ∙ rw (eqb-suc-zero t) (or_none (bit n 0))
added (suc t) (suc u) n h =
    let p = pow-suc 2 t in
    let d : (n + 2 ^ suc t) / 2 ≡ n / 2 + 2 ^ t = omega arith in
    bit_next (n + 2 ^ suc t) u ∙ ap (λ (k : ℕ). bit k u) d ∙ added t u (n / 2) (sym (bit_next n t) ∙ h) ∙ rw (bit_next n u, eqb-suc-suc t u)

-- a bit that is set is taken away: it is not set, and the others are as they were
taken : (t u n : ℕ) → bit n t ≡ true → bit (n - 2 ^ t) u ≡ (bit n u && not (eqb t u))
taken zero zero n h =
    let e = eqb-true (n % 2) 1 (sym (bit_low n) ∙ h) in
    bit_low (n - 1) ∙ ne_eqb ((n - 1) % 2) 1 (λ q. omega arith) ∙ and_none (bit n 0)
taken zero (suc u) n h =
    let e = eqb-true (n % 2) 1 (sym (bit_low n) ∙ h) in
    let d : (n - 1) / 2 ≡ n / 2 = omega arith in
    bit_next (n - 1) u ∙ ap (λ (k : ℕ). bit k u) d ∙ sym (bit_next n u) ∙ rw (eqb-zero-suc u) (and_all (bit n (suc u)))
taken (suc t) zero n h =
    let p = pow-suc 2 t in
    let l = held (suc t) n (eqb-true (n / 2 ^ suc t % 2) 1 h) in
    let d : (n - 2 ^ suc t) % 2 ≡ n % 2 = omega arith in
    bit_low (n - 2 ^ suc t) ∙ ap (λ (k : ℕ). eqb k 1) d ∙ sym (bit_low n) ∙ rw (eqb-suc-zero t) (and_all (bit n 0))
taken (suc t) (suc u) n h =
    let p = pow-suc 2 t in
    let l = held (suc t) n (eqb-true (n / 2 ^ suc t % 2) 1 h) in
    let d : (n - 2 ^ suc t) / 2 ≡ n / 2 - 2 ^ t = omega arith in
    bit_next (n - 2 ^ suc t) u ∙ ap (λ (k : ℕ). bit k u) d ∙ taken t u (n / 2) (sym (bit_next n t) ∙ h) ∙ rw (bit_next n u, eqb-suc-suc t u)

-- no bit of 0 is set
bit_none : (t : ℕ) → bit 0 t ≡ false
bit_none zero = refl
bit_none (suc t) = bit_next 0 t ∙ bit_none t

-- two terms have one bit where they have one rank
same_bit : (c d : Consequence) → eqb (severity_rank c - 1) (severity_rank d - 1) ≡ same_term c d
same_bit c d =
    let i = rank c in let j = rank d in
    same_test (eqb (severity_rank c - 1) (severity_rank d - 1)) (same_term c d)
    (λ h. let e = eqb-true (severity_rank c - 1) (severity_rank d - 1) h in eq-eqb (severity_rank c) (severity_rank d) (omega arith))
    (λ h. let e = eqb-true (severity_rank c) (severity_rank d) h in eq-eqb (severity_rank c - 1) (severity_rank d - 1) (omega arith))

-- what is held already stays held
held_too : (s : ℕ) (c d : Consequence) → holds_term s c ≡ true → holds_term s d ≡ (holds_term s d || same_term c d)
held_too s c d h = on_test (same_term c d)
    (λ e. (let q = eqb-true (severity_rank c) (severity_rank d) e in rw (e, ap (λ (k : ℕ). bit s (k - 1)) (sym q) ∙ h)))
    (λ e. rw e (or_none (holds_term s d)))

-- what is not held stays so
lacked_too : (s : ℕ) (c d : Consequence) → holds_term s c ≡ false → holds_term s d ≡ (holds_term s d && not (same_term c d))
lacked_too s c d h = on_test (same_term c d)
    (λ e. (let q = eqb-true (severity_rank c) (severity_rank d) e in rw (e, ap (λ (k : ℕ). bit s (k - 1)) (sym q) ∙ h)))
    (λ e. rw e (and_all (holds_term s d)))

pub holds_only : HoldsOnly
holds_only c d =
    let z : only c ≡ 0 + only c = omega arith in
    ap (λ (k : ℕ). holds_term k d) z ∙ added (severity_rank c - 1) (severity_rank d - 1) 0 (bit_none (severity_rank c - 1))
    ∙ rw (bit_none (severity_rank d - 1)) (same_bit c d)

pub holds_with : HoldsWith
unfolding with_term
holds_with s c d = on_test (holds_term s c)
    (λ h. rw h (held_too s c d h))
    (λ h. rw h (added (severity_rank c - 1) (severity_rank d - 1) s h ∙ ap (λ (b : Bool). holds_term s d || b) (same_bit c d)))

pub holds_with_if : HoldsWithIf
holds_with_if true s c d = holds_with s c d
holds_with_if false s c d = or_none (holds_term s d)

pub holds_without : HoldsWithout
unfolding without_term
holds_without s c d = on_test (holds_term s c)
    (λ h. rw h (taken (severity_rank c - 1) (severity_rank d - 1) s h ∙ ap (λ (b : Bool). holds_term s d && not b) (same_bit c d)))
    (λ h. rw h (lacked_too s c d h))

pub holds_spilled : HoldsSpilled
unfolding spill_terms
holds_spilled donor acceptor s d = on_test (donor || acceptor)
    (λ h. (let a = with_term_if donor s SpliceDonorVariant in
    rw h (holds_without (with_term_if acceptor a SpliceAcceptorVariant) SpliceRegionVariant d
    ∙ rw (holds_with_if acceptor a SpliceAcceptorVariant d, holds_with_if donor s SpliceDonorVariant d))))
    (λ h. none donor acceptor h)
  where
    none : (donor acceptor : Bool) → (donor || acceptor) ≡ false → holds_term (spill_terms donor acceptor s) d
        ≡ (((holds_term s d || (donor && same_term SpliceDonorVariant d)) || (acceptor && same_term SpliceAcceptorVariant d))
        && not ((donor || acceptor) && same_term SpliceRegionVariant d))
    none true a h = cc
    none false true h = cc
    none false false h = or_none (holds_term s d) ∙ or_none (holds_term s d || false) ∙ and_all ((holds_term s d || false) || false)
