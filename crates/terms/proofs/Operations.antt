-- The machine's operations on the bit of a term are those of the sets.
-- Assumes nothing.
use Rattle.std.proofs.Common.{ℕ, ◌-◌, ◌*◌, ◌/◌, ◌%◌, ◌^◌, ◌<◌, ◌≡◌, ap, true, false, not, nat_eq, bit_and, bit_or, arith}
use Rattle.std.specs.Int.Bits.{or_add_and}
use Rattle.std.proofs.Math.Pow.{pow-lt}
use Rattle.std.proofs.lemmas.Nat.{and-not, and_comm, pow_pos}
use Rattle.std.proofs.lemmas.Nat.Bits.{and_pow}
use borrow.Author.Tests.{eqb-true, eqb-false, eq-eqb, ne_eqb}
use Rattle.common.proofs.TestParts.{on_test}
use Rattle.terms.specs.declared.Consequence.{Consequence}
use Rattle.terms.specs.Severity.{severity_rank}
use Rattle.terms.specs.Terms.{only, holds_term, with_term, without_term}
use Rattle.terms.proofs.Bit.{rank}

module _ (s : ℕ) (t : Consequence) where
  -- the bit alone, 0 or 1 times its worth
  abbrev digit : ℕ
  digit = s / only t % 2

  alone : bit_and s (only t) ≡ digit * only t
  alone = and_pow s (severity_rank t - 1)

  pub holds_is : not (nat_eq (bit_and s (only t)) 0) ≡ holds_term s t
  holds_is = on_test (holds_term s t)
      (λ h. let p = pow_pos (severity_rank t - 1) in
      let d = eqb-true digit 1 h in
      rw (h, alone, d) (ap not (ne_eqb (1 * only t) 0 (λ e. omega arith))))
      (λ h. let d : digit ≡ 0 = omega (arith, eqb-false digit 1 h) in rw (h, alone, d) (ap not (eq-eqb (0 * only t) 0 (omega arith))))

  -- what the bit alone is where the set holds the term, and where not
  alone_held : holds_term s t ≡ true → bit_and s (only t) ≡ only t
  alone_held h = let d = eqb-true digit 1 h in let a : bit_and s (only t) ≡ 1 * only t = rw d at alone in omega arith

  alone_lacked : holds_term s t ≡ false → bit_and s (only t) ≡ 0
  alone_lacked h =
      let d : digit ≡ 0 = omega (arith, eqb-false digit 1 h) in
      let a : bit_and s (only t) ≡ 0 * only t = rw d at alone in
      omega arith

  pub with_is : bit_or s (only t) ≡ with_term s t
  unfolding with_term
  with_is =
      let o = or_add_and s (only t) in
      on_test (holds_term s t)
      (λ h. let a = alone_held h in rw h (omega arith))
      (λ h. let a = alone_lacked h in rw h (omega arith))

  pub without_is : s < 2 ^ 32 → bit_and s (4294967295 - only t) ≡ without_term s t
  unfolding without_term
  without_is l =
      let r = rank t in
      let m : only t < 2 ^ 32 = pow-lt {i = severity_rank t - 1} {j = 32} (omega arith) in
      let n = and-not 32 (only t) s m l in
      let x = and_comm s (only t) in
      let y = and_comm s (4294967295 - only t) in
      on_test (holds_term s t)
      (λ h. let a = alone_held h in rw h (omega arith))
      (λ h. let a = alone_lacked h in rw h (omega arith))
