-- A codon read base by base, and the columns of a whole codon.
-- Assumes nothing.
use Rattle.std.proofs.Common.{Option, Some, None}
use Prim.Native.Nat.{ℕ, ◌+◌, ◌-◌, ◌%◌, ◌≤◌, ◌<◌}
use mathlib.Core.Path.{◌≡◌, ap, ◌∙◌}
use lib.Dec.{eqb, leb}
use borrow.Author.Tests.{lt-ltb, le-ltb, eqb-true, leb-true, leb-false}
use Rattle.common.proofs.TestParts.{on_test}
use native.Mathlib.Omega.{arith}
use Rattle.transcript.specs.Orient.{Oriented}
use Rattle.consequence.specs.Reading.{cds_base, length_at, codon_length, fetch_bases, fetch_codon}
use Rattle.codon.specs.declared.Codon.{Codon}

-- the bases of a codon lie within the CDS
pub length_within : (total k : ℕ) → k < total → k - k % 3 + length_at total k ≤ total
length_within total k l = on_test (eqb (total % 3) 0)
    (λ e. (let z = eqb-true (total % 3) 0 e in rw e (omega arith)))
    (λ e. on_test (leb (total - total % 3) k)
    (λ f. (let u = leb-true (total - total % 3) k f in rw (e, f) (omega arith)))
    (λ f. (let u = leb-false (total - total % 3) k f in rw (e, f) (omega arith))))

-- a codon read base by base: it has n bases
module _ (t : Oriented) (view : ℕ → Option ℕ) (k n : ℕ) (q : n ≡ codon_length t k) where
  whole : {c : Option Codon} → c ≡ fetch_bases t view n (k - k % 3) → c ≡ fetch_codon t view k
  whole e = e ∙ ap (λ (m : ℕ). fetch_bases t view m (k - k % 3)) q

  pub outside_first : cds_base t view (k - k % 3) ≡ None → None ≡ fetch_codon t view k
  unfolding fetch_bases
  outside_first e = whole (rw e)

  module _ (x : ℕ) (ex : cds_base t view (k - k % 3) ≡ Some x) where
    pub one_base : n < 2 → Some (record { len = n; first = x; second = 0; third = 0 }) ≡ fetch_codon t view k
    unfolding fetch_bases
    one_base h = whole (rw (ex, le-ltb 1 n (omega arith), le-ltb 2 n (omega arith)))

    pub outside_second : 2 ≤ n → cds_base t view (k - k % 3 + 1) ≡ None → None ≡ fetch_codon t view k
    unfolding fetch_bases
    outside_second h f = whole (rw (ex, lt-ltb 1 n (omega arith), f))

    module _ (y : ℕ) (ey : cds_base t view (k - k % 3 + 1) ≡ Some y) where
      pub two_bases : 2 ≤ n → n < 3 → Some (record { len = n; first = x; second = y; third = 0 }) ≡ fetch_codon t view k
      unfolding fetch_bases
      two_bases h l = whole (rw (ex, lt-ltb 1 n (omega arith), ey, le-ltb 2 n (omega arith)))

      pub outside_third : 3 ≤ n → cds_base t view (k - k % 3 + 2) ≡ None → None ≡ fetch_codon t view k
      unfolding fetch_bases
      outside_third h g = whole (rw (ex, lt-ltb 1 n (omega arith), ey, lt-ltb 2 n (omega arith), g))

      pub three_bases : (z : ℕ) → 3 ≤ n → cds_base t view (k - k % 3 + 2) ≡ Some z → Some (record { len = n; first = x; second = y; third = z }) ≡ fetch_codon t view k
      unfolding fetch_bases
      three_bases z h g = whole (rw (ex, lt-ltb 1 n (omega arith), ey, lt-ltb 2 n (omega arith), g))
