-- The windows that one base hits: those of a gap of one base, from beside it.
-- Assumes nothing.
use Prim.Native.Nat.{ℕ, ◌+◌, ◌-◌, ◌≤◌, ◌<◌}
use mathlib.Core.Path.{◌≡◌, sym}
use mathlib.Core.Bool.{Bool, true, false, not, ◌&&◌}
use native.Mathlib.Omega.{arith}
use lib.Dec.{leb, ltb}
use borrow.Author.Tests.{lt-ltb, ltb-true, ltb-false}
use Rattle.common.proofs.TestParts.{on_test, and_true, true_false}
use Rattle.transcript.specs.Orient.{interval}
use Rattle.footprint.specs.ShortIntron.{is_frameshift_gap, overlap, hits, donor_window, acceptor_window, spills_into}

-- a base that hits a window lies in it and not in the gap, which has a base
module _ (s e a b p : ℕ) (h : (is_frameshift_gap (interval s e) && hits (interval p (p + 1)) (interval s e) (interval a b)) ≡ true) where
  parts : (s < e) × (p < b) × (a < p + 1) × (overlap (interval p (p + 1)) (interval s e) ≡ false)
  parts =
      let short = and_true (is_frameshift_gap (interval s e)) (hits (interval p (p + 1)) (interval s e) (interval a b)) h in
      let some = ltb-true 0 (e - s) (and_true (ltb 0 (e - s)) (leb (e - s) 13) short.0).0 in
      let hit = and_true (not (overlap (interval p (p + 1)) (interval s e))) (overlap (interval p (p + 1)) (interval a b)) short.1 in
      let over = and_true (ltb p b) (ltb a (p + 1)) hit.1 in
      (omega arith, ltb-true p b over.0, ltb-true a (p + 1) over.1, off (overlap (interval p (p + 1)) (interval s e)) hit.0)
    where
      off : (b : Bool) → not b ≡ true → b ≡ false
      off true h = sym h
      off false h = (λ i. false)

  beside : s < p + 1 → e ≤ p
  beside l = on_test (ltb p e)
      (λ x. absurd (true_false (rw (x, lt-ltb s (p + 1) l) at parts.3)))
      (λ x. ltb-false p e x)

module _ (s e p : ℕ) where
  -- the donor window reaches the base behind the gap
  pub donor_only : spills_into donor_window (interval p (p + 1)) (interval s e) ≡ true → (e ≡ p) × (s + 1 ≡ p)
  donor_only h =
      let k = parts s e s (s + 2) p h in
      let a = k.0 in let b = k.1 in let c = k.2 in
      let l = beside s e s (s + 2) p h c in
      (omega arith, omega arith)

  -- the acceptor window reaches the base before it
  pub acceptor_only : spills_into acceptor_window (interval p (p + 1)) (interval s e) ≡ true → (s ≡ p + 1) × (e ≡ p + 2)
  acceptor_only h =
      let k = parts s e (e - 2) e p h in
      let a = k.0 in let b = k.1 in let c = k.2 in
      let l = before in
      (omega arith, omega arith)
    where
      before : p < s
      before = on_test (ltb p s) (λ x. ltb-true p s x)
          (λ x. (let n = ltb-false p s x in
          let k = parts s e (e - 2) e p h in
          let b = k.1 in
          let l = beside s e (e - 2) e p h (omega arith) in
          absurd (omega arith)))
