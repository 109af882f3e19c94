-- A base hits only windows of the gaps beside the exon that holds it.
-- Assumes nothing.
use Prim.Native.Nat.{ℕ, zero, suc, ◌+◌, ◌-◌, ◌≤◌, ◌<◌}
use mathlib.Core.Path.{◌≡◌}
use mathlib.Core.Bool.{true, false}
use mathlib.Core.List.{List, [], ◌∷◌}
use native.Mathlib.Omega.{arith}
use lib.ListN.{length, get_or}
use lib.Dec.{ltb}
use borrow.Author.Tests.{ltb-true, ltb-false}
use Rattle.common.specs.Lists.{any}
use Rattle.common.proofs.TestParts.{on_test}
use Rattle.common.proofs.Lists.{any_off, any_one}
use Rattle.transcript.specs.Orient.{Interval, interval}
use Rattle.transcript.specs.Bases.{gaps}
use Rattle.transcript.proofs.Ascends.{Ascends}
use Rattle.transcript.proofs.Listed.{nowhere}
use Rattle.footprint.specs.ShortIntron.{donor_window, acceptor_window, spills_into}
use Rattle.footprint.proofs.GapList.{gaps_length, gaps_at}
use Rattle.footprint.proofs.BaseSpills.{donor_only, acceptor_only}
use Rattle.locate.specs.code.Search.{Started}
use Rattle.locate.proofs.Sums.{starts_from}
use Rattle.locate.proofs.Walking.{some_at}

-- an interval ends at or before the start of the next
ends_before : (xs : List Interval) (e k : ℕ) → Ascends e xs → suc k < length xs → (get_or xs k nowhere).end ≤ (get_or xs (suc k) nowhere).start
ends_before [] e k h l = absurd (omega arith)
ends_before (x ∷ xs) e zero h l = starts_from xs x.end 0 h.2 (omega arith)
ends_before (x ∷ xs) e (suc k) h l = ends_before xs x.end k h.2 (omega arith)

-- n intervals start at or before p
module _ (xs : List Interval) (p n : ℕ) (h : Ascends 0 xs) (m : n ≤ length xs) (s : Started xs p n) where
  donor_index : (k : ℕ) → k < length (gaps xs) → spills_into donor_window (interval p (p + 1)) (get_or (gaps xs) k nowhere) ≡ true → suc (suc k) ≡ n
  donor_index k l t =
      let c = gaps_length xs in
      let d = donor_only (get_or xs k nowhere).end (get_or xs (suc k) nowhere).start p (rw (gaps_at xs k (omega arith)) at t) in
      let e = d.0 in
      on_test (ltb (suc k) n)
      (λ x. (let y = ltb-true (suc k) n x in
      on_test (ltb (suc (suc k)) n)
      (λ z. (let w = ltb-true (suc (suc k)) n z in
      let a = s.before (suc (suc k)) w in
      let b = ends_before xs 0 (suc k) h (omega arith) in
      let g = some_at xs 0 (suc k) h (omega arith) in
      absurd (omega arith)))
      (λ z. (let w = ltb-false (suc (suc k)) n z in omega arith))))
      (λ x. (let y = ltb-false (suc k) n x in let a = s.after (suc k) y (omega arith) in absurd (omega arith)))

  acceptor_index : (k : ℕ) → k < length (gaps xs) → spills_into acceptor_window (interval p (p + 1)) (get_or (gaps xs) k nowhere) ≡ true → suc k ≡ n
  acceptor_index k l t =
      let c = gaps_length xs in
      let d = acceptor_only (get_or xs k nowhere).end (get_or xs (suc k) nowhere).start p (rw (gaps_at xs k (omega arith)) at t) in
      let e = d.0 in
      let f = d.1 in
      on_test (ltb k n)
      (λ x. (let y = ltb-true k n x in
      on_test (ltb (suc k) n)
      (λ z. (let a = s.before (suc k) (ltb-true (suc k) n z) in absurd (omega arith)))
      (λ z. (let w = ltb-false (suc k) n z in omega arith))))
      (λ x. (let a = s.after k (ltb-false k n x) (omega arith) in let g = some_at xs 0 k h (omega arith) in absurd (omega arith)))

  pub no_donor : n < 2 → false ≡ any (spills_into donor_window (interval p (p + 1))) (gaps xs)
  no_donor l = any_off (spills_into donor_window (interval p (p + 1))) (gaps xs) nowhere (λ k i t. let e = donor_index k i t in absurd (omega arith))

  pub one_donor : 2 ≤ n → spills_into donor_window (interval p (p + 1)) (get_or (gaps xs) (n - 2) nowhere) ≡ any (spills_into donor_window (interval p (p + 1))) (gaps xs)
  one_donor l =
      let c = gaps_length xs in
      any_one (spills_into donor_window (interval p (p + 1))) (gaps xs) (n - 2) nowhere (omega arith) (λ k i t. let e = donor_index k i t in omega arith)

  pub no_acceptor : (0 < n → n < length xs → ⊥) → false ≡ any (spills_into acceptor_window (interval p (p + 1))) (gaps xs)
  no_acceptor l =
      let c = gaps_length xs in
      any_off (spills_into acceptor_window (interval p (p + 1))) (gaps xs) nowhere (λ k i t. let e = acceptor_index k i t in l (omega arith) (omega arith))

  pub one_acceptor : 0 < n → n < length xs → spills_into acceptor_window (interval p (p + 1)) (get_or (gaps xs) (n - 1) nowhere) ≡ any (spills_into acceptor_window (interval p (p + 1))) (gaps xs)
  one_acceptor l k =
      let c = gaps_length xs in
      any_one (spills_into acceptor_window (interval p (p + 1))) (gaps xs) (n - 1) nowhere (omega arith) (λ j i t. let e = acceptor_index j i t in omega arith)
