-- A base of an exon: its cDNA position from the cumulative lengths.
-- Assumes nothing.
use Prim.Native.Nat.{ℕ, ◌+◌, ◌-◌, ◌≤◌, ◌<◌}
use mathlib.Core.Path.{◌≡◌}
use mathlib.Core.List.{List}
use native.Mathlib.Omega.{arith}
use lib.ListN.{length, get_or}
use Rattle.transcript.specs.declared.Strand.{Strand}
use Rattle.transcript.specs.Limits.{top}
use Rattle.transcript.specs.Bases.{bases_in}
use Rattle.transcript.proofs.Listed.{nowhere}
use Rattle.transcript.specs.code.Lent.{lent_exons}
use Rattle.locate.specs.code.Search.{Ready}
use Rattle.locate.specs.code.Sums.{first_sum, Sums}
use Rattle.locate.proofs.Sums.{bases_le}
use Rattle.locate.proofs.Offset.{read_sum}
use Rattle.locate.proofs.Searching.{ascends, count, end_at_lem, end_top}

-- base p of exon i, whose start is `from`
module _ (σ : Strand) (ss es sums : List ℕ) (i p : ℕ) (r : Ready σ ss es) (s : Sums (lent_exons σ ss es) sums) (z : first_sum sums ≡ 0) (l : i < length ss)
    (a : (get_or (lent_exons σ ss es) i nowhere).start ≤ p) (b : p < (get_or (lent_exons σ ss es) i nowhere).end) (from : ℕ) (f : from ≡ (get_or (lent_exons σ ss es) i nowhere).start) where
  pub from_le : from ≤ p
  from_le = omega arith

  pub read_bases : get_or sums i 0 + (p - from) ≡ bases_in (lent_exons σ ss es) 0 p
  read_bases =
      let n = count σ ss es r in
      let q = read_sum (lent_exons σ ss es) sums (ascends σ ss es r) s i p (omega arith) a b in
      omega arith

  pub bases_low : bases_in (lent_exons σ ss es) 0 p < top
  bases_low =
      let e = end_at_lem σ ss es r i l in
      let h = end_top σ ss es r i l in
      let q = bases_le (lent_exons σ ss es) 0 p (ascends σ ss es r) in
      omega arith
