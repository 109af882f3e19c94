-- The bases before a base of an interval, from the length of the intervals before it.
-- Assumes nothing.
use Prim.Native.Nat.{ℕ, ◌+◌, ◌-◌, ◌≤◌, ◌<◌}
use mathlib.Core.Path.{◌≡◌, ap}
use mathlib.Core.Bool.{true}
use mathlib.Core.List.{List, map}
use native.Mathlib.Omega.{arith}
use lib.ListN.{length, get_or}
use Rattle.transcript.specs.declared.Strand.{Strand}
use Rattle.transcript.specs.Limits.{top}
use Rattle.transcript.specs.Transcript.{exons_of}
use Rattle.transcript.specs.Bases.{inside, sum, bases_in}
use Rattle.transcript.specs.code.Lent.{exon_size, lent_exons}
use Rattle.transcript.proofs.Orient.{inside_start, inside_end}
use Rattle.transcript.proofs.Listed.{nowhere}
use Rattle.locate.specs.Index.{cumulative}
use Rattle.locate.specs.code.Search.{Ready}
use Rattle.locate.proofs.Sums.{bases_le, sum_before}
use Rattle.locate.proofs.Searching.{ascends, count, end_at_lem, end_top}
use Rattle.locate.proofs.LentIndex.{sizes_turned, sizes_bound}

module _ (σ : Strand) (ss es : List ℕ) (r : Ready σ ss es) where
  pub lengths_low : sum (map exon_size (exons_of ss es)) ≤ top
  lengths_low = sizes_bound σ (exons_of ss es) r.edges r.order

  module _ (k p start : ℕ) (l : k < length ss) (h : inside p (get_or (lent_exons σ ss es) k nowhere) ≡ true) (starts : start ≡ (get_or (lent_exons σ ss es) k nowhere).start) where
    pub start_before : start ≤ p
    start_before = let s = starts in let i = inside_start p (get_or (lent_exons σ ss es) k nowhere) h in omega arith

    pub base_low : p ≤ top
    base_low =
        let i = inside_end p (get_or (lent_exons σ ss es) k nowhere) h in
        let q = end_at_lem σ ss es r k l in
        let t = end_top σ ss es r k l in
        omega arith

    pub bases_are : get_or (cumulative 0 (map exon_size (exons_of ss es))) k 0 + (p - start) ≡ bases_in (lent_exons σ ss es) 0 p
    bases_are =
        let xs = lent_exons σ ss es in
        let n = count σ ss es r in
        let z = ap (λ (ns : List ℕ). get_or (cumulative 0 ns) k 0) (sizes_turned σ (exons_of ss es) r.edges) in
        let s = starts in
        let b = sum_before xs 0 0 k p (ascends σ ss es r) (omega arith) (inside_start p (get_or xs k nowhere) h) (inside_end p (get_or xs k nowhere) h) in
        omega arith

    pub bases_low : get_or (cumulative 0 (map exon_size (exons_of ss es))) k 0 + (p - start) ≤ top
    bases_low = let b = bases_are in let t = bases_le (lent_exons σ ss es) 0 p (ascends σ ss es r) in let u = base_low in omega arith
