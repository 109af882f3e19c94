use Prim.Native.Nat.{ℕ, ◌+◌, ◌-◌, ◌≤◌, ◌<◌}
use mathlib.Core.Path.{◌≡◌, ap}
use mathlib.Core.List.{List}
use native.Mathlib.Omega.{arith}
use lib.ListN.{length, get_or}
use Rattle.transcript.specs.declared.Strand.{Strand}
use Rattle.transcript.specs.Limits.{top}
use Rattle.transcript.specs.code.Lent.{lent_exons}
use Rattle.transcript.proofs.Listed.{nowhere}
use Rattle.locate.specs.code.Search.{Ready}
use Rattle.locate.specs.code.Sums.{first_sum, Sums}
use Rattle.locate.proofs.Searching.{count}
use Rattle.consequence.proofs.ExonBases.{from_le, read_bases, bases_low}
use Rattle.consequence.proofs.cdna.compute_cdna_position_exonic.Goals as goal
use Rattle.consequence.proofs.cdna.compute_cdna_position_exonic.Goals.{Start}

-- a law about the base and its exon, at them
abbrev on : (b : Start) → {P : (σ : Strand) (ss es sums : List ℕ) (i p from : ℕ) → Type 0}
    → ((σ : Strand) (ss es sums : List ℕ) (i p : ℕ) (r : Ready σ ss es) (s : Sums (lent_exons σ ss es) sums) (z : first_sum sums ≡ 0) (l : i < length ss)
    (a : (get_or (lent_exons σ ss es) i nowhere).start ≤ p) (e : p < (get_or (lent_exons σ ss es) i nowhere).end) (from : ℕ) (f : from ≡ (get_or (lent_exons σ ss es) i nowhere).start) → P σ ss es sums i p from)
    → (from : ℕ) → from ≡ (get_or (lent_exons b.args.exons.strand b.args.exons.intervals.starts.now b.args.exons.intervals.ends.now) b.args.i nowhere).start
    → P b.args.exons.strand b.args.exons.intervals.starts.now b.args.exons.intervals.ends.now b.args.sums.now b.args.i b.args.p from
on b f from e =
    f b.args.exons.strand b.args.exons.intervals.starts.now b.args.exons.intervals.ends.now b.args.sums.now b.args.i b.args.p
    b.args.exons.ready b.requires.sums.0 b.requires.sums.1 b.requires.held.0 b.requires.held.1 b.requires.held.2 from e

pub overflow_sub-d : goal.overflow_sub-d
overflow_sub-d c = on (goal.at.overflow_sub-d c).Start from_le c.start.result c.start.ensures

pub bounds-sums-i : goal.bounds-sums-i
bounds-sums-i c = let n = count c.args.exons.strand c.args.exons.intervals.starts.now c.args.exons.intervals.ends.now c.args.exons.ready in let r = c.requires.sums.0.reach in omega arith

-- the bases before the exon and the place in it
read_low : (b : Start) (from : ℕ) → from ≡ (get_or (lent_exons b.args.exons.strand b.args.exons.intervals.starts.now b.args.exons.intervals.ends.now) b.args.i nowhere).start
    → get_or b.args.sums.now b.args.i 0 + (b.args.p - from) < top
read_low b from e = rw (on b read_bases from e) (on b bases_low from e)

pub overflow_cast-result : goal.overflow_cast-result
overflow_cast-result c = let l = read_low (goal.at.overflow_cast-result c).Start c.start.result c.start.ensures in omega arith

pub overflow_add-result : goal.overflow_add-result
overflow_add-result c = let l = read_low (goal.at.overflow_add-result c).Start c.start.result c.start.ensures in omega arith

pub overflow_add-result-2 : goal.overflow_add-result-2
overflow_add-result-2 c = let l = read_low (goal.at.overflow_add-result-2 c).Start c.start.result c.start.ensures in omega arith

pub returns : goal.returns
returns c = ap (λ (n : ℕ). n + 1) (on (goal.at.returns c).Start read_bases c.start.result c.start.ensures)
