use Prim.Native.Nat.{ℕ}
use mathlib.Core.List.{List}
use native.Mathlib.Omega.{arith}
use lib.ListN.{length}
use borrow.Author.Tests.{lt-ltb, le-ltb}
use Rattle.transcript.specs.declared.Strand.{Strand}
use Rattle.transcript.specs.code.Lent.{lent_exons}
use Rattle.locate.specs.code.Search.{Ready}
use Rattle.locate.proofs.Searching.{start_top}
use Rattle.consequence.specs.Reading.{cds_base}
use Rattle.consequence.specs.code.Segments.{Segments, Held}
use Rattle.consequence.proofs.CodingBases.{reach, sum_le, base_is}
use Rattle.consequence.proofs.reading.cds_base.Goals as goal
use Rattle.consequence.proofs.reading.cds_base.Goals.{Start}

-- a law about an offset and the segment that holds it, at them
abbrev on : (b : Start) → {P : Strand → List ℕ → List ℕ → List ℕ → ℕ → ℕ → ℕ → Type 0}
    → ((σ : Strand) (gs ge sums : List ℕ) (pad : ℕ) (r : Ready σ gs ge) (s : Segments (lent_exons σ gs ge) sums pad) (k i : ℕ) (h : Held sums (length gs) k i) → P σ gs ge sums pad k i)
    → P b.args.segments.now.strand b.args.segments.now.intervals.starts.now b.args.segments.now.intervals.ends.now b.args.sums.now b.args.pad b.args.k b.args.i
on b f = f b.args.segments.now.strand b.args.segments.now.intervals.starts.now b.args.segments.now.intervals.ends.now b.args.sums.now b.args.pad b.args.segments.now.ready b.requires.segments b.args.k b.args.i b.requires.held

pub returns-then-k-pad : goal.returns-then-k-pad
unfolding cds_base
returns-then-k-pad c = let a = c.args in λ t h s. rw (h, lt-ltb a.k a.pad (omega arith))

pub bounds-sums-i : goal.bounds-sums-i
bounds-sums-i c = let r = reach c.args.segments.now.strand c.args.segments.now.intervals.starts.now c.args.segments.now.intervals.ends.now c.args.sums.now c.args.pad c.args.segments.now.ready c.requires.segments in let h = c.requires.held.index in omega arith

pub overflow_sub-d : goal.overflow_sub-d
overflow_sub-d c = on (goal.at.overflow_sub-d c).Start sum_le (omega arith)

pub start-requires : goal.start-requires
start-requires c = c.requires.held.index

pub overflow_add-start : goal.overflow_add-start
overflow_add-start c = let s = c.args.segments.now in let t = start_top s.strand s.intervals.starts.now s.intervals.ends.now s.ready c.args.i c.requires.held.index in let e = c.start.ensures in omega arith

pub returns : goal.returns
unfolding cds_base
returns c =
    λ t h s. rw (h, s, le-ltb c.args.k c.args.pad (omega arith), on (goal.at.returns c).Start base_is (omega arith), ← c.start.ensures, ← c.base_of-p.ensures) c.coding_base_at.ensures
