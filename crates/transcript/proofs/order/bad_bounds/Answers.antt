use Rattle.std.proofs.Common.{◌-◌, length, sym, arith}
use borrow.Author.Tests.{eq-eqb, ne_eqb}
use Rattle.transcript.proofs.Listed.{edges_at, outer_start, outer_end}
use Rattle.transcript.proofs.order.bad_bounds.Goals as goal

pub start_within-requires-2 : goal.start_within-requires-2
start_within-requires-2 c =
    let x = c.args.exons.intervals in
    let m = edges_at x.starts.now x.ends.now 0 c.requires.good_edges c.requires.even c.requires.some in
    omega arith

pub end_within-requires-else-start_within : goal.end_within-requires-else-start_within
end_within-requires-else-start_within c =
    let x = c.args.exons.intervals in
    let s = c.requires.some in
    let m = edges_at x.starts.now x.ends.now (length x.starts.now - 1) c.requires.good_edges c.requires.even (omega arith) in
    omega arith

pub returns-then-start_within : goal.returns-then-start_within
returns-then-start_within c =
    let x = c.args.exons.intervals in
    rw (outer_start c.args.exons.strand x.starts.now x.ends.now c.requires.even c.requires.some, sym c.start_within.ensures, sym c.start_within-2.ensures, ne_eqb c.start_within.result c.start_within-2.result c.if-start_within.true)

pub returns-else-start_within : goal.returns-else-start_within
returns-else-start_within c =
    let x = c.args.exons.intervals in
    rw (outer_start c.args.exons.strand x.starts.now x.ends.now c.requires.even c.requires.some, outer_end c.args.exons.strand x.starts.now x.ends.now c.requires.even c.requires.some, sym c.start_within.ensures, sym c.start_within-2.ensures, eq-eqb c.start_within.result c.start_within-2.result c.if-start_within.false, sym c.end_within.ensures, sym c.end_within-else-start_within.ensures)
