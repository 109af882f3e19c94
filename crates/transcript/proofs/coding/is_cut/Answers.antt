use Rattle.std.proofs.Common.{arith}
use Rattle.transcript.proofs.Listed.{edges_at}
use Rattle.transcript.proofs.coding.is_cut.Goals as goal

pub start_within-requires : goal.start_within-requires
start_within-requires c =
    let x = c.args.segments.bases in
    let k = c.requires.in_bounds in
    let m = edges_at x.starts.now x.ends.now c.args.k c.requires.good_edges c.requires.even.1 (omega arith) in
    omega arith

pub end_within-requires : goal.end_within-requires
end_within-requires c =
    let x = c.args.segments.bases in
    let k = c.requires.in_bounds in
    let m = edges_at x.starts.now x.ends.now c.args.k c.requires.good_edges c.requires.even.1 (omega arith) in
    omega arith
