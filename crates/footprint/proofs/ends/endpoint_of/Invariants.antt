use Rattle.std.specs.Prelude.{◌≡◌, drop}
use Rattle.footprint.specs.code.Lent.{span_of, gaps_in}
use Rattle.footprint.specs.ShortIntron.{endpoint_from}
use Rattle.footprint.proofs.ends.endpoint_of.Given as goal

abbrev pub invariant-loop-i : goal.invariant-loop-i
invariant-loop-i l =
    let t = l.fn.admitted.transcript.now in
    endpoint_from l.i (span_of l.q) (drop l.i (gaps_in t.model.strand t.exons)) ≡ endpoint_from 0 (span_of l.q) (gaps_in t.model.strand t.exons)
