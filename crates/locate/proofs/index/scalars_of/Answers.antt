use mathlib.Core.Path.{◌≡◌}
use native.Mathlib.Omega.{arith}
use Rattle.transcript.specs.Transcript.{cds_start, cds_end}
use Rattle.transcript.specs.Orient.{orient}
use Rattle.transcript.proofs.OnParts.{on}
use Rattle.locate.proofs.LentTranscript.{ad, segment_count, head_is}
use Rattle.locate.proofs.LentIndex.{exonic}
use Rattle.locate.proofs.LentScalars.{first_holding, last_bound, scalars_are}
use Rattle.locate.proofs.index.scalars_of.Goals as goal
use Rattle.locate.proofs.index.scalars_of.Goals.{After-start_of-from, Start}

-- the first coding base
from : (c : After-start_of-from) → c.start_of-from.result ≡ (orient c.args.admitted.transcript.now.model.strand (cds_start c.args.admitted.transcript.now.model.cds) (cds_end c.args.admitted.transcript.now.model.cds)).start
from c = rw (c.start_or_zero-s.ensures, c.end_or_zero-e.ensures) at c.start_of-from.ensures

pub bounds-cumulative_cds-count : goal.bounds-cumulative_cds-count
bounds-cumulative_cds-count c =
    let l = on c.args.admitted.transcript.now segment_count c.args.admitted.admitted in
    let r = c.requires.sums.1.0.reach in
    omega arith

pub utr5_length-requires : goal.utr5_length-requires
utr5_length-requires c =
    let x = c.exons.ensures in
    record { sums = rw (x.0, x.1) (on c.args.admitted.transcript.now exonic c.args.admitted.admitted c.args.cumulative_exons.now c.requires.sums.0); first_held = rw (x.0, x.1) (on c.args.admitted.transcript.now first_holding c.args.admitted.admitted c.first_index-first.result c.start_of-from.result c.first_index-first.ensures (from (goal.at.utr5_length-requires c).After-start_of-from)) }

pub last_exon-requires : goal.last_exon-requires
last_exon-requires c =
    let l = on c.args.admitted.transcript.now last_bound c.args.admitted.admitted in
    let e = on c.args.admitted.transcript.now head_is c.args.admitted.admitted in
    let f = c.first_index-first.ensures in
    (omega arith, (on c.args.admitted.transcript.now ad c.args.admitted.admitted).few_segments)

pub returns : goal.returns
returns c =
    let x = c.exons.ensures in
    on c.args.admitted.transcript.now scalars_are c.args.admitted.admitted c.args.cumulative_exons.now c.args.cumulative_cds.now c.requires.sums.0 c.requires.sums.1 c.utr5_length.result c.first_index-first.result c.last_exon.result c.args.short
    (rw (x.0, x.1, from (goal.at.returns c).After-start_of-from) at c.utr5_length.ensures) c.first_index-first.ensures c.last_exon.ensures c.requires.short
