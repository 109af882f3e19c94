use mathlib.Core.Path.{◌∙◌}
use native.Mathlib.Omega.{arith}
use Rattle.transcript.specs.code.Lent.{exons_in}
use Rattle.transcript.proofs.LentFacts.{pad_low}
use Rattle.transcript.proofs.OnParts.{on}
use Rattle.locate.proofs.LentTranscript.{ad}
use Rattle.locate.proofs.LentIndex.{sizes_bound}
use Rattle.pieces.proofs.IndexedTranscript.{row_alone, row_coding}
use Rattle.pieces.proofs.row.index_transcript.Goals as goal

pub store_sums-requires : goal.store_sums-requires
store_sums-requires c =
    let t = c.args.admitted.transcript.now in
    let k = on t ad c.args.admitted.admitted in
    let s = sizes_bound t.model.strand (exons_in t.exons) k.edges k.order in
    let q = c.requires.room in
    record { even = (k.even, omega arith); good_edges = k.edges; low = omega arith }

pub store_sums-requires-then-segments-ne0 : goal.store_sums-requires-then-segments-ne0
store_sums-requires-then-segments-ne0 c =
    let t = c.args.admitted.transcript.now in
    let k = on t ad c.args.admitted.admitted in
    let s = sizes_bound t.model.strand (exons_in t.segments.bases) k.segment_edges k.segment_order in
    let p = pad_low t.segments.phases.now in
    let e = c.pad_of.ensures in
    let g = c.from.ensures in
    let f = c.requires.cds_room (omega arith) in
    let n = c.store_sums.auto.sums in
    record { even = (k.even_segments_lem.ends, omega arith); good_edges = k.segment_edges; low = omega arith }

pub returns-else-segments-ne0 : goal.returns-else-segments-ne0
returns-else-segments-ne0 c =
    let f = c.has_frameshift_intron-short in
    let x = c.exons.ensures in
    let s = c.store_sums in
    on c.args.admitted.transcript.now row_alone c.args.admitted.admitted c.args.row c.args.cds_row c.args.sums.now f.result s.new.sums (rw (x.0, x.1) at f.ensures) s.ensures (omega arith)

pub returns-then-segments-ne0 : goal.returns-then-segments-ne0
returns-then-segments-ne0 c =
    let f = c.has_frameshift_intron-short in
    let x = c.exons.ensures in
    let s = c.store_sums in
    let p = c.from in
    let t = c.store_sums-then-segments-ne0 in
    on c.args.admitted.transcript.now row_coding c.args.admitted.admitted c.args.row c.args.cds_row c.args.sums.now f.result s.new.sums (rw (x.0, x.1) at f.ensures) s.ensures p.result t.new.sums (p.ensures ∙ c.pad_of.ensures) t.ensures (omega arith)
