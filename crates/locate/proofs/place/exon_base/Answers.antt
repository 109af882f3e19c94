use Prim.Native.Nat.{◌≤◌, ◌<◌}
use mathlib.Core.Path.{◌≡◌, refl, ◌∙◌}
use native.Mathlib.Omega.{arith}
use lib.ListN.{length}
use Rattle.transcript.specs.Limits.{top, max_exons}
use Rattle.transcript.specs.Transcript.{cds_start, cds_end}
use Rattle.transcript.specs.Orient.{orient}
use Rattle.transcript.proofs.OnParts.{on}
use Rattle.locate.proofs.LentTranscript.{ready}
use Rattle.locate.proofs.AloneFacts.{without_cds}
use Rattle.locate.proofs.PlaceFacts.{pad_fits, index_low, in_reach, end_high, read_low, countable_code, exonic_code}
use Rattle.locate.proofs.place.exon_base.Goals as goal
use Rattle.locate.proofs.place.exon_base.Goals.{After-end_of-b, Start}

-- the exon's index is low, and so is the base
low : (b : Start) → (b.args.exon.index < length b.args.admitted.transcript.now.exons.starts.now) × (length b.args.admitted.transcript.now.exons.starts.now ≤ max_exons) × (b.args.exon.end ≤ top)
low b = (on b.args.admitted.transcript.now index_low b.args.admitted.admitted b.args.scalars b.args.cumulative_exons.now b.requires.indexed.0 b.requires.indexed.1 b.args.exon b.args.p b.requires.holds, (on b.args.admitted.transcript.now ready b.args.admitted.admitted).few, on b.args.admitted.transcript.now end_high b.args.admitted.admitted b.args.scalars b.args.cumulative_exons.now b.requires.indexed.0 b.requires.indexed.1 b.args.exon b.args.p b.requires.holds)

pub offset_at-before-requires : goal.offset_at-before-requires
offset_at-before-requires c =
    let l = low (goal.at.offset_at-before-requires c).Start in let i = l.0 in let f = l.1 in let e = l.2 in
    let t = c.requires.holds.to in
    (on c.args.admitted.transcript.now in_reach c.args.admitted.admitted c.args.scalars c.args.cumulative_exons.now c.requires.indexed.0 c.requires.indexed.1 c.args.exon c.args.p c.requires.holds, on c.args.admitted.transcript.now read_low c.args.admitted.admitted c.args.scalars c.args.cumulative_exons.now c.requires.indexed.0 c.requires.indexed.1 c.args.exon c.args.p c.requires.holds, c.requires.holds.from, omega arith)

pub overflow_sub-coding_end : goal.overflow_sub-coding_end
overflow_sub-coding_end c = on c.args.admitted.transcript.now pad_fits c.args.admitted.admitted c.args.scalars c.args.cumulative_exons.now c.requires.indexed.0 c.requires.indexed.1

pub overflow_add-coding_end : goal.overflow_add-coding_end
overflow_add-coding_end c =
    let n = c.if-count-eq0.false in
    let l = (on c.args.admitted.transcript.now countable_code c.args.admitted.admitted c.args.scalars c.args.cumulative_exons.now c.requires.indexed.0 c.requires.indexed.1 c.args.exon c.args.p c.requires.holds (omega arith) _ _ _ refl refl refl).end_low in
    omega arith

pub is_exonic_splice_region-mark-requires : goal.is_exonic_splice_region-mark-requires
is_exonic_splice_region-mark-requires c = let l = low (goal.at.is_exonic_splice_region-mark-requires c).Start in (l.0, l.1, c.requires.holds.from, c.requires.holds.to, l.2)

pub returns-then-count-eq0 : goal.returns-then-count-eq0
returns-then-count-eq0 c =
    let k = c.is_exonic_splice_region-mark in
    on c.args.admitted.transcript.now without_cds c.args.admitted.admitted c.args.exon c.args.p c.requires.holds k.result k.ensures c.if-count-eq0.true

-- the edges of the CDS
edges : (c : After-end_of-b) → let g = orient c.args.admitted.transcript.now.model.strand (cds_start c.args.admitted.transcript.now.model.cds) (cds_end c.args.admitted.transcript.now.model.cds) in (c.start_of-a.result ≡ g.start) × (c.end_of-b.result ≡ g.end)
edges c =
    let s = c.start_or_zero-s.ensures in
    let e = c.end_or_zero-e.ensures in
    (rw (s, e) at c.start_of-a.ensures, rw (s, e) at c.end_of-b.ensures)

pub overflow_cast-i : goal.overflow_cast-i
overflow_cast-i c = let l = low (goal.at.overflow_cast-i c).Start in let i = l.0 in let f = l.1 in omega arith

pub exonic_place-requires : goal.exonic_place-requires
exonic_place-requires c =
    let n = c.if-count-eq0.false in
    on c.args.admitted.transcript.now countable_code c.args.admitted.admitted c.args.scalars c.args.cumulative_exons.now c.requires.indexed.0 c.requires.indexed.1 c.args.exon c.args.p c.requires.holds (omega arith) c.start_of-a.result c.end_of-b.result c.offset_at-before.result (edges (goal.at.exonic_place-requires c).After-end_of-b).0 (edges (goal.at.exonic_place-requires c).After-end_of-b).1 c.offset_at-before.ensures

pub returns : goal.returns
returns c =
    let g = edges (goal.at.returns c).After-end_of-b in
    let n = c.if-count-eq0.false in
    c.exonic_place.ensures
    ∙ on c.args.admitted.transcript.now exonic_code c.args.admitted.admitted c.args.scalars c.args.cumulative_exons.now c.requires.indexed.0 c.requires.indexed.1 c.args.exon c.args.p c.requires.holds (omega arith) c.start_of-a.result c.end_of-b.result c.offset_at-before.result g.0 g.1 c.offset_at-before.ensures c.is_exonic_splice_region-mark.result c.is_exonic_splice_region-mark.ensures
