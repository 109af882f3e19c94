use Rattle.std.proofs.Common.{◌≡◌, min, max, get_or, sym, ◌∙◌, arith}
use Rattle.transcript.specs.Orient.{orient}
use Rattle.transcript.proofs.Listed.{edges_at}
use Rattle.transcript.proofs.Matched.{match_pass, match_lacks, match_differs, match_same, match_end}
use Rattle.transcript.proofs.coding.are_cuts.Goals as goal
use Rattle.transcript.proofs.coding.are_cuts.Goals.{After-min-hi, then-k-segments-via-then-k-segments, then-k-segments-via-else-k-segments+then-not-is_cut, then-lo-hi+else-k-segments+else-not-is_cut, else-lo-hi}

-- what the exon has of the CDS
lo_is : (c : After-min-hi) → let x = c.args.exons.intervals in let cds = c.args.cds in let i = c.loop-i.i in
    c.max-lo.result ≡ max (orient c.args.exons.strand (get_or x.starts.now i 0) (get_or x.ends.now i 0)).start (orient c.args.exons.strand cds.cds_genomic_start cds.cds_genomic_end).start
lo_is c = c.max-lo.ensures ∙ rw (c.start_within.ensures, c.start_within-first.ensures)

hi_is : (c : After-min-hi) → let x = c.args.exons.intervals in let cds = c.args.cds in let i = c.loop-i.i in
    c.min-hi.result ≡ min (orient c.args.exons.strand (get_or x.starts.now i 0) (get_or x.ends.now i 0)).end (orient c.args.exons.strand cds.cds_genomic_start cds.cds_genomic_end).end
hi_is c = c.min-hi.ensures ∙ rw (c.end_within.ensures, c.end_within-past.ensures)

pub start_within-requires : goal.start_within-requires
start_within-requires c =
    let x = c.args.exons.intervals in
    let m = edges_at x.starts.now x.ends.now c.loop-i.i c.requires.edges c.requires.even c.loop-i-test.true in
    omega arith

pub end_within-requires : goal.end_within-requires
end_within-requires c =
    let x = c.args.exons.intervals in
    let m = edges_at x.starts.now x.ends.now c.loop-i.i c.requires.edges c.requires.even c.loop-i-test.true in
    omega arith

pub returns-then-k-segments : goal.returns-then-k-segments
returns-then-k-segments c =
    let x = c.args.exons.intervals in let cds = c.args.cds in let g = c.args.segments in let l = c.loop-i in
    let a = (goal.at.returns-then-k-segments c).After-min-hi in
    let s = l.invariant.some in
    elim c.then-k-segments.branch [
      | then-k-segments-via-then-k-segments w ↦
          match_lacks c.args.exons.strand x.starts.now x.ends.now cds.cds_genomic_start cds.cds_genomic_end g.exon_indexes.now g.bases.starts.now g.bases.ends.now
          c.requires l.k l.i l.invariant c.loop-i-test.true c.max-lo.result c.min-hi.result (lo_is a) (hi_is a) c.if-lo-hi.true w.if-k-segments.true
      | then-k-segments-via-else-k-segments+then-not-is_cut w ↦
          let some = w.if-k-segments.false in
          match_differs c.args.exons.strand x.starts.now x.ends.now cds.cds_genomic_start cds.cds_genomic_end g.exon_indexes.now g.bases.starts.now g.bases.ends.now
          c.requires l.k l.i l.invariant c.loop-i-test.true c.max-lo.result c.min-hi.result (lo_is a) (hi_is a) c.if-lo-hi.true (omega arith)
          (sym w.is_cut.ensures ∙ w.if-not-is_cut.true)
    ]

pub loop-i-preserved : goal.loop-i-preserved
loop-i-preserved c =
    let x = c.args.exons.intervals in let cds = c.args.cds in let g = c.args.segments in let l = c.loop-i in
    let a = (goal.at.loop-i-preserved c).After-min-hi in
    let s = l.invariant.some in
    elim c.if-lo-hi.branch [
      | then-lo-hi+else-k-segments+else-not-is_cut w ↦
          let some = w.if-k-segments.false in
          rw w.k-is
          (match_same c.args.exons.strand x.starts.now x.ends.now cds.cds_genomic_start cds.cds_genomic_end g.exon_indexes.now g.bases.starts.now g.bases.ends.now
          c.requires l.k l.i l.invariant c.loop-i-test.true c.max-lo.result c.min-hi.result (lo_is a) (hi_is a) w.if-lo-hi.true (omega arith)
          (sym w.is_cut.ensures ∙ w.if-not-is_cut.false))
      | else-lo-hi w ↦
          rw w.k-is
          (match_pass c.args.exons.strand x.starts.now x.ends.now cds.cds_genomic_start cds.cds_genomic_end g.exon_indexes.now g.bases.starts.now g.bases.ends.now
          c.requires l.k l.i l.invariant c.loop-i-test.true c.max-lo.result c.min-hi.result (lo_is a) (hi_is a) w.if-lo-hi.false)
    ]

pub returns : goal.returns
returns c =
    let x = c.args.exons.intervals in let cds = c.args.cds in let g = c.args.segments in let l = c.loop-i in
    match_end c.args.exons.strand x.starts.now x.ends.now cds.cds_genomic_start cds.cds_genomic_end g.exon_indexes.now g.bases.starts.now g.bases.ends.now
    c.requires l.k l.i l.invariant (omega arith)
