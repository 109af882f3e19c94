use Prim.Native.Nat.{ℕ, ◌+◌, ◌≤◌, ◌<◌}
use mathlib.Core.Path.{◌≡◌, ◌∙◌}
use native.Mathlib.Omega.{arith}
use lib.ListN.{length}
use borrow.Author.Tests.{lt-ltb}
use Rattle.transcript.specs.Limits.{top, max_exons}
use Rattle.transcript.specs.Transcript.{cds_start, cds_end}
use Rattle.transcript.specs.Orient.{interval, orient}
use Rattle.transcript.specs.Bases.{bases_in}
use Rattle.transcript.specs.code.Lent.{oriented_in}
use Rattle.locate.specs.declared.exonic.Counts.{Counts}
use Rattle.locate.specs.code.Exonic.{counts, Countable}
use Rattle.transcript.proofs.OnParts.{on}
use Rattle.std.specs.Prelude.{Option}
use Rattle.transcript.specs.declared.Strand.{Strand}
use Rattle.transcript.specs.declared.CdsBounds.{CdsBounds}
use Rattle.locate.proofs.LentTranscript.{ready}
use Rattle.locate.proofs.LentScalars.{first_holding}
use Rattle.locate.proofs.AloneFacts.{index_low, end_high, held, without_cds, countable_alone, exonic_alone}
use Rattle.locate.proofs.alone.exon_alone.Goals as goal
use Rattle.locate.proofs.alone.exon_alone.Goals.{After-bases_before-utr5, After-length_before, Start}

-- the exon's index is low, and so is the base
low : (b : Start) → (b.args.exon.index < length b.args.admitted.transcript.now.exons.starts.now) × (length b.args.admitted.transcript.now.exons.starts.now ≤ max_exons) × (b.args.exon.end ≤ top)
low b = (on b.args.admitted.transcript.now index_low b.args.admitted.admitted b.args.exon b.args.p b.requires.holds, (on b.args.admitted.transcript.now ready b.args.admitted.admitted).few, on b.args.admitted.transcript.now end_high b.args.admitted.admitted b.args.exon b.args.p b.requires.holds)

pub is_exonic_splice_region-mark-requires : goal.is_exonic_splice_region-mark-requires
is_exonic_splice_region-mark-requires c = let l = low (goal.at.is_exonic_splice_region-mark-requires c).Start in (l.0, l.1, c.requires.holds.from, c.requires.holds.to, l.2)

pub overflow_cast-result : goal.overflow_cast-result
overflow_cast-result c = let l = low (goal.at.overflow_cast-result c).Start in let i = l.0 in let f = l.1 in omega arith

pub returns-then-count-eq0 : goal.returns-then-count-eq0
returns-then-count-eq0 c =
    let k = c.is_exonic_splice_region-mark in
    on c.args.admitted.transcript.now without_cds c.args.admitted.admitted c.args.exon c.args.p c.requires.holds k.result k.ensures c.if-count-eq0.true

-- the edges of the CDS
edges : (σ : Strand) (b : Option CdsBounds) {s e x y : ℕ} → s ≡ cds_start b → e ≡ cds_end b → x ≡ (orient σ s e).start → y ≡ (orient σ s e).end
    → (x ≡ (orient σ (cds_start b) (cds_end b)).start) × (y ≡ (orient σ (cds_start b) (cds_end b)).end)
edges σ b hs he hx hy = (rw (hs, he) at hx, rw (hs, he) at hy)

pub bases_before-before-requires : goal.bases_before-before-requires
bases_before-before-requires c =
    let x = c.exons-exons.ensures in
    record { held = rw (x.0, x.1) ((low (goal.at.bases_before-before-requires c).Start).0, on c.args.admitted.transcript.now held c.args.admitted.admitted c.args.exon c.args.p c.requires.holds) }

pub bases_before-utr5-requires : goal.bases_before-utr5-requires
bases_before-utr5-requires c =
    let f = c.first_index-first in
    let n = c.if-count-eq0.false in
    let x = c.exons-exons.ensures in
    record { held = rw (x.0, x.1) (on c.args.admitted.transcript.now first_holding c.args.admitted.admitted f.result c.start_of-a.result f.ensures (edges c.args.admitted.transcript.now.model.strand c.args.admitted.transcript.now.model.cds c.start_or_zero-s.ensures c.end_or_zero-e.ensures c.start_of-a.ensures c.end_of-b.ensures).0 (lt-ltb 0 (length c.args.admitted.transcript.now.segments.bases.starts.now) (omega arith))) }

pub length_before-requires : goal.length_before-requires
length_before-requires c = let x = c.segments.ensures in rw (x.1) (omega arith)

-- the counts of the base
abbrev numbers : After-length_before → Counts
numbers c = counts c.bases_before-before.result c.bases_before-utr5.result (c.bases_before-utr5.result + c.length_before.result) c.pad_of-pad.result c.first_index-first.result

-- the bases before it and before the CDS, of the transcript's exons
befores : (c : After-bases_before-utr5) → (c.bases_before-before.result ≡ bases_in (oriented_in c.args.admitted.transcript.now.model.strand c.args.admitted.transcript.now.exons) 0 c.args.p)
    × (c.bases_before-utr5.result ≡ bases_in (oriented_in c.args.admitted.transcript.now.model.strand c.args.admitted.transcript.now.exons) 0 c.start_of-a.result)
befores c =
    let x = c.exons-exons.ensures in
    (rw (x.0, x.1) at c.bases_before-before.ensures, rw (x.0, x.1) at c.bases_before-utr5.ensures)

able : (c : After-length_before) → Countable (numbers c) (interval c.start_of-a.result c.end_of-b.result) c.args.p c.args.exon.index
able c =
    let g = edges c.args.admitted.transcript.now.model.strand c.args.admitted.transcript.now.model.cds c.start_or_zero-s.ensures c.end_or_zero-e.ensures c.start_of-a.ensures c.end_of-b.ensures in
    let n = c.if-count-eq0.false in
    let b = befores c.before.before in
    on c.args.admitted.transcript.now countable_alone c.args.admitted.admitted c.args.exon c.args.p c.requires.holds (omega arith) _ _ _ _ _ _ _ g.0 g.1
    b.0 b.1 (let x = c.segments.ensures in rw (x.1) at c.length_before.ensures) c.pad_of-pad.ensures c.first_index-first.ensures

pub overflow_add-coding_end : goal.overflow_add-coding_end
overflow_add-coding_end c = let l = (able (goal.at.overflow_add-coding_end c).After-length_before).end_low in omega arith

pub overflow_cast-i : goal.overflow_cast-i
overflow_cast-i c = let l = low (goal.at.overflow_cast-i c).Start in let i = l.0 in let f = l.1 in omega arith

pub exonic_place-requires : goal.exonic_place-requires
exonic_place-requires c = able (goal.at.exonic_place-requires c).After-length_before

pub returns : goal.returns
returns c =
    let g = edges c.args.admitted.transcript.now.model.strand c.args.admitted.transcript.now.model.cds c.start_or_zero-s.ensures c.end_or_zero-e.ensures c.start_of-a.ensures c.end_of-b.ensures in
    let k = c.is_exonic_splice_region-mark in
    let n = c.if-count-eq0.false in
    let b = befores (goal.at.returns c).After-bases_before-utr5 in
    c.exonic_place.ensures
    ∙ on c.args.admitted.transcript.now exonic_alone c.args.admitted.admitted c.args.exon c.args.p c.requires.holds (omega arith) _ _ _ _ _ _ _ g.0 g.1
    b.0 b.1 (let x = c.segments.ensures in rw (x.1) at c.length_before.ensures) c.pad_of-pad.ensures c.first_index-first.ensures k.result k.ensures
