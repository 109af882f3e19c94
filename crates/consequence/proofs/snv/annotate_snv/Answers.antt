use Rattle.std.proofs.Common.{List, sym, ◌∙◌, ap}
use Rattle.std.proofs.lemmas.Result.{err_from_is_err_and}
use Rattle.common.specs.Lists.{any}
use Rattle.footprint.specs.Ranges.{source_ranges}
use Rattle.transcript.specs.Transcript.{transcript_of}
use Rattle.transcript.specs.Orient.{Interval}
use Rattle.transcript.specs.Bases.{gaps}
use Rattle.transcript.proofs.OnParts.{on}
use Rattle.transcript.proofs.Lending.{is_admitted, is_lent, is_turned_away}
use Rattle.footprint.specs.ShortIntron.{is_frameshift_gap}
use Rattle.locate.proofs.LentTranscript.{exons_are}
use Rattle.locate.proofs.LentIndex.{exons_summed, cds_summed}
use Rattle.consequence.specs.Window.{Window, window_of}
use Rattle.consequence.proofs.Calling.{not_admitted}
use Rattle.consequence.proofs.snv.annotate_snv.Goals as goal
use Rattle.consequence.proofs.snv.annotate_snv.Goals.{Start}

abbrev window : Start → Window
window b = window_of b.args.window.now

pub returns-in_err-admitted : goal.returns-in_err-admitted
returns-in_err-admitted c =
    let x = c.args.transcript.now in
    let p = err_from_is_err_and c.from_residual.result c.from_residual.ensures.1 in
    rw (p.1, p.2) (not_admitted source_ranges (transcript_of x) (window (goal.at.returns-in_err-admitted c).Start) c.args.call c.in_err-admitted.field-0.0 (is_turned_away x c.of.result c.of.ensures _ c.in_err-admitted.was))

pub annotate_summed-requires : goal.annotate_summed-requires
annotate_summed-requires c =
    let x = c.args.transcript.now in
    let a = is_admitted x c.of.result c.of.ensures c.in_ok-admitted.admitted c.in_ok-admitted.was in
    let s = (rw (is_lent x c.of.result c.of.ensures c.in_ok-admitted.admitted c.in_ok-admitted.was) at c.sum_up.ensures.sums) in
    let e = c.exons.ensures in
    let n = c.sum_up.new in
    rw c.of-2.ensures record {
      summed = record {
        admitted = a;
        exons_are = on x exons_summed a n.cumulative_exons s.0;
        segments_are = on x cds_summed a n.cumulative_cds s.1;
        short_is = (rw (e.0, e.1) at c.has_frameshift_intron-short.ensures) ∙ ap (λ (xs : List Interval). any is_frameshift_gap (gaps xs)) (sym (on x exons_are a));
      };
    }

pub returns : goal.returns
returns c = rw (c.source_ranges-ranges.ensures, c.of-2.ensures) at c.annotate_summed.ensures
