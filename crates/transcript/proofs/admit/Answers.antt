-- Each `?` passes on a refusal that comes in its turn.
use Rattle.std.proofs.Common.{◌∙◌, refl}
use Rattle.std.proofs.lemmas.Result.{err_from_is_err_and}
use Rattle.transcript.proofs.Judged.{from_2, from_3, from_5, from_8, from_13, admission_judged, counted, bounded, goes_on, stops, refuse_passed}
use Rattle.transcript.proofs.admit.Goals as goal

pub returns-in_err-judge_counts : goal.returns-in_err-judge_counts
returns-in_err-judge_counts c =
    let t = c.args.transcript.now in
    let p = err_from_is_err_and c.from_residual.result c.from_residual.ensures.1 in
    rw (p.1, p.2) (stops _ (from_2 t) c.in_err-judge_counts.field-0.0 c.judge_counts.result (admission_judged t) c.judge_counts.ensures c.in_err-judge_counts.was)

pub returns-in_err-judge_coordinates : goal.returns-in_err-judge_coordinates
returns-in_err-judge_coordinates c =
    let t = c.args.transcript.now in
    let e1 = goes_on _ (from_2 t) c.in_ok-judge_counts.field-0 c.judge_counts.result (admission_judged t) c.judge_counts.ensures c.in_ok-judge_counts.was in
    let p = err_from_is_err_and c.from_residual-in_err-judge_coordinates.result c.from_residual-in_err-judge_coordinates.ensures.1 in
    rw (p.1, p.2) (stops _ (from_3 t) c.in_err-judge_coordinates.field-0.0 c.judge_coordinates.result (e1) c.judge_coordinates.ensures c.in_err-judge_coordinates.was)

pub returns-in_err-judge_exons : goal.returns-in_err-judge_exons
returns-in_err-judge_exons c =
    let t = c.args.transcript.now in
    let e1 = goes_on _ (from_2 t) c.in_ok-judge_counts.field-0 c.judge_counts.result (admission_judged t) c.judge_counts.ensures c.in_ok-judge_counts.was in
    let e2 = goes_on _ (from_3 t) c.in_ok-judge_coordinates.field-0 c.judge_coordinates.result (e1) c.judge_coordinates.ensures c.in_ok-judge_coordinates.was in
    let p = err_from_is_err_and c.from_residual-in_err-judge_exons.result c.from_residual-in_err-judge_exons.ensures.1 in
    rw (p.1, p.2) (stops _ (from_5 t) c.in_err-judge_exons.field-0.0 c.judge_exons.result (e2) c.judge_exons.ensures c.in_err-judge_exons.was)

pub returns-in_err-judge_frame : goal.returns-in_err-judge_frame
returns-in_err-judge_frame c =
    let t = c.args.transcript.now in
    let e1 = goes_on _ (from_2 t) c.in_ok-judge_counts.field-0 c.judge_counts.result (admission_judged t) c.judge_counts.ensures c.in_ok-judge_counts.was in
    let e2 = goes_on _ (from_3 t) c.in_ok-judge_coordinates.field-0 c.judge_coordinates.result (e1) c.judge_coordinates.ensures c.in_ok-judge_coordinates.was in
    let e3 = goes_on _ (from_5 t) c.in_ok-judge_exons.field-0 c.judge_exons.result (e2) c.judge_exons.ensures c.in_ok-judge_exons.was in
    let p = err_from_is_err_and c.from_residual-in_err-judge_frame.result c.from_residual-in_err-judge_frame.ensures.1 in
    rw (p.1, p.2) (stops _ (from_8 t) c.in_err-judge_frame.field-0.0 c.judge_frame.result (e3) c.judge_frame.ensures c.in_err-judge_frame.was)

pub returns-in_err-judge_segments : goal.returns-in_err-judge_segments
returns-in_err-judge_segments c =
    let t = c.args.transcript.now in
    let e1 = goes_on _ (from_2 t) c.in_ok-judge_counts.field-0 c.judge_counts.result (admission_judged t) c.judge_counts.ensures c.in_ok-judge_counts.was in
    let e2 = goes_on _ (from_3 t) c.in_ok-judge_coordinates.field-0 c.judge_coordinates.result (e1) c.judge_coordinates.ensures c.in_ok-judge_coordinates.was in
    let e3 = goes_on _ (from_5 t) c.in_ok-judge_exons.field-0 c.judge_exons.result (e2) c.judge_exons.ensures c.in_ok-judge_exons.was in
    let e4 = goes_on _ (from_8 t) c.in_ok-judge_frame.field-0 c.judge_frame.result (e3) c.judge_frame.ensures c.in_ok-judge_frame.was in
    let p = err_from_is_err_and c.from_residual-in_err-judge_segments.result c.from_residual-in_err-judge_segments.ensures.1 in
    rw (p.1, p.2) (stops _ (from_13 t) c.in_err-judge_segments.field-0.0 c.judge_segments.result (e4) c.judge_segments.ensures c.in_err-judge_segments.was)

pub judge_exons-requires : goal.judge_exons-requires
judge_exons-requires c = (
  counted c.args.transcript.now (refuse_passed _ 1 c.in_ok-judge_counts.field-0 c.judge_counts.result refl c.judge_counts.ensures c.in_ok-judge_counts.was),
  bounded c.args.transcript.now (refuse_passed _ 2 c.in_ok-judge_coordinates.field-0 c.judge_coordinates.result refl c.judge_coordinates.ensures c.in_ok-judge_coordinates.was),
)

pub judge_segments-requires-clause-known : goal.judge_segments-requires-clause-known
judge_segments-requires-clause-known c = (
  counted c.args.transcript.now (refuse_passed _ 1 c.in_ok-judge_counts.field-0 c.judge_counts.result refl c.judge_counts.ensures c.in_ok-judge_counts.was),
  bounded c.args.transcript.now (refuse_passed _ 2 c.in_ok-judge_coordinates.field-0 c.judge_coordinates.result refl c.judge_coordinates.ensures c.in_ok-judge_coordinates.was),
)

pub returns : goal.returns
returns c =
    let t = c.args.transcript.now in
    let e1 = goes_on _ (from_2 t) c.in_ok-judge_counts.field-0 c.judge_counts.result (admission_judged t) c.judge_counts.ensures c.in_ok-judge_counts.was in
    let e2 = goes_on _ (from_3 t) c.in_ok-judge_coordinates.field-0 c.judge_coordinates.result (e1) c.judge_coordinates.ensures c.in_ok-judge_coordinates.was in
    let e3 = goes_on _ (from_5 t) c.in_ok-judge_exons.field-0 c.judge_exons.result (e2) c.judge_exons.ensures c.in_ok-judge_exons.was in
    let e4 = goes_on _ (from_8 t) c.in_ok-judge_frame.field-0 c.judge_frame.result (e3) c.judge_frame.ensures c.in_ok-judge_frame.was in
    let e6 = goes_on _ (from_13 t) c.in_ok-judge_segments.field-0 c.judge_segments.result (e4) c.judge_segments.ensures c.in_ok-judge_segments.was in
    c.judge_selenocysteine.ensures ∙ rw e6
