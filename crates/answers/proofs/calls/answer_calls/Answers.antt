use mathlib.Core.Path.{refl, sym, ◌∙◌, ap}
use borrow.Author.Tests.{not-false}
use Rattle.std.specs.Prelude.{not}
use Rattle.std.proofs.lemmas.Result.{err_from_is_err_and}
use Rattle.transcript.specs.Transcript.{transcript_of}
use Rattle.transcript.specs.Admission.{admission, admission_of}
use Rattle.transcript.proofs.Lending.{is_turned_away}
use Rattle.words.specs.Lengths.{calls_fit}
use Rattle.answers.proofs.Leaving.{not_admitted, list_refused}
use Rattle.answers.proofs.calls.answer_calls.Goals as goal

pub returns-in_err-admitted : goal.returns-in_err-admitted
returns-in_err-admitted c =
    let t = transcript_of c.args.transcript.now in
    let fits = calls_fit c.args.calls.now.chromosomes.now c.args.calls.now.positions.now c.args.calls.now.refs.now c.args.calls.now.alts.now c.args.out.now in
    let p = err_from_is_err_and c.from_residual.result c.from_residual.ensures.1 in
    let r = c.in_err-admitted.field-0.0 in
    rw (p.1, p.2)
    (list_refused fits (admission t) _ c.args.out.now (sym c.calls_fit.ensures ∙ not-false c.calls_fit.result (ap not c.if-not-calls_fit.false)) r
    (not_admitted t (admission_of t) r refl (is_turned_away c.args.transcript.now c.of.result c.of.ensures r c.in_err-admitted.was)))
