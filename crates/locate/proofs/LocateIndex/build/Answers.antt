use Rattle.std.proofs.Common.{refl, ◌∙◌, ap}
use Rattle.std.proofs.lemmas.Result.{err_from_is_err_and}
use Rattle.common.proofs.Outcome.{answered, passed_on}
use Rattle.transcript.specs.declared.Transcript.{Transcript as Lent}
use Rattle.transcript.specs.Transcript.{transcript_of}
use Rattle.transcript.specs.Orient.{oriented}
use Rattle.transcript.specs.Admission.{admission}
use Rattle.transcript.proofs.Lending.{is_admitted, is_lent, is_turned_away}
use Rattle.locate.specs.Index.{locate_index, indexed}
use Rattle.locate.proofs.LocateIndex.build.Goals as goal

pub returns-in_err-admitted : goal.returns-in_err-admitted
unfolding indexed
returns-in_err-admitted c =
    let x = c.args.transcript.now in
    let t = transcript_of x in
    let r = c.of in
    let p = err_from_is_err_and c.from_residual.result c.from_residual.ensures.1 in
    rw (p.1, p.2) (passed_on tt (locate_index (oriented t)) (admission t) c.in_err-admitted.field-0.0 (is_turned_away x r.result r.ensures _ c.in_err-admitted.was) _ refl)

pub returns : goal.returns
unfolding indexed
returns c =
    let x = c.args.transcript.now in
    let t = transcript_of x in
    let r = c.of in
    let a = c.in_ok-admitted.admitted in
    rw (c.index_of.ensures ∙ ap (λ (s : Lent). locate_index (oriented (transcript_of s))) (is_lent x r.result r.ensures a c.in_ok-admitted.was))
    (answered (locate_index (oriented t)) (admission t) (is_admitted x r.result r.ensures a c.in_ok-admitted.was))
