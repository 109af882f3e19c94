use Rattle.std.proofs.Common.{refl, sym, ◌∙◌}
use Rattle.std.proofs.lemmas.Result.{err_from_is_err_and}
use Rattle.common.proofs.Outcome.{answered, passed_on}
use Rattle.transcript.specs.Transcript.{transcript_of}
use Rattle.transcript.specs.Admission.{admission}
use Rattle.transcript.proofs.Asking.{admitted_is}
use Rattle.transcript.proofs.admission.Admitted.of.Goals as goal

pub returns-in_err-admit : goal.returns-in_err-admit
returns-in_err-admit c =
    let t = c.args.transcript.now in
    let p = err_from_is_err_and c.from_residual.result c.from_residual.ensures.1 in
    rw (p.1, p.2) (passed_on tt t (admission (transcript_of t)) c.in_err-admit.field-0.0 (sym c.admit.ensures ∙ c.in_err-admit.was) _ refl)

pub invariant_of-result : goal.invariant_of-result
invariant_of-result c = record { admitted = admitted_is (transcript_of c.args.transcript.now) c.admit.result c.admit.ensures c.in_ok-admit.field-0 c.in_ok-admit.was }

pub returns : goal.returns
returns c =
    let t = c.args.transcript.now in
    answered t (admission (transcript_of t)) (admitted_is (transcript_of t) c.admit.result c.admit.ensures c.in_ok-admit.field-0 c.in_ok-admit.was)
