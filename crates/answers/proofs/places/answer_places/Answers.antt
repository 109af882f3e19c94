use Prim.Native.Nat.{◌*◌}
use native.Mathlib.Omega.{arith}
use mathlib.Core.Path.{refl}
use lib.ListN.{length}
use lib.Dec.{eqb}
use borrow.Author.Tests.{eq-eqb}
use Rattle.std.proofs.lemmas.Result.{err_from_is_err_and}
use Rattle.transcript.specs.Transcript.{transcript_of}
use Rattle.transcript.specs.Admission.{admission, admission_of}
use Rattle.transcript.proofs.Lending.{is_turned_away}
use Rattle.answers.proofs.Leaving.{not_admitted, list_refused}
use Rattle.answers.proofs.places.answer_places.Goals as goal

pub returns-in_err-admitted : goal.returns-in_err-admitted
returns-in_err-admitted c =
    let t = transcript_of c.args.transcript.now in
    let n = length c.args.out.now in
    let k = length c.args.positions.now in
    let p = err_from_is_err_and c.from_residual.result c.from_residual.ensures.1 in
    let r = c.in_err-admitted.field-0.0 in
    rw (p.1, p.2)
    (list_refused (eqb n (8 * k)) (admission t) _ c.args.out.now (eq-eqb n (8 * k) (omega arith)) r (not_admitted t (admission_of t) r refl (is_turned_away c.args.transcript.now c.of.result c.of.ensures r c.in_err-admitted.was)))
