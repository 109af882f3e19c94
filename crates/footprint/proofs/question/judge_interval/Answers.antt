use Rattle.std.proofs.Common.{◌≡◌, Ok, refl, sym, ◌∙◌, ap}
use Rattle.std.proofs.lemmas.Result.{err_from_is_err_and}
use Rattle.common.specs.declared.refusal.Refusal.{Refusal}
use Rattle.common.proofs.Outcome.{answered, refused_by}
use Rattle.transcript.specs.declared.Transcript.{Transcript as Lent}
use Rattle.transcript.specs.Transcript.{transcript_of}
use Rattle.transcript.specs.Admission.{admission, admission_of}
use Rattle.transcript.specs.Question.{bad_interval, is_elsewhere}
use Rattle.transcript.proofs.Asking.{elsewhere, not_elsewhere, by_admission, by_15, by_14, by_none}
use Rattle.transcript.proofs.Lending.{is_admitted, is_lent, is_turned_away}
use Rattle.footprint.proofs.question.judge_interval.Goals as goal
use Rattle.footprint.proofs.question.judge_interval.Goals.{In_ok-admitted}

pub returns-in_err-admitted : goal.returns-in_err-admitted
returns-in_err-admitted c =
    let x = c.args.transcript.now in
    let t = transcript_of x in
    let p = err_from_is_err_and c.from_residual.result c.from_residual.ensures.1 in
    rw (p.1, p.2) (by_admission t (admission_of t) refl x c.in_err-admitted.field-0.0 (is_turned_away x c.of.result c.of.ensures _ c.in_err-admitted.was) (bad_interval c.args.start c.args.end) (is_elsewhere t c.args.chromosome))

-- the transcript is admitted
asked : (c : In_ok-admitted) → admission (transcript_of c.args.transcript.now) ≡ 0
asked c = is_admitted c.args.transcript.now c.of.result c.of.ensures c.in_ok-admitted.admitted c.in_ok-admitted.was

pub returns-then-bad_interval : goal.returns-then-bad_interval
returns-then-bad_interval c =
    let x = c.args.transcript.now in
    let t = transcript_of x in
    let a = asked (goal.at.returns-then-bad_interval c).In_ok-admitted in
    refused_by x Refusal.Interval _ (by_15 t (bad_interval c.args.start c.args.end) (is_elsewhere t c.args.chromosome) a (sym c.bad_interval.ensures ∙ c.if-bad_interval.true))

pub returns-then-chromosome-transcript : goal.returns-then-chromosome-transcript
returns-then-chromosome-transcript c =
    let x = c.args.transcript.now in
    let t = transcript_of x in
    let a = asked (goal.at.returns-then-chromosome-transcript c).In_ok-admitted in
    refused_by x Refusal.Chromosome _ (by_14 t (bad_interval c.args.start c.args.end) (is_elsewhere t c.args.chromosome) a (sym c.bad_interval.ensures ∙ c.if-bad_interval.false) (elsewhere t c.args.chromosome c.if-chromosome-transcript.true))

pub returns : goal.returns
returns c =
    let x = c.args.transcript.now in
    let t = transcript_of x in
    let a = asked (goal.at.returns c).In_ok-admitted in
    ap (λ (s : Lent). Ok s) (is_lent x c.of.result c.of.ensures c.in_ok-admitted.admitted c.in_ok-admitted.was)
    ∙ answered x _ (by_none t (bad_interval c.args.start c.args.end) (is_elsewhere t c.args.chromosome) a (sym c.bad_interval.ensures ∙ c.if-bad_interval.false) (not_elsewhere t c.args.chromosome c.if-chromosome-transcript.false))
