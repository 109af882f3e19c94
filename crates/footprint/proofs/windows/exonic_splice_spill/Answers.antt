use Rattle.std.proofs.Common.{◌∙◌, ap}
use Rattle.std.proofs.lemmas.Result.{err_from_is_err_and}
use Rattle.common.proofs.Outcome.{answered}
use Rattle.transcript.specs.declared.Transcript.{Transcript as Lent}
use Rattle.transcript.specs.Transcript.{transcript_of}
use Rattle.transcript.specs.Orient.{orient, oriented}
use Rattle.transcript.specs.Question.{interval_refusal}
use Rattle.transcript.proofs.Lending.{turns_away}
use Rattle.footprint.specs.ShortIntron.{exonic_splice_spill}
use Rattle.footprint.specs.code.Lent.{span_of}
use Rattle.footprint.specs.Question.{spill}
use Rattle.footprint.proofs.Asked.{Ready, ready}
use Rattle.footprint.proofs.windows.exonic_splice_spill.Goals as goal
use Rattle.footprint.proofs.windows.exonic_splice_spill.Goals.{In_ok-admitted}

pub returns-in_err-admitted : goal.returns-in_err-admitted
unfolding spill
returns-in_err-admitted c =
    let x = c.args.transcript.now in let t = transcript_of x in let r = c.judge_interval in
    let p = err_from_is_err_and c.from_residual.result c.from_residual.ensures.1 in
    rw (p.1, p.2) (turns_away x (interval_refusal t c.args.chromosome c.args.start c.args.end) r.result r.ensures (exonic_splice_spill (oriented t) (orient t.model.strand c.args.start c.args.end)) c.in_err-admitted.field-0.0 c.in_err-admitted.was)

-- what the question has
asked : (c : In_ok-admitted) → Ready c.args.transcript.now c.in_ok-admitted.admitted c.args.chromosome c.args.start c.args.end
asked c = ready c.args.transcript.now c.args.chromosome c.args.start c.args.end c.judge_interval.result c.in_ok-admitted.admitted c.judge_interval.ensures c.in_ok-admitted.was

pub span_of-q-requires : goal.span_of-q-requires
span_of-q-requires c = let k = asked (goal.at.span_of-q-requires c).In_ok-admitted in (k.start_low, k.end_low)

pub returns : goal.returns
unfolding spill
returns c =
    let t = transcript_of c.args.transcript.now in
    let q = orient t.model.strand c.args.start c.args.end in
    let k = asked (goal.at.returns c).In_ok-admitted in
    rw (c.spill_of.ensures ∙ ap (λ (s : Lent). exonic_splice_spill (oriented (transcript_of s)) (span_of c.span_of-q.result)) k.same ∙ ap (exonic_splice_spill (oriented t)) c.span_of-q.ensures)
    (answered (exonic_splice_spill (oriented t) q) (interval_refusal t c.args.chromosome c.args.start c.args.end) k.none)
