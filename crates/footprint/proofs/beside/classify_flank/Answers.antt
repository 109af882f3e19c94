use Rattle.std.proofs.Common.{◌∙◌, arith}
use Rattle.std.proofs.lemmas.Result.{err_from_is_err_and}
use Rattle.common.proofs.Outcome.{answered}
use Rattle.transcript.specs.Transcript.{transcript_of}
use Rattle.transcript.specs.Orient.{orient, oriented}
use Rattle.transcript.specs.Question.{interval_refusal}
use Rattle.transcript.proofs.Lending.{turns_away}
use Rattle.footprint.specs.Ranges.{source_ranges}
use Rattle.footprint.specs.Flank.{classify_flank}
use Rattle.footprint.specs.Question.{flank}
use Rattle.footprint.proofs.Asked.{Ready, ready}
use Rattle.footprint.proofs.Flanking.{by_bounds}
use Rattle.footprint.proofs.beside.classify_flank.Goals as goal
use Rattle.footprint.proofs.beside.classify_flank.Goals.{In_ok-judge_interval}

pub returns-in_err-judge_interval : goal.returns-in_err-judge_interval
unfolding flank
returns-in_err-judge_interval c =
    let x = c.args.transcript.now in let t = transcript_of x in let r = c.judge_interval in
    let p = err_from_is_err_and c.from_residual.result c.from_residual.ensures.1 in
    rw (p.1, p.2) (turns_away x (interval_refusal t c.args.chromosome c.args.start c.args.end) r.result r.ensures (classify_flank source_ranges (oriented t) (orient t.model.strand c.args.start c.args.end)) c.in_err-judge_interval.field-0.0 c.in_err-judge_interval.was)

-- what the question has
asked : (c : In_ok-judge_interval) → Ready c.args.transcript.now c.in_ok-judge_interval.field-0 c.args.chromosome c.args.start c.args.end
asked c = ready c.args.transcript.now c.args.chromosome c.args.start c.args.end c.judge_interval.result c.in_ok-judge_interval.field-0 c.judge_interval.ensures c.in_ok-judge_interval.was

pub span_of-x-requires : goal.span_of-x-requires
span_of-x-requires c =
    let k = (asked (goal.at.span_of-x-requires c).In_ok-judge_interval).facts_are in
    let s = k.tx_start_low in let e = k.tx_end_low in (omega arith, omega arith)

pub span_of-q-requires : goal.span_of-q-requires
span_of-q-requires c = let k = asked (goal.at.span_of-q-requires c).In_ok-judge_interval in (k.start_low, k.end_low)

pub returns : goal.returns
unfolding flank
returns c =
    let t = transcript_of c.args.transcript.now in
    let q = orient t.model.strand c.args.start c.args.end in
    let k = asked (goal.at.returns c).In_ok-judge_interval in
    rw ((rw c.source_ranges.ensures at c.flank_of.ensures) ∙ by_bounds source_ranges t q k.facts_are c.span_of-x.ensures c.span_of-q.ensures)
    (answered (classify_flank source_ranges (oriented t) q) (interval_refusal t c.args.chromosome c.args.start c.args.end) k.none)
