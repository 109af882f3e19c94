use mathlib.Core.Path.{◌≡◌, sym, ◌∙◌, ap}
use native.Mathlib.Omega.{arith}
use Rattle.std.specs.Prelude.{Ok}
use Rattle.common.specs.Refusal.{outcome_number}
use Rattle.transcript.specs.Transcript.{transcript_of}
use Rattle.footprint.specs.Ranges.{source_ranges}
use Rattle.consequence.specs.Window.{window_of}
use Rattle.consequence.specs.Numbers.{called_words}
use Rattle.consequence.specs.Call.{annotate_snv}
use Rattle.words.proofs.Putting.{whole}
use Rattle.words.proofs.WordLengths.{called_length}
use Rattle.words.specs.code.Near.{Answers, NearResult}
use Rattle.words.proofs.Capping.{called_fits}
use Rattle.answers.proofs.Leaving.{answered}
use Rattle.answers.proofs.NearCalls.{near_called}
use Rattle.answers.proofs.call.answer_call.Goals as goal

pub returns : goal.returns
returns c =
    let t = transcript_of c.args.transcript.now in
    let w = window_of c.args.window.now in
    let x = annotate_snv source_ranges t w c.args.call in
    let e : x ≡ Ok c.in_ok-answer.answer = sym c.annotate_snv.ensures ∙ c.in_ok-answer.was in
    let near : Answers NearResult (Ok c.in_ok-answer.answer) = rw e at (near_called source_ranges t w c.args.call (omega arith)) in
    let n = called_length (Ok c.in_ok-answer.answer) in
    answered (outcome_number x) (called_words x) c.args.out.now (ap outcome_number e) _
    (c.put_called.ensures
    ∙ called_fits c.args.out.now 0 (Ok c.in_ok-answer.answer) (omega arith) near
    ∙ whole c.args.out.now (called_words (Ok c.in_ok-answer.answer)) (omega arith)
    ∙ ap called_words (sym e))
