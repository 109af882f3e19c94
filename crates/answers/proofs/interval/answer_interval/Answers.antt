use mathlib.Core.Path.{◌≡◌, sym, ◌∙◌, ap}
use native.Mathlib.Omega.{arith}
use Rattle.std.specs.Prelude.{Ok}
use Rattle.std.proofs.lemmas.Result.{err_from_is_err_and}
use Rattle.common.specs.Refusal.{outcome_number}
use Rattle.transcript.specs.Transcript.{transcript_of}
use Rattle.footprint.specs.Ranges.{source_ranges}
use Rattle.footprint.specs.Question.{flank, short_intron, spill}
use Rattle.words.specs.IntervalWords.{interval_words}
use Rattle.words.proofs.Capping.{interval_fits}
use Rattle.answers.proofs.Leaving.{refused, answered}
use Rattle.answers.proofs.Beside.{near_flanked, intron_refused, spill_refused}
use Rattle.answers.proofs.interval.answer_interval.Goals as goal

pub returns-in_err-intron : goal.returns-in_err-intron
returns-in_err-intron c =
    let t = transcript_of c.args.transcript.now in
    let x = flank source_ranges t c.args.chromosome c.args.start c.args.end in
    let p = err_from_is_err_and c.from_residual-in_err-intron.result c.from_residual-in_err-intron.ensures.1 in
    let r = c.in_err-intron.field-0.0 in
    rw (p.1, p.2)
    (refused (outcome_number x) _ c.args.out.now r
    (ap outcome_number (intron_refused t c.args.chromosome c.args.start c.args.end r (sym c.frameshift_intron_endpoint.ensures ∙ c.in_err-intron.was))))

pub returns-in_err-spill : goal.returns-in_err-spill
returns-in_err-spill c =
    let t = transcript_of c.args.transcript.now in
    let x = flank source_ranges t c.args.chromosome c.args.start c.args.end in
    let p = err_from_is_err_and c.from_residual-in_err-spill.result c.from_residual-in_err-spill.ensures.1 in
    let r = c.in_err-spill.field-0.0 in
    rw (p.1, p.2)
    (refused (outcome_number x) _ c.args.out.now r
    (ap outcome_number (spill_refused t c.args.chromosome c.args.start c.args.end r (sym c.exonic_splice_spill.ensures ∙ c.in_err-spill.was))))

pub returns : goal.returns
returns c =
    let t = transcript_of c.args.transcript.now in
    let x = flank source_ranges t c.args.chromosome c.args.start c.args.end in
    let f : x ≡ Ok c.in_ok-flank.flank = sym c.classify_flank.ensures ∙ c.in_ok-flank.was in
    let i : short_intron t c.args.chromosome c.args.start c.args.end ≡ Ok c.in_ok-intron.intron = sym c.frameshift_intron_endpoint.ensures ∙ c.in_ok-intron.was in
    let s : spill t c.args.chromosome c.args.start c.args.end ≡ Ok c.in_ok-spill.spill = sym c.exonic_splice_spill.ensures ∙ c.in_ok-spill.was in
    answered (outcome_number x) _ c.args.out.now (ap outcome_number f) _
    (c.put_interval.ensures
    ∙ interval_fits c.args.out.now c.in_ok-flank.flank c.in_ok-intron.intron c.in_ok-spill.spill (omega arith)
    (rw f at (near_flanked t c.args.chromosome c.args.start c.args.end))
    ∙ λ k. interval_words (sym f k) (sym i k) (sym s k))
