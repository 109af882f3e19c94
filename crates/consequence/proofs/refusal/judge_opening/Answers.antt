use Rattle.std.proofs.Common.{sym, ◌∙◌, ap, arith}
use Rattle.common.specs.declared.refusal.Refusal.{Refusal}
use Rattle.common.specs.Refusal.{outcome}
use Rattle.common.proofs.Outcome.{refused_by}
use Rattle.consequence.specs.Window.{Window, window_of}
use Rattle.consequence.proofs.Refusals.{away_is, is_15, is_14, is_16, by_window}
use Rattle.consequence.proofs.refusal.judge_opening.Goals as goal
use Rattle.consequence.proofs.refusal.judge_opening.Goals.{Start}

abbrev window : Start → Window
window b = window_of b.args.window.now

pub returns-then-call-ge-QUERY_LIMIT : goal.returns-then-call-ge-QUERY_LIMIT
returns-then-call-ge-QUERY_LIMIT c =
    λ t h e. refused_by tt Refusal.Interval _ (sym (is_15 t (window (goal.at.returns-then-call-ge-QUERY_LIMIT c).Start) c.args.call h (omega arith)))

pub returns-then-is_elsewhere : goal.returns-then-is_elsewhere
returns-then-is_elsewhere c =
    let w = window (goal.at.returns-then-is_elsewhere c).Start in
    λ t h e. refused_by tt Refusal.Chromosome _ (sym (is_14 t w c.args.call h (omega arith) (away_is t w c.args.call c.args.chromosome e c.is_elsewhere.ensures ∙ c.if-is_elsewhere.true)))

pub returns-then-bad_alt : goal.returns-then-bad_alt
returns-then-bad_alt c =
    let w = window (goal.at.returns-then-bad_alt c).Start in
    λ t h e. refused_by tt Refusal.AlteredBase _ (sym (is_16 t w c.args.call h (omega arith) (away_is t w c.args.call c.args.chromosome e c.is_elsewhere.ensures ∙ c.if-is_elsewhere.false) (sym c.bad_alt.ensures ∙ c.if-bad_alt.true)))

pub returns : goal.returns
returns c =
    let w = window (goal.at.returns c).Start in
    λ t h e. c.judge_base.ensures ∙ ap (λ n. outcome n tt) (by_window t w c.args.call h (omega arith) (away_is t w c.args.call c.args.chromosome e c.is_elsewhere.ensures ∙ c.if-is_elsewhere.false) (sym c.bad_alt.ensures ∙ c.if-bad_alt.false))
