use Rattle.std.proofs.Common.{sym, ◌∙◌}
use Rattle.common.specs.declared.refusal.Refusal.{Refusal}
use Rattle.common.proofs.Outcome.{answered, refused_by}
use Rattle.consequence.specs.Window.{window_of}
use Rattle.consequence.proofs.Refusals.{is_17, is_18, is_none}
use Rattle.consequence.proofs.refusal.judge_base.Goals as goal

pub returns-in_default : goal.returns-in_default
returns-in_default c =
    let a = c.args in
    refused_by tt Refusal.OutsideWindow _ (sym (is_17 (window_of a.window.now) a.call (sym c.base_at.ensures ∙ c.in_default.is)))

pub returns-then-call-found : goal.returns-then-call-found
returns-then-call-found c =
    let a = c.args in
    refused_by tt Refusal.ReferenceBase _ (sym (is_18 (window_of a.window.now) a.call c.in-Some.found (sym c.base_at.ensures ∙ c.in-Some.is) c.if-call-found.true))

pub returns : goal.returns
returns c =
    let a = c.args in
    answered tt _ (sym (is_none (window_of a.window.now) a.call c.in-Some.found (sym c.base_at.ensures ∙ c.in-Some.is) c.if-call-found.false))
