use Rattle.std.proofs.Common.{refl, sym, ◌∙◌}
use Rattle.std.proofs.lemmas.Result.{err_from_is_err_and}
use Rattle.transcript.specs.Transcript.{Transcript, transcript_of}
use Rattle.consequence.specs.Window.{Window, window_of}
use Rattle.consequence.proofs.Calling.{refused, opened, opened_low, answered}
use Rattle.consequence.proofs.admitted.annotate_admitted.Goals as goal
use Rattle.consequence.proofs.admitted.annotate_admitted.Goals.{Start}

abbrev transcript : Start → Transcript
transcript b = transcript_of b.args.coded.transcript.now

abbrev window : Start → Window
window b = window_of b.args.window.now

pub returns-in_err-judge_opening : goal.returns-in_err-judge_opening
returns-in_err-judge_opening c =
    let b = (goal.at.returns-in_err-judge_opening c).Start in
    let r = c.judge_opening in
    let p = err_from_is_err_and c.from_residual.result c.from_residual.ensures.1 in
    rw (p.1, p.2) (refused c.args.ranges (transcript b) (window b) c.args.call c.in_err-judge_opening.field-0.0 (sym (r.ensures (transcript b) c.requires.prepared.admitted refl) ∙ c.in_err-judge_opening.was))

pub place_of_base-place-requires : goal.place_of_base-place-requires
place_of_base-place-requires c =
    let b = (goal.at.place_of_base-place-requires c).Start in
    let o = opened (transcript b) (window b) b.args.call _ _ (c.judge_opening.ensures (transcript b) c.requires.prepared.admitted refl) c.in_ok-judge_opening.was in
    let h = c.requires.prepared in
    record { indexed = (h.scalars_are, h.exons_are); low = opened_low (transcript b) (window b) b.args.call b.requires.prepared.admitted o _ c.base_of-p.ensures }

pub annotate_placed-requires : goal.annotate_placed-requires
annotate_placed-requires c =
    let b = (goal.at.annotate_placed-requires c).Start in
    let o = opened (transcript b) (window b) b.args.call _ _ (c.judge_opening.ensures (transcript b) c.requires.prepared.admitted refl) c.in_ok-judge_opening.was in
    record { prepared = c.requires.prepared; located = c.place_of_base-place.ensures; low = opened_low (transcript b) (window b) b.args.call b.requires.prepared.admitted o _ c.base_of-p.ensures }

pub returns : goal.returns
returns c =
    let b = (goal.at.returns c).Start in
    let o = opened (transcript b) (window b) b.args.call _ _ (c.judge_opening.ensures (transcript b) c.requires.prepared.admitted refl) c.in_ok-judge_opening.was in
    c.annotate_placed.ensures
    ∙ answered b.args.ranges (transcript b) (window b) b.args.call o c.base_of-p.result c.base_of-p.ensures
    c.place_of_base-place.result c.place_of_base-place.ensures _ refl _ refl
