-- The words of a refusal, of a coding base, or of the answer at another place.
use mathlib.Core.Path.{refl, sym, ◌∙◌, ap}
use native.Mathlib.Omega.{arith}
use Rattle.std.specs.Prelude.{Err}
use Rattle.transcript.specs.Transcript.{Transcript, transcript_of}
use Rattle.consequence.specs.Window.{Window, window_of}
use Rattle.consequence.specs.Numbers.{called_words}
use Rattle.consequence.proofs.Calling.{refused, opened, opened_low, answered}
use Rattle.words.specs.code.Near.{Answers, NearResult}
use Rattle.words.proofs.Putting.{whole}
use Rattle.words.proofs.WordLengths.{called_length}
use Rattle.words.proofs.Capping.{called_fits}
use Rattle.answers.proofs.NearCalls.{near_called}
use Rattle.answers.proofs.Indexed.{prepared}
use Rattle.answers.proofs.snv.put_snv.Goals as goal
use Rattle.answers.proofs.snv.put_snv.Goals.{Start}

abbrev transcript : Start → Transcript
transcript b = transcript_of b.args.coded.indexed.admitted.transcript.now

abbrev window : Start → Window
window b = window_of b.args.window.now

pub returns-in-Err : goal.returns-in-Err
returns-in-Err c =
    let b = (goal.at.returns-in-Err c).Start in
    let r = c.judge_opening-opening in
    rw c.from.ensures at c.put_refusal.ensures
    ∙ whole c.args.out.now (called_words (Err c.in-Err.refusal)) (omega arith)
    ∙ ap called_words (refused c.args.ranges (transcript b) (window b) c.args.call c.in-Err.refusal (sym (r.ensures (transcript b) c.args.coded.indexed.admitted.admitted refl) ∙ c.in-Err.is))

pub place-place-requires : goal.place-place-requires
place-place-requires c =
    let b = (goal.at.place-place-requires c).Start in
    let r = c.judge_opening-opening in
    opened_low (transcript b) (window b) c.args.call c.args.coded.indexed.admitted.admitted (opened (transcript b) (window b) c.args.call _ _ (r.ensures (transcript b) c.args.coded.indexed.admitted.admitted refl) c.in_default.is) _ c.base_of-p.ensures

pub put_cds_snv-requires-clause-low : goal.put_cds_snv-requires-clause-low
put_cds_snv-requires-clause-low c =
    let b = (goal.at.put_cds_snv-requires-clause-low c).Start in
    let r = c.judge_opening-opening in
    opened_low (transcript b) (window b) c.args.call c.args.coded.indexed.admitted.admitted (opened (transcript b) (window b) c.args.call _ _ (r.ensures (transcript b) c.args.coded.indexed.admitted.admitted refl) c.in_default.is) _ c.base_of-p.ensures

pub returns-in-CdsExon : goal.returns-in-CdsExon
returns-in-CdsExon c =
    let b = (goal.at.returns-in-CdsExon c).Start in
    let r = c.judge_opening-opening in
    let p = c.base_of-p in
    let o = opened (transcript b) (window b) c.args.call _ _ (r.ensures (transcript b) c.args.coded.indexed.admitted.admitted refl) c.in_default.is in
    c.put_cds_snv.ensures
    ∙ ap called_words (answered c.args.ranges (transcript b) (window b) c.args.call o p.result p.ensures _ (sym c.in-CdsExon.is ∙ c.place-place.ensures) _ refl _ refl)

pub annotate_placed-called-requires : goal.annotate_placed-called-requires
annotate_placed-called-requires c =
    let b = (goal.at.annotate_placed-called-requires c).Start in
    let r = c.judge_opening-opening in
    let o = opened (transcript b) (window b) c.args.call _ _ (r.ensures (transcript b) c.args.coded.indexed.admitted.admitted refl) c.in_default.is in
    record {
      prepared = prepared c.args.coded.indexed;
      located = c.place-place.ensures;
      low = opened_low (transcript b) (window b) c.args.call c.args.coded.indexed.admitted.admitted o _ c.base_of-p.ensures;
    }

pub returns : goal.returns
returns c =
    let b = (goal.at.returns c).Start in
    let r = c.judge_opening-opening in
    let p = c.base_of-p in
    let h = c.place-place in
    let x = c.annotate_placed-called in
    let o = opened (transcript b) (window b) c.args.call _ _ (r.ensures (transcript b) c.args.coded.indexed.admitted.admitted refl) c.in_default.is in
    let e = x.ensures ∙ answered c.args.ranges (transcript b) (window b) c.args.call o p.result p.ensures h.result h.ensures _ refl _ refl in
    let near : Answers NearResult x.result = rw e (near_called c.args.ranges (transcript b) (window b) c.args.call c.requires.near) in
    let n = called_length x.result in
    c.put_placed.ensures ∙ called_fits c.args.out.now 0 x.result (omega arith) near ∙ whole c.args.out.now (called_words x.result) (omega arith) ∙ ap called_words e
