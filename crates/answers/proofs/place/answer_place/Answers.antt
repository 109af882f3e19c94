use mathlib.Core.Path.{◌≡◌, sym, ◌∙◌, ap}
use native.Mathlib.Omega.{arith}
use Rattle.std.specs.Prelude.{Ok}
use Rattle.common.specs.Refusal.{outcome_number}
use Rattle.transcript.specs.Transcript.{transcript_of}
use Rattle.footprint.specs.Ranges.{source_ranges}
use Rattle.locate.specs.Numbers.{located_words}
use Rattle.locate.specs.Query.{locate_variant}
use Rattle.words.proofs.Putting.{whole}
use Rattle.words.proofs.WordLengths.{located_length}
use Rattle.words.specs.code.Near.{Answers, Near}
use Rattle.words.proofs.Capping.{located_fits}
use Rattle.answers.proofs.Nearness.{near_located}
use Rattle.answers.proofs.Leaving.{answered}
use Rattle.answers.proofs.place.answer_place.Goals as goal

pub returns : goal.returns
returns c =
    let t = transcript_of c.args.transcript.now in
    let x = locate_variant source_ranges t c.args.chromosome c.args.start c.args.end in
    let e : x ≡ Ok c.in_ok-place.place = sym c.locate_variant.ensures ∙ c.in_ok-place.was in
    let near : Answers Near (Ok c.in_ok-place.place) = rw e at (near_located source_ranges (omega arith) t c.args.chromosome c.args.start c.args.end) in
    let n = located_length (Ok c.in_ok-place.place) in
    answered (outcome_number x) (located_words x) c.args.out.now (ap outcome_number e) _
    (c.put_located.ensures
    ∙ located_fits c.args.out.now 0 (Ok c.in_ok-place.place) (omega arith) near
    ∙ whole c.args.out.now (located_words (Ok c.in_ok-place.place)) (omega arith)
    ∙ ap located_words (sym e))
