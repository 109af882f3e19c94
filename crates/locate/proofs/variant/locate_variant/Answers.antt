use Rattle.std.proofs.Common.{◌≡◌, refl, sym, ◌∙◌, ap}
use Rattle.std.proofs.lemmas.Result.{err_from_is_err_and}
use Rattle.transcript.specs.declared.Transcript.{Transcript as Lent}
use Rattle.transcript.specs.Transcript.{transcript_of}
use Rattle.transcript.specs.Orient.{oriented}
use Rattle.transcript.specs.Admission.{admission, admission_of}
use Rattle.footprint.specs.Ranges.{source_ranges}
use Rattle.locate.specs.Place.{locate}
use Rattle.transcript.proofs.Asking.{base_low, start_within}
use Rattle.transcript.proofs.Lending.{is_admitted, is_lent, is_turned_away}
use Rattle.locate.proofs.VariantCases.{is_refused_lem, is_15, is_14, is_at}
use Rattle.locate.proofs.variant.locate_variant.Goals as goal
use Rattle.locate.proofs.variant.locate_variant.Goals.{In_ok-admitted}

pub returns-in_err-admitted : goal.returns-in_err-admitted
returns-in_err-admitted c =
    let x = c.args.transcript.now in
    let r = c.of in
    let p = err_from_is_err_and c.from_residual.result c.from_residual.ensures.1 in
    rw (p.1, p.2) (is_refused_lem source_ranges (transcript_of x) c.args.chromosome c.args.start c.args.end (admission_of (transcript_of x)) c.in_err-admitted.field-0.0 refl (is_turned_away x r.result r.ensures _ c.in_err-admitted.was))

-- the transcript is admitted
asked : (c : In_ok-admitted) → admission (transcript_of c.args.transcript.now) ≡ 0
asked c = is_admitted c.args.transcript.now c.of.result c.of.ensures c.in_ok-admitted.admitted c.in_ok-admitted.was

pub returns-then-bad_place : goal.returns-then-bad_place
returns-then-bad_place c =
    let t = transcript_of c.args.transcript.now in
    is_15 source_ranges t c.args.chromosome c.args.start c.args.end (asked (goal.at.returns-then-bad_place c).In_ok-admitted) (sym c.bad_place.ensures ∙ c.if-bad_place.true)

pub returns-then-chromosome-transcript : goal.returns-then-chromosome-transcript
returns-then-chromosome-transcript c =
    let t = transcript_of c.args.transcript.now in
    is_14 source_ranges t c.args.chromosome c.args.start c.args.end (asked (goal.at.returns-then-chromosome-transcript c).In_ok-admitted) (sym c.bad_place.ensures ∙ c.if-bad_place.false) c.if-chromosome-transcript.true

pub place_alone-requires : goal.place_alone-requires
place_alone-requires c =
    record { low = rw c.base_of-p.ensures (base_low c.args.transcript.now.model.strand c.args.start (start_within c.args.start c.args.end (sym c.bad_place.ensures ∙ c.if-bad_place.false))) }

pub returns : goal.returns
returns c =
    let x = c.args.transcript.now in
    let t = transcript_of x in
    let r = c.of in
    let same = is_lent x r.result r.ensures c.in_ok-admitted.admitted c.in_ok-admitted.was in
    rw ((rw c.source_ranges.ensures at c.place_alone.ensures) ∙ ap (λ (s : Lent). locate source_ranges (oriented (transcript_of s)) c.base_of-p.result) same ∙ ap (locate source_ranges (oriented t)) c.base_of-p.ensures)
    (is_at source_ranges t c.args.chromosome c.args.start c.args.end (asked (goal.at.returns c).In_ok-admitted) (sym c.bad_place.ensures ∙ c.if-bad_place.false) c.if-chromosome-transcript.false)
