-- Demand 1 of the questions about an interval.
-- Assumes nothing.
use mathlib.Core.Path.{◌≡◌, refl}
use mathlib.Core.Bool.{Bool, true}
use Rattle.common.specs.Lists.{memb}
use Rattle.transcript.specs.Transcript.{Transcript}
use Rattle.transcript.specs.Orient.{oriented, orient}
use Rattle.transcript.specs.Admission.{admission}
use Rattle.transcript.specs.Question.{question_refusal, interval_refusal}
use Rattle.transcript.specs.claims.Numbers.{admission_numbers}
use Rattle.transcript.proofs.NumbersGiven.{among_in, question_among, admission_among, outcome_given}
use Rattle.footprint.specs.Flank.{classify_flank}
use Rattle.footprint.specs.ShortIntron.{frameshift_intron_endpoint, exonic_splice_spill}
use Rattle.footprint.specs.Question.{flank, short_intron, spill}
use Rattle.footprint.specs.claims.Numbers.{question_numbers, FlankGiven, ShortIntronGiven, SpillGiven}

-- the refusals that every question shares
pub refusal_among : (t : Transcript) (bad away : Bool) → memb (question_refusal t bad away) question_numbers ≡ true
refusal_among t bad away = question_among t question_numbers refl refl refl (among_in admission_numbers question_numbers refl (admission t) (admission_among t)) bad away

pub flank_given : FlankGiven
unfolding flank
flank_given r t c s e = outcome_given (classify_flank r (oriented t) (orient t.model.strand s e)) question_numbers refl (interval_refusal t c s e) (refusal_among t _ _)

pub short_intron_given : ShortIntronGiven
unfolding short_intron
short_intron_given t c s e =
    outcome_given (frameshift_intron_endpoint (oriented t) (orient t.model.strand s e)) question_numbers refl (interval_refusal t c s e) (refusal_among t _ _)

pub spill_given : SpillGiven
unfolding spill
spill_given t c s e = outcome_given (exonic_splice_spill (oriented t) (orient t.model.strand s e)) question_numbers refl (interval_refusal t c s e) (refusal_among t _ _)
