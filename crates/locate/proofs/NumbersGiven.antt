-- Demand 1 of the index and of the question of a place.
-- Assumes nothing.
use mathlib.Core.Path.{refl}
use Rattle.transcript.specs.Orient.{orient_base, oriented}
use Rattle.transcript.specs.Question.{place_refusal}
use Rattle.transcript.proofs.NumbersGiven.{admission_among, outcome_given}
use Rattle.footprint.specs.claims.Numbers.{question_numbers}
use Rattle.footprint.proofs.NumbersGiven.{refusal_among}
use Rattle.locate.specs.Place.{locate}
use Rattle.transcript.specs.Admission.{admission}
use Rattle.transcript.specs.claims.Numbers.{admission_numbers}
use Rattle.locate.specs.Index.{locate_index, indexed}
use Rattle.locate.specs.Query.{locate_variant}
use Rattle.locate.specs.claims.Numbers.{IndexGiven, PlaceGiven}

pub index_given : IndexGiven
unfolding indexed
index_given t = outcome_given (locate_index (oriented t)) admission_numbers refl (admission t) (admission_among t)

pub place_given : PlaceGiven
unfolding locate_variant
place_given r t c s e = outcome_given (locate r (oriented t) (orient_base t.model.strand s)) question_numbers refl (place_refusal t c s e) (refusal_among t _ _)
