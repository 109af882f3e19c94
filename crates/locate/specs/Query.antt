-- The question of a place, with its refusals: 1 to 13, then 15, then 14.
use Rattle.std.specs.Prelude.{ℕ, ◌+◌, Result}
use Rattle.common.specs.declared.refusal.Refusal.{Refusal}
use Rattle.common.specs.Refusal.{outcome}
use Rattle.transcript.specs.Transcript.{Transcript}
use Rattle.transcript.specs.Orient.{orient_base, oriented}
use Rattle.transcript.specs.Question.{place_refusal}
use Rattle.footprint.specs.declared.Ranges.{Ranges}
use Rattle.locate.specs.declared.VariantLocation.{VariantLocation}
use Rattle.locate.specs.Place.{locate}

-- the place of the base at s; e takes no part but in the refusal
unfoldable pub locate_variant : Ranges → Transcript → ℕ → ℕ → ℕ → Result VariantLocation Refusal
locate_variant r t chromosome s e = outcome (place_refusal t chromosome s e) (locate r (oriented t) (orient_base t.model.strand s))

-- a lone position p asks about [p, p + 1)
abbrev pub locate_position : Ranges → Transcript → ℕ → ℕ → Result VariantLocation Refusal
locate_position r t chromosome p = locate_variant r t chromosome p (p + 1)
