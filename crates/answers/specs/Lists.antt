-- Questions about one transcript, their answers one behind the other.
use Rattle.std.specs.Prelude.{ℕ, ◌*◌, List, map, length, eqb, ℤ}
use Rattle.common.specs.Lists.{concat}
use Rattle.transcript.specs.Transcript.{Transcript}
use Rattle.transcript.specs.Admission.{admission}
use Rattle.footprint.specs.declared.Ranges.{Ranges}
use Rattle.footprint.specs.Ranges.{source_ranges}
use Rattle.locate.specs.Query.{locate_position}
use Rattle.locate.specs.Numbers.{located_words}
use Rattle.answers.specs.Left.{Answered, list_refusal}

-- the place of a position as 8 numbers
abbrev pub position_words : Ranges → Transcript → ℕ → ℕ → List ℤ
position_words r t chromosome p = located_words (locate_position r t chromosome p)

-- the places of positions, 8 numbers each
abbrev pub places_words : Ranges → Transcript → ℕ → List ℕ → List ℤ
places_words r t chromosome positions = concat (map (position_words r t chromosome) positions)

-- only the transcript can be refused as a whole
abbrev pub PlacesAnswered : Transcript → ℕ → List ℕ → List ℤ → List ℤ → ℕ → Type 0
PlacesAnswered t chromosome positions before after number =
    Answered (list_refusal (eqb (length before) (8 * length positions)) (admission t))
    (places_words source_ranges t chromosome positions) before after number
