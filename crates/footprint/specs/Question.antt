-- The questions about a footprint [s, e), which may be empty, with their refusals: 1 to 13, then 15, then 14.
use Rattle.std.specs.Prelude.{ℕ, Option, Result}
use Rattle.common.specs.declared.refusal.Refusal.{Refusal}
use Rattle.common.specs.Refusal.{outcome}
use Rattle.transcript.specs.Transcript.{Transcript}
use Rattle.transcript.specs.Orient.{orient, oriented}
use Rattle.transcript.specs.Question.{interval_refusal}
use Rattle.footprint.specs.declared.Flank.{Flank}
use Rattle.footprint.specs.declared.SpliceSpill.{SpliceSpill}
use Rattle.footprint.specs.declared.Ranges.{Ranges}
use Rattle.footprint.specs.Flank.{classify_flank}
use Rattle.footprint.specs.ShortIntron.{frameshift_intron_endpoint, exonic_splice_spill}

unfoldable pub flank : Ranges → Transcript → ℕ → ℕ → ℕ → Result Flank Refusal
flank r t chromosome s e = outcome (interval_refusal t chromosome s e) (classify_flank r (oriented t) (orient t.model.strand s e))

-- the short intron that holds an end, if there is one
unfoldable pub short_intron : Transcript → ℕ → ℕ → ℕ → Result (Option ℕ) Refusal
short_intron t chromosome s e =
    outcome (interval_refusal t chromosome s e) (frameshift_intron_endpoint (oriented t) (orient t.model.strand s e))

unfoldable pub spill : Transcript → ℕ → ℕ → ℕ → Result SpliceSpill Refusal
spill t chromosome s e = outcome (interval_refusal t chromosome s e) (exonic_splice_spill (oriented t) (orient t.model.strand s e))
