-- The term of a coding base, from its two letters.
use Rattle.std.specs.Prelude.{ℕ, Bool, cond, ◌&&◌, ◌||◌, eqb}
use Rattle.common.specs.Text.{byte}
use Rattle.terms.specs.declared.Consequence.{Consequence}
use Rattle.terms.specs.declared.Consequence.TheVariants.{StopGained, StopLost, StartLost, MissenseVariant, StartRetainedVariant, StopRetainedVariant, SynonymousVariant, CodingSequenceVariant}

-- either letter is X
abbrev pub unknown_letter : ℕ → ℕ → Bool
unknown_letter ref alt = eqb ref (byte "X") || eqb alt (byte "X")

-- the start codon reads M
abbrev pub starts_m : Bool → ℕ → Bool
starts_m start ref = start && eqb ref (byte "M")

-- equal letters; m: the start codon reads M
abbrev pub retained_term : Bool → ℕ → Consequence
retained_term m ref = cond m StartRetainedVariant (cond (eqb ref (byte "*")) StopRetainedVariant SynonymousVariant)

-- start: the codon is the start codon
unfoldable pub coding_term : Bool → ℕ → ℕ → Consequence
coding_term start ref alt =
    cond (unknown_letter ref alt) CodingSequenceVariant
    (cond (eqb ref alt) (retained_term (starts_m start ref) ref)
    (cond (eqb alt (byte "*")) StopGained
    (cond (eqb ref (byte "*")) StopLost
    (cond (starts_m start ref) StartLost MissenseVariant))))
