-- What is claimed of the pad.
use Rattle.std.specs.Prelude.{◌+◌, ◌%◌, ◌≤◌, List, ◌∷◌, ◌≡◌}
use Rattle.transcript.specs.declared.CdsSegment.{CdsSegment}
use Rattle.transcript.specs.Transcript.{pad_of}

-- the phase is how many bases of the first segment come before its first whole codon: with the pad they make a codon, or none
abbrev pub PhaseCompletesPad : Type 0
PhaseCompletesPad = (g : CdsSegment) (gs : List CdsSegment) → g.phase ≤ 2 → (pad_of (g ∷ gs) + g.phase) % 3 ≡ 0
