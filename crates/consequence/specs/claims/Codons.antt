-- What is claimed of a call's codon: it holds the called base, and so do the codons that an answer shows.
use Rattle.std.specs.Prelude.{Ok}
use Rattle.std.specs.Prelude.{ℕ, ◌%◌, true, cond, ◌≡◌, eqb, Some}
use Rattle.codon.specs.declared.Codon.{Codon}
use Rattle.transcript.specs.Transcript.{Transcript}
use Rattle.footprint.specs.declared.Ranges.{Ranges}
use Rattle.locate.specs.PlaceKind.{is_cds_exon, place_offset}
use Rattle.consequence.specs.declared.Call.{Call}
use Rattle.consequence.specs.declared.ConsequenceResult.{ConsequenceResult}
use Rattle.consequence.specs.Window.{Window, byte_at, coding_byte}
use Rattle.consequence.specs.Call.{call_codon, annotate_snv}
use Rattle.codon.specs.Display.{change_at}

-- the byte of a codon at a place, 0 to 2
abbrev pub codon_byte : Codon → ℕ → ℕ
codon_byte c place = cond (eqb place 0) c.first (cond (eqb place 1) c.second c.third)

-- the codon of a coding call has at the place in the codon the byte that the window has at the called base, as the coding strand has it
abbrev pub CodonHoldsBase : Type 0
CodonHoldsBase =
    (r : Ranges) (t : Transcript) (w : Window) (q : Call) (a : ConsequenceResult) (c : Codon) →
    annotate_snv r t w q ≡ Ok a →
    is_cds_exon a.location ≡ true →
    call_codon t w (place_offset a.location) ≡ Some c →
    codon_byte c (place_offset a.location % 3) ≡ coding_byte t.model.strand (byte_at w q.position)

-- the codons that an answer shows have at their place that byte and the call's, as the coding strand has them
abbrev pub ShownCodons : Type 0
ShownCodons =
    (r : Ranges) (t : Transcript) (w : Window) (q : Call) (a : ConsequenceResult) (c altered : Codon) (place : ℕ) →
    annotate_snv r t w q ≡ Ok a →
    a.codons ≡ Some (change_at c altered place) →
    (codon_byte c place ≡ coding_byte t.model.strand (byte_at w q.position))
    × (codon_byte altered place ≡ coding_byte t.model.strand q.alt_base)
