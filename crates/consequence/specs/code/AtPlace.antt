-- The answer at a place before the splice spill, as the code goes: its refusal, or the columns of its region.
use Rattle.std.specs.Prelude.{ℕ, ◌+◌, cond, List, Option, Some, None, Ok, Err}
use Rattle.common.specs.declared.refusal.Refusal.{Refusal}
use Rattle.common.specs.Refusal.{outcome}
use Rattle.locate.specs.declared.VariantLocation.{VariantLocation}
use Rattle.consequence.specs.declared.CodingBase.{CodingBase}
use Rattle.consequence.specs.declared.CodingPlace.{CodingPlace}
use Rattle.transcript.specs.Orient.{interval, Oriented}
use Rattle.footprint.specs.declared.SpliceSpill.{SpliceSpill}
use Rattle.footprint.specs.ShortIntron.{exonic_splice_spill}
use Rattle.consequence.specs.declared.columns.CodonColumns.{CodonColumns}
use Rattle.consequence.specs.declared.region.Region.{Region}
use Rattle.locate.specs.PlaceKind.{is_distal}
use Rattle.consequence.specs.Called.{Called}
use Rattle.consequence.specs.Answer.{no_codon, codon_columns, codon_result, place_result, Columns}
use Rattle.consequence.specs.Call.{add_splice_spill, lacks_codon, closing_refusal}
use Rattle.codon.specs.Display.{change_at}
use Rattle.codon.specs.declared.Codon.{Codon}

-- the columns of a coding base's codon as the code hands them on
abbrev pub columns_of : CodingBase → CodonColumns → Columns
columns_of b c = record {
  position = Some (b.offset.0 + 1);
  number = cond c.shown (Some b.number) None;
  codons = cond c.shown (Some (change_at c.reference c.altered b.position)) None;
  letters = c.letters;
  terms = c.terms.0;
}

-- a coding base, with its codon
abbrev pub coding_called : List ℕ → Oriented → ℕ → ℕ → VariantLocation → CodingPlace → Option Codon → Called
coding_called code t p alt place b (Some c) =
    Ok (codon_result t p place (Region.Coding b) (codon_columns code t b.base.offset.0 b.base.number b.base.position alt (Some c)))
coding_called code t p alt place b None = Err Refusal.CodonOutsideWindow

-- the same from the columns of the codon
abbrev pub columns_called : Oriented → ℕ → VariantLocation → CodingPlace → Option CodonColumns → Called
columns_called t p place b (Some c) = Ok (codon_result t p place (Region.Coding b) (columns_of b.base c))
columns_called t p place b None = Err Refusal.CodonOutsideWindow

-- from the region of the place
abbrev pub region_called : List ℕ → Oriented → ℕ → ℕ → (ℕ → Option Codon) → VariantLocation → Region → Called
region_called code t p alt codon place Region.Distal = Err Refusal.Distal
region_called code t p alt codon place (Region.Flank c) = Ok (codon_result t p place (Region.Flank c) no_codon)
region_called code t p alt codon place (Region.Intron i c m) = Ok (codon_result t p place (Region.Intron i c m) no_codon)
region_called code t p alt codon place (Region.Exon i c m) = Ok (codon_result t p place (Region.Exon i c m) no_codon)
region_called code t p alt codon place (Region.Coding b) = coding_called code t p alt place b (codon b.base.offset.0)

-- from the place
unfoldable pub place_called : List ℕ → Oriented → ℕ → ℕ → (ℕ → Option Codon) → VariantLocation → Called
place_called code t p alt codon place =
    outcome (closing_refusal (is_distal place) (lacks_codon codon place)) (place_result code t p alt codon place)

-- the spill of the base at p
abbrev pub spill_at : Oriented → ℕ → SpliceSpill
spill_at t p = exonic_splice_spill t (interval p (p + 1))

-- the spill added to an answer
abbrev pub spilled : SpliceSpill → Called → Called
spilled s (Ok a) = Ok (add_splice_spill s a)
spilled s (Err r) = Err r
