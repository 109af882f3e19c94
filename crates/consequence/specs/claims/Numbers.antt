-- Demand 1 of a call: which numbers it is refused by, and the number of a base or codon outside the window.
use Rattle.std.specs.Prelude.{ℕ, ◌+◌, ◌≡◌, Bool, cond, not, List, [], ◌∷◌, eqb, ltb, Option, Some}
use Rattle.common.specs.Refuse.{refuse, or_else}
use Rattle.transcript.specs.Transcript.{Transcript}
use Rattle.transcript.specs.Orient.{Oriented}
pub use Rattle.transcript.specs.claims.Numbers.{NumberGiven}
use Rattle.footprint.specs.declared.Ranges.{Ranges}
use Rattle.locate.specs.declared.VariantLocation.{VariantLocation}
use Rattle.locate.specs.PlaceKind.{is_cds_exon, place_offset}
use Rattle.consequence.specs.declared.Call.{Call}
use Rattle.consequence.specs.Window.{Window, in_window, byte_at, base_at}
use Rattle.consequence.specs.Reading.{cds_base, if_there, fetch_bases}
use Rattle.consequence.specs.Call.{lacks_codon, window_refusal, closing_refusal, call_refusal, annotate_snv}
use Rattle.std.specs.Result.{is_ok}
use Rattle.common.specs.Refusal.{outcome_number}
use Rattle.consequence.specs.Numbers.{fetched_base_number, fetched_base_values, position_number, codon_base_number, fetched_codon_number, fetched_codon_values}
use Rattle.codon.specs.declared.Codon.{Codon}

abbrev pub call_numbers : List ℕ
call_numbers = 0 ∷ 1 ∷ 2 ∷ 3 ∷ 4 ∷ 5 ∷ 6 ∷ 7 ∷ 8 ∷ 9 ∷ 10 ∷ 11 ∷ 12 ∷ 13 ∷ 15 ∷ 14 ∷ 16 ∷ 17 ∷ 18 ∷ 19 ∷ 21 ∷ []

abbrev pub CallGiven : Type 0
CallGiven =
    (r : Ranges) (t : Transcript) (w : Window) (q : Call) →
    NumberGiven call_numbers (call_refusal r t w q) (outcome_number (annotate_snv r t w q)) (is_ok (annotate_snv r t w q))

-- a call is refused by the number of the base at its position, then by 18
abbrev pub PositionNumbered : Type 0
PositionNumbered =
    (w : Window) (q : Call) →
    window_refusal w q ≡ or_else (position_number (base_at w q.position)) (refuse (not (eqb q.ref_base (byte_at w q.position))) 18 0)

-- behind 19 a coding place is refused by the number of its codon
abbrev pub CodonNumbered : Type 0
CodonNumbered =
    (distal : Bool) (codon : ℕ → Option Codon) (place : VariantLocation) →
    closing_refusal distal (lacks_codon codon place) ≡ refuse distal 19 (refuse (is_cds_exon place) (fetched_codon_number (codon (place_offset place))) 0)

-- a codon has the number of the first base of it that has one; it has n bases
abbrev pub BasesNumbered : Type 0
BasesNumbered =
    (t : Oriented) (view : ℕ → Option ℕ) (n k : ℕ) →
    fetched_codon_number (fetch_bases t view n k)
    ≡ or_else (codon_base_number (cds_base t view k))
    (or_else (codon_base_number (if_there (ltb 1 n) (cds_base t view (k + 1)))) (codon_base_number (if_there (ltb 2 n) (cds_base t view (k + 2)))))

-- number and value of a base: none outside the window, where it has the number of the question that asked for it
abbrev pub BaseValued : Type 0
BaseValued =
    (outside : ℕ) (w : Window) (p : ℕ) →
    (fetched_base_number outside (base_at w p) ≡ refuse (not (in_window w p)) outside 0)
    × (fetched_base_values (base_at w p) ≡ cond (in_window w p) (byte_at w p ∷ []) [])

-- the values of a codon of n bases that are all read: how many there are, and the bases
abbrev pub CodonValued : Type 0
CodonValued =
    (t : Oriented) (view : ℕ → Option ℕ) (n k a b c : ℕ) →
    cds_base t view k ≡ Some a →
    if_there (ltb 1 n) (cds_base t view (k + 1)) ≡ Some b →
    if_there (ltb 2 n) (cds_base t view (k + 2)) ≡ Some c →
    fetched_codon_values (fetch_bases t view n k) ≡ n ∷ a ∷ b ∷ c ∷ []
