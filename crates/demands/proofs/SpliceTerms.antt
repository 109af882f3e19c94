-- A gained mark adds splice_region_variant to an exon base's terms, unless a spill removes it.
use Rattle.std.proofs.Common.{Option, Some, None}
use Prim.Native.Nat.{ℕ}
use mathlib.Core.Path.{◌≡◌, refl}
use mathlib.Core.Bool.{Bool, true, false, cond, not, ◌&&◌, ◌||◌}
use mathlib.Core.List.{List}
use lib.Dec.{eqb}
use borrow.Author.Tests.{eqb-true}
use Rattle.common.specs.Text.{byte}
use Rattle.common.proofs.TestParts.{and_true}
use Rattle.codon.specs.Table.{translate_codon, translate_reference_codon, build_alt_codon}
use Rattle.footprint.specs.declared.SpliceSpill.{SpliceSpill}
use Rattle.transcript.specs.Orient.{Oriented}
use Rattle.terms.specs.declared.Consequence.{Consequence}
use Rattle.terms.specs.declared.Consequence.TheVariants.{SpliceRegionVariant, StopGained, StopLost, StartLost, MissenseVariant, StartRetainedVariant, StopRetainedVariant, IncompleteTerminalCodonVariant, SynonymousVariant, CodingSequenceVariant, FivePrimeUtrVariant, ThreePrimeUtrVariant, NonCodingTranscriptExonVariant}
use Rattle.terms.specs.Terms.{only, with_term, with_term_if, without_term, spill_terms}
use Rattle.terms.specs.Coding.{unknown_letter, starts_m, coding_term}
use Rattle.consequence.specs.Coding.{is_start_codon}
use Rattle.consequence.specs.Reading.{is_incomplete_terminal_codon, holds_selenocysteine}
use Rattle.consequence.specs.Answer.{Columns, incomplete_codon, whole_codon, codon_columns}
use Rattle.demands.specs.Carry.{has_splice}
use Rattle.codon.specs.declared.Codon.{Codon}

-- an exon base's terms with the mark, after the spill
abbrev pub marked : ℕ → Bool → SpliceSpill → ℕ
marked terms mark s = spill_terms s.donor s.acceptor (with_term_if mark terms SpliceRegionVariant)

-- with the mark kept or gained, the terms are the former ones, and splice_region_variant where it is gained and no spill is there
abbrev pub Keeps : ℕ → Type 0
Keeps terms = (m g : Bool) (s : SpliceSpill) → marked terms (m || g) s ≡ with_term_if (g && true && not (has_splice (marked terms m s))) (marked terms m s) SpliceRegionVariant

-- for given terms this is computed over all cases
abbrev spill_of : Bool → Bool → SpliceSpill
spill_of d a = record { donor = d; acceptor = a }

unfoldable kept : ℕ → Bool → Bool → Bool → Bool → Bool
kept terms m g d a = eqb (marked terms (m || g) (spill_of d a)) (with_term_if (g && true && not (has_splice (marked terms m (spill_of d a)))) (marked terms m (spill_of d a)) SpliceRegionVariant)

abbrev always : (Bool → Bool) → Bool
always f = f true && f false

at_any : (f : Bool → Bool) → always f ≡ true → (b : Bool) → f b ≡ true
at_any f h true = (and_true (f true) (f false) h).0
at_any f h false = (and_true (f true) (f false) h).1

abbrev kept_always : ℕ → Bool
kept_always terms = always (λ m. always (λ g. always (λ d. always (λ a. kept terms m g d a))))

computed : (terms : ℕ) → kept_always terms ≡ true → Keeps terms
unfolding kept
computed terms h m g s =
    eqb-true _ _
    (at_any (λ a. kept terms m g s.donor a)
    (at_any (λ d. always (λ a. kept terms m g d a))
    (at_any (λ g. always (λ d. always (λ a. kept terms m g d a)))
    (at_any (λ m. always (λ g. always (λ d. always (λ a. kept terms m g d a)))) h m) g) s.donor) s.acceptor)

pub keeps_five : Keeps (only FivePrimeUtrVariant)
unfolding kept spill_terms with_term without_term
keeps_five = computed (only FivePrimeUtrVariant) refl

pub keeps_three : Keeps (only ThreePrimeUtrVariant)
unfolding kept spill_terms with_term without_term
keeps_three = computed (only ThreePrimeUtrVariant) refl

pub keeps_noncoding : Keeps (only NonCodingTranscriptExonVariant)
unfolding kept spill_terms with_term without_term
keeps_noncoding = computed (only NonCodingTranscriptExonVariant) refl

abbrev KeepsTerm : Consequence → Type 0
KeepsTerm c = Keeps (only c)

-- the seven tests of a coding term in their order
choose : (a b c d e f g : Bool)
    → KeepsTerm (cond a CodingSequenceVariant (cond b (cond c StartRetainedVariant (cond d StopRetainedVariant SynonymousVariant)) (cond e StopGained (cond f StopLost (cond g StartLost MissenseVariant)))))
unfolding kept spill_terms with_term without_term
choose true b c d e f g = computed (only CodingSequenceVariant) refl
choose false true true d e f g = computed (only StartRetainedVariant) refl
choose false true false true e f g = computed (only StopRetainedVariant) refl
choose false true false false e f g = computed (only SynonymousVariant) refl
choose false false c d true f g = computed (only StopGained) refl
choose false false c d false true g = computed (only StopLost) refl
choose false false c d false false true = computed (only StartLost) refl
choose false false c d false false false = computed (only MissenseVariant) refl

keeps_coding : (start : Bool) (ref alt : ℕ) → KeepsTerm (coding_term start ref alt)
unfolding coding_term
keeps_coding start ref alt =
    choose (unknown_letter ref alt) (eqb ref alt) (starts_m start ref) (eqb ref (byte "*")) (eqb alt (byte "*")) (eqb ref (byte "*")) (starts_m start ref)

abbrev KeepsColumns : Columns → Type 0
KeepsColumns c = Keeps c.terms

either_columns : (b : Bool) (u v : Columns) → KeepsColumns u → KeepsColumns v → KeepsColumns (cond b u v)
either_columns true u v f g = f
either_columns false u v f g = g

pub keeps_columns : (code : List ℕ) (t : Oriented) (offset number k alt : ℕ) (c : Option Codon) → KeepsColumns (codon_columns code t offset number k alt c)
unfolding codon_columns kept spill_terms with_term without_term
keeps_columns code t offset number k alt (Some c) =
    let altered = build_alt_codon c k alt in
    let ref = translate_reference_codon code (holds_selenocysteine t number) c in
    let read = translate_codon code altered in
    either_columns (is_incomplete_terminal_codon t offset) (incomplete_codon offset number c altered k) (whole_codon t offset number c altered k ref read)
    (computed (with_term (only IncompleteTerminalCodonVariant) CodingSequenceVariant) refl) (keeps_coding (is_start_codon t number) ref read)
keeps_columns code t offset number k alt None = computed 0 refl
