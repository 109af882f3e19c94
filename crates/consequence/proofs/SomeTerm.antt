-- An answered call has a term: its place is not distal, its codon is there, and a spill that takes a term away adds one.
-- Assumes nothing.
use Rattle.std.specs.Prelude.{Err, Ok}
use Rattle.common.specs.Refusal.{refusal}
use Rattle.std.proofs.Common.{Option, Some, None}
use Prim.Native.Nat.{ℕ}
use mathlib.Core.Path.{◌≡◌}
use mathlib.Core.Bool.{true}
use mathlib.Core.List.{List}
use native.Mathlib.Omega.{arith}
use lib.Dec.{eqb}
use borrow.Author.Tests.{eqb-true}
use Rattle.common.specs.Refuse.{refuse}
use Rattle.common.proofs.TestParts.{on_test, or_else_none}
use Rattle.codon.specs.Table.{translate_codon, translate_reference_codon, build_alt_codon}
use Rattle.transcript.specs.Transcript.{Transcript}
use Rattle.transcript.specs.Orient.{Oriented, orient_base, oriented}
use Rattle.footprint.specs.declared.Ranges.{Ranges}
use Rattle.locate.specs.declared.VariantLocation.{VariantLocation}
use Rattle.locate.specs.declared.VariantLocation.TheVariants.{Upstream, Downstream, Distal, FivePrimeUtr, CdsExon, ThreePrimeUtr}
use Rattle.locate.specs.declared.VariantLocation.TheVariants.{SpliceDonor, SpliceAcceptor, SpliceRegion, Intron}
use Rattle.locate.specs.declared.VariantLocation.TheVariants.{FrameshiftIntron, NonCodingExon, NonCodingIntron}
use Rattle.locate.specs.PlaceKind.{is_distal}
use Rattle.terms.specs.declared.Consequence.TheVariants.{SpliceRegionVariant, IncompleteTerminalCodonVariant, CodingSequenceVariant}
use Rattle.terms.specs.Terms.{only}
use Rattle.terms.specs.Coding.{coding_term}
use Rattle.terms.proofs.HoldsSome.{HoldsSome, some_only, some_with_if, some_spilled, some_severe}
use Rattle.consequence.specs.declared.Call.{Call}
use Rattle.consequence.specs.declared.ConsequenceResult.{ConsequenceResult}
use Rattle.consequence.specs.declared.region.Region.{Region}
use Rattle.consequence.specs.Window.{Window, coding_byte}
use Rattle.consequence.specs.Reading.{is_incomplete_terminal_codon, holds_selenocysteine}
use Rattle.consequence.specs.Coding.{is_start_codon}
use Rattle.consequence.specs.Region.{region_of}
use Rattle.consequence.specs.Answer.{Columns, codon_columns, region_columns, codon_result, place_result}
use Rattle.consequence.specs.Call.{is_outside, lacks_codon, closing_refusal, opening_refusal, call_refusal}
use Rattle.consequence.specs.Call.{call_table, call_place, call_codon, call_result, annotate_snv}
use Rattle.consequence.specs.claims.SomeTerm.{SomeTerm}
use Rattle.consequence.proofs.CallPlaces.{answers}
use Rattle.codon.specs.declared.Codon.{Codon}

-- a region has a term of its own, or its codon has one
abbrev Named : Region → ℕ → Type 0
Named Region.Distal terms = ⊥
Named (Region.Flank c) terms = Unit {0}
Named (Region.Intron i c m) terms = Unit {0}
Named (Region.Exon i c m) terms = Unit {0}
Named (Region.Coding b) terms = HoldsSome terms

region_some : (t : Oriented) (p : ℕ) (place : VariantLocation) (g : Region) (c : Columns) → Named g c.terms
    → HoldsSome (codon_result t p place g c).consequences.0
region_some t p place Region.Distal c h = absurd h
region_some t p place (Region.Flank x) c h = some_only x
region_some t p place (Region.Intron i x m) c h = some_with_if m (only x) SpliceRegionVariant (some_only x)
region_some t p place (Region.Exon i x m) c h = some_with_if m (only x) SpliceRegionVariant (some_only x)
region_some t p place (Region.Coding b) c h = some_with_if b.mark c.terms SpliceRegionVariant h

module _ (code : List ℕ) (t : Oriented) (alt : ℕ) where
  codon_some : (offset number k : ℕ) (f : Option Codon) → refuse (is_outside f) 21 0 ≡ 0
      → HoldsSome (codon_columns code t offset number k alt f).terms
  unfolding codon_columns
  codon_some offset number k (Some c) h =
      let r = translate_reference_codon code (holds_selenocysteine t number) c in
      let a = translate_codon code (build_alt_codon c k alt) in
      on_test (is_incomplete_terminal_codon t offset)
      (λ e. rw e (some_with_if true (only IncompleteTerminalCodonVariant) CodingSequenceVariant (some_only IncompleteTerminalCodonVariant)))
      (λ e. rw e (some_only (coding_term (is_start_codon t number) r a)))
  codon_some offset number k None h = absurd (omega arith)

  -- a place that is not refused
  named : (codon : ℕ → Option Codon) (place : VariantLocation) → closing_refusal (is_distal place) (lacks_codon codon place) ≡ 0
      → Named (region_of t.coding place) (region_columns code t alt codon (region_of t.coding place)).terms
  named codon (Upstream d) h = tt
  named codon (Downstream d) h = tt
  named codon Distal h = absurd (omega arith)
  named codon (FivePrimeUtr i d m) h = tt
  named codon (CdsExon i g o n k m) h = codon_some o.0 n k (codon o.0) h
  named codon (ThreePrimeUtr i d m) h = tt
  named codon (SpliceDonor i d) h = tt
  named codon (SpliceAcceptor i d) h = tt
  named codon (SpliceRegion i s d) h = tt
  named codon (Intron i d) h = tt
  named codon (FrameshiftIntron i d) h = tt
  named codon (NonCodingExon i m) h = tt
  named codon (NonCodingIntron i d) h = tt

module _ (r : Ranges) (t : Transcript) (w : Window) (q : Call) where
  -- an answered call is not refused by its place
  closed : (a : ConsequenceResult) → annotate_snv r t w q ≡ Ok a
      → closing_refusal (is_distal (call_place r t q)) (lacks_codon (call_codon t w) (call_place r t q)) ≡ 0
  unfolding annotate_snv call_refusal
  closed a h = on_test (eqb (call_refusal r t w q) 0)
      (λ e. (or_else_none (opening_refusal t w q) _ (eqb-true (call_refusal r t w q) 0 e)).1)
      (λ e. absurd (let k : Err (refusal (call_refusal r t w q)) ≡ Ok a = rw e at h in
      let z : ◌≡◌ {A = ℕ} 0 1 = cc in omega arith))

  result_some : closing_refusal (is_distal (call_place r t q)) (lacks_codon (call_codon t w) (call_place r t q)) ≡ 0
      → HoldsSome (call_result r t w q).consequences.0
  unfolding call_result place_result
  result_some h =
      let p = orient_base t.model.strand q.position in
      some_spilled _ _ _
      (region_some (oriented t) p (call_place r t q) (region_of (oriented t).coding (call_place r t q)) _
      (named (call_table t) (oriented t) (coding_byte t.model.strand q.alt_base) (call_codon t w) (call_place r t q) h))

pub some_term : SomeTerm
some_term r t w q a h =
    rw (answers r t w q a h).1 (some_severe (call_result r t w q).consequences.0 (result_some r t w q (closed r t w q a h)))
