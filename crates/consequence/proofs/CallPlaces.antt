-- The location of an answered call is the place of the called base; a segment holds it where that is CdsExon, and its offset counts coding bases.
-- Assumes nothing.
use Rattle.std.specs.Prelude.{Err, Ok}
use Rattle.common.specs.Refusal.{refusal}
use Rattle.std.proofs.Common.{Option}
use Prim.Native.Nat.{ℕ, ◌+◌}
use mathlib.Core.Path.{◌≡◌, refl, sym, ◌∙◌, ap}
use mathlib.Core.List.{List}
use mathlib.Core.Bool.{Bool, true, not, ◌||◌}
use native.Mathlib.Omega.{arith}
use lib.Dec.{eqb}
use borrow.Author.Tests.{eqb-true, not-false}
use Rattle.common.specs.Refuse.{refuse}
use Rattle.common.proofs.TestParts.{on_test, refuse_none, or_else_none}
use Rattle.transcript.specs.Transcript.{Transcript}
use Rattle.transcript.specs.Orient.{Oriented, orient_base, oriented}
use Rattle.transcript.specs.Admission.{admission, Admitted}
use Rattle.transcript.specs.Question.{bad_interval, is_elsewhere, query_refusal}
use Rattle.footprint.specs.declared.Ranges.{Ranges}
use Rattle.locate.specs.declared.VariantLocation.{VariantLocation}
use Rattle.locate.specs.PlaceKind.{is_cds_exon, place_offset}
use Rattle.locate.proofs.CodingBases.{coding_base_lem, offset_counts}
use Rattle.consequence.specs.declared.Call.{Call}
use Rattle.consequence.specs.declared.ConsequenceResult.{ConsequenceResult}
use Rattle.consequence.specs.Window.{Window, in_window, byte_at, coding_byte}
use Rattle.consequence.specs.declared.region.Region.{Region}
use Rattle.consequence.specs.Region.{region_of}
use Rattle.consequence.specs.Answer.{Columns, region_result, place_result}
use Rattle.consequence.specs.Call.{call_place, call_codon, bad_alt, window_refusal, opening_refusal, call_refusal, call_result, annotate_snv}
use Rattle.consequence.specs.claims.CallPlaces.{CodingCalls, CallOffsetsCount}
use Rattle.codon.specs.declared.Codon.{Codon}

-- an answer keeps the place that it was made at
in_region : (t : Oriented) (p : ℕ) (place : VariantLocation) (g : Region) (c : Columns) (terms : ℕ) → (region_result t p place g c terms).location ≡ place
in_region t p place Region.Distal c terms = refl
in_region t p place (Region.Flank x) c terms = refl
in_region t p place (Region.Intron i x m) c terms = refl
in_region t p place (Region.Exon i x m) c terms = refl
in_region t p place (Region.Coding b) c terms = refl

pub located : (code : List ℕ) (t : Oriented) (p alt : ℕ) (codon : ℕ → Option Codon) (place : VariantLocation) → (place_result code t p alt codon place).location ≡ place
unfolding place_result
located code t p alt codon place = in_region t p place (region_of t.coding place) _ _

-- an answered call: nothing refuses it before its place is known
module _ (r : Ranges) (t : Transcript) (w : Window) (q : Call) (a : ConsequenceResult) (h : annotate_snv r t w q ≡ Ok a) where
  pub answers : (opening_refusal t w q ≡ 0) × (a ≡ call_result r t w q)
  unfolding annotate_snv call_refusal
  answers =
      on_test (eqb (call_refusal r t w q) 0)
      (λ e. (let k : Ok (call_result r t w q) ≡ Ok a = rw e at h in
      ((or_else_none (opening_refusal t w q) _ (eqb-true (call_refusal r t w q) 0 e)).0, cc)))
      (λ e. absurd (let k : Err (refusal (call_refusal r t w q)) ≡ Ok a = rw e at h in let z : ◌≡◌ {A = ℕ} 0 1 = cc in omega arith))

  abbrev away : Bool
  away = is_elsewhere t q.chromosome || is_elsewhere t w.chromosome

  opened : Admitted t × (query_refusal (bad_interval q.position (q.position + 1)) away (refuse (bad_alt q) 16 (window_refusal w q)) ≡ 0)
  unfolding opening_refusal
  opened = or_else_none (admission t) _ answers.0

  pub call_admitted : Admitted t
  call_admitted = opened.0

  -- the called base lies in the window, and is the byte there
  pub call_window : (in_window w q.position ≡ true) × (q.ref_base ≡ byte_at w q.position)
  call_window =
      let s = refuse_none (bad_interval q.position (q.position + 1)) 15 _ (omega arith) opened.1 in
      let c = refuse_none away 14 _ (omega arith) s.1 in
      let b = refuse_none (bad_alt q) 16 (window_refusal w q) (omega arith) c.1 in
      let i = refuse_none (not (in_window w q.position)) 17 _ (omega arith) b.1 in
      let e = refuse_none (not (eqb q.ref_base (byte_at w q.position))) 18 0 (omega arith) i.1 in
      (not-false (in_window w q.position) i.0, eqb-true q.ref_base (byte_at w q.position) (not-false (eqb q.ref_base (byte_at w q.position)) e.0))

  pub call_location : a.location ≡ call_place r t q
  unfolding call_result
  call_location =
      ap (λ (x : ConsequenceResult). x.location) answers.1
      ∙ located _ (oriented t) (orient_base t.model.strand q.position) (coding_byte t.model.strand q.alt_base) (call_codon t w) (call_place r t q)

pub coding_calls : CodingCalls
coding_calls r t w q a h = ap is_cds_exon (call_location r t w q a h) ∙ coding_base_lem t (call_admitted r t w q a h) q.position r

pub call_offsets_count : CallOffsetsCount
call_offsets_count r t w q a n h e l =
    let k = call_location r t w q a h in
    ap place_offset k ∙ offset_counts t (call_admitted r t w q a h) q.position r n (sym (ap is_cds_exon k) ∙ e) l
