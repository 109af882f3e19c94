-- The admission of a transcript that is lent, as the code judges it: a refusal after the other.
-- Assumes nothing.
use Prim.Native.Nat.{ℕ}
use mathlib.Core.Path.{◌≡◌, refl, sym, ◌∙◌, ap}
use mathlib.Core.Bool.{Bool, true, false, not, ◌&&◌}
use native.Mathlib.Omega.{arith}
use lib.ListN.{length}
use lib.Dec.{ltb, eqb}
use borrow.Author.Tests.{eqb-false, ltb-false, not-false}
use Rattle.std.specs.Prelude.{[], Result, Ok, Err}
use Rattle.common.specs.declared.refusal.Refusal.{Refusal}
use Rattle.common.specs.Refusal.{refusal, outcome}
use Rattle.common.proofs.Outcome.{was_answered, passed_first}
use Rattle.std.specs.List.{list_any}
use Rattle.common.specs.Refuse.{refuse, or_else}
use Rattle.common.specs.Lists.{any}
use Rattle.common.proofs.TestParts.{on_test, or_false}
use Rattle.common.proofs.Lists.{any_same}
use Rattle.transcript.specs.declared.Transcript.{Transcript as Lent}
use Rattle.transcript.specs.Limits.{max_exons, coordinate_limit}
use Rattle.transcript.specs.Transcript.{transcript_of, exons_of, even_lists, cds_start, cds_end}
use Rattle.transcript.specs.Orient.{orient}
use Rattle.transcript.specs.Admission.{bad_numbers, bad_exon, over_limit, bad_scalars, ascending, not_outer, bad_cds_bounds, index_fault, admission}
use Rattle.transcript.specs.code.Lent.{holds, holds_none, bad_listed, oriented_in, phases_over, pad_of_phases}
use Rattle.transcript.proofs.LentSegments.{phases_any}
use Rattle.transcript.specs.code.Judged.{bad_lengths, bad_lent, IsCounted, IsBounded, order_fault, frame_fault, lent_cds_fault, segments_fault, lent_none}
use Rattle.transcript.proofs.Listed.{any_exons}
use Rattle.transcript.proofs.LentAdmission.{even_parts, lent_uneven, lent_admission}

-- tests one after the other, and in groups
regroup : (a b c d e f g : Bool) (later : ℕ)
    → refuse a 1 (refuse b 2 (refuse c 3 (refuse d 4 (refuse e 5 (refuse f 6 (refuse g 7 later))))))
    ≡ or_else (refuse a 1 0) (or_else (refuse b 2 0) (or_else (refuse c 3 (refuse d 4 0)) (or_else (refuse e 5 (refuse f 6 (refuse g 7 0))) later)))
regroup true b c d e f g later = refl
regroup false true c d e f g later = refl
regroup false false true d e f g later = refl
regroup false false false true e f g later = refl
regroup false false false false true f g later = refl
regroup false false false false false true g later = refl
regroup false false false false false false true later = refl
regroup false false false false false false false later = refl

then_else : (a b c : ℕ) → or_else (or_else a b) c ≡ or_else a (or_else b c)
then_else a b c = on_test (eqb a 0) (λ h. rw h) (λ h. rw (h, h))

module _ (t : Lent) where
  abbrev none_holds : Bool
  none_holds = list_any (lent_none t.segments.bases) t.selenocysteine.now

  -- the refusals as the code judges them: from the named one on
  abbrev pub from_13 : ℕ
  from_13 = refuse none_holds 13 0

  abbrev pub from_8 : ℕ
  from_8 = or_else (segments_fault t) from_13

  abbrev pub from_5 : ℕ
  from_5 = or_else (frame_fault t) from_8

  abbrev pub from_3 : ℕ
  from_3 = or_else (order_fault t) from_5

  abbrev pub from_2 : ℕ
  from_2 = or_else (refuse (bad_lent t) 2 0) from_3

  abbrev pub from_1 : ℕ
  from_1 = or_else (refuse (bad_lengths t) 1 0) from_2

  abbrev named : ℕ
  named = index_fault (length t.exons.starts.now) [] t.segments.exon_indexes.now

  abbrev cut : ℕ
  cut = lent_cds_fault t

  abbrev even : Bool
  even = even_lists t.exons.starts.now t.exons.ends.now t.segments.phases.now t.segments.exon_indexes.now t.segments.bases.starts.now t.segments.bases.ends.now

  same_2 : bad_listed t.model t.exons.starts.now t.exons.ends.now t.segments.bases.starts.now t.segments.bases.ends.now t.selenocysteine.now ≡ bad_lent t
  same_2 = rw (any_exons bad_exon t.exons.starts.now t.exons.ends.now, any_exons bad_exon t.segments.bases.starts.now t.segments.bases.ends.now)

  same_13 : any (holds_none (exons_of t.segments.bases.starts.now t.segments.bases.ends.now)) t.selenocysteine.now ≡ none_holds
  same_13 = any_same (holds_none (exons_of t.segments.bases.starts.now t.segments.bases.ends.now)) (lent_none t.segments.bases) t.selenocysteine.now
      (λ b. ap not (any_exons (holds b) t.segments.bases.starts.now t.segments.bases.ends.now))

  pub admission_judged : admission (transcript_of t) ≡ from_1
  admission_judged = on_test even
      (λ e. lent_admission t.model t.exons.starts.now t.exons.ends.now t.segments.phases.now t.segments.exon_indexes.now t.segments.bases.starts.now t.segments.bases.ends.now t.selenocysteine.now e
      ∙ rw (then_else named cut from_13, same_2, same_13, sym (phases_any t.segments.phases.now), e) (regroup (bad_numbers t.model.exon_count (length t.exons.starts.now) (length t.segments.bases.starts.now) (length t.selenocysteine.now)) (bad_lent t)
      (not (ascending 0 (oriented_in t.model.strand t.exons))) (not_outer (orient t.model.strand t.model.tx_start t.model.tx_end) (oriented_in t.model.strand t.exons))
      (bad_cds_bounds t.model.cds (ltb 0 (length t.segments.bases.starts.now))) (phases_over t.segments.phases.now)
      (not (eqb (pad_of_phases t.segments.phases.now) 0) && t.model.cds_start_complete) (or_else named (or_else cut from_13))))
      (λ e. lent_uneven t.model t.exons.starts.now t.exons.ends.now t.segments.phases.now t.segments.exon_indexes.now t.segments.bases.starts.now t.segments.bases.ends.now t.selenocysteine.now e ∙ rw e)

  pub counted : bad_lengths t ≡ false → IsCounted t
  counted h =
      let z = or_false (not even) _ h in
      let e = even_parts t.exons.starts.now t.exons.ends.now t.segments.phases.now t.segments.exon_indexes.now t.segments.bases.starts.now t.segments.bases.ends.now (not-false even z.0) in
      let a = or_false (eqb (length t.exons.starts.now) 0) _ z.1 in
      let b = or_false (ltb max_exons (length t.exons.starts.now)) _ a.1 in
      let n = eqb-false (length t.exons.starts.now) 0 a.0 in
      record {
        even = e.0;
        even_phases = e.1.phases;
        even_indexes = e.1.indexes;
        even_ends = e.1.ends;
        some = omega arith;
        few = ltb-false max_exons (length t.exons.starts.now) b.0;
      }

  pub bounded : bad_lent t ≡ false → IsBounded t
  bounded h =
      let i = or_false (any bad_exon (exons_of t.exons.starts.now t.exons.ends.now)) _ (same_2 ∙ h) in
      let j = or_false (any bad_exon (exons_of t.segments.bases.starts.now t.segments.bases.ends.now)) _ i.1 in
      let k = or_false (any over_limit t.selenocysteine.now) (bad_scalars t.model) j.1 in
      let a = or_false (over_limit t.model.tx_start) _ k.1 in
      let b = or_false (over_limit t.model.tx_end) _ a.1 in
      let c = or_false (over_limit (cds_start t.model.cds)) _ b.1 in
      let d = or_false (over_limit (cds_end t.model.cds)) _ c.1 in
      record {
        exon_edges = i.0;
        segment_edges = j.0;
        start_low = ltb-false coordinate_limit t.model.tx_start a.0;
        end_low = ltb-false coordinate_limit t.model.tx_end b.0;
        cds_start_low = ltb-false coordinate_limit (cds_start t.model.cds) c.0;
        cds_end_low = ltb-false coordinate_limit (cds_end t.model.cds) d.0;
      }

-- a refusal in its turn: it does not come, or it is the answer
pub goes_on : {x : ℕ} (n later : ℕ) (u : Unit {0}) (r : Result (Unit {0}) Refusal) → x ≡ or_else n later → r ≡ outcome n tt → r ≡ Ok u → x ≡ later
goes_on n later u r e h o = e ∙ rw (was_answered tt n u (sym h ∙ o))

pub stops : {x : ℕ} (n later : ℕ) (f : Refusal) (r : Result (Unit {0}) Refusal) → x ≡ or_else n later → r ≡ outcome n tt → r ≡ Err f → Err f ≡ outcome {A = Unit {0}} x tt
stops n later f r e h o = let k : outcome {A = Unit {0}} n tt ≡ Err f = sym h ∙ o in rw e (passed_first {A = Unit {0}} {B = Unit {0}} tt tt n f k later)

pub refuse_passed : (b : Bool) (n : ℕ) (u : Unit {0}) (r : Result (Unit {0}) Refusal) → eqb n 0 ≡ false → r ≡ outcome (refuse b n 0) tt → r ≡ Ok u → b ≡ false
refuse_passed true n u r z h o = absurd (let k : Err (refusal n) ≡ Ok u = sym (h ∙ rw z) ∙ o in cc)
refuse_passed false n u r z h o = refl
