-- The three questions about an interval: refused alike, a flank whose distance fits 32 bits.
-- Assumes nothing.
use Prim.Native.Nat.{ℕ, ◌+◌, ◌-◌, ◌<◌, ◌^◌}
use mathlib.Core.Path.{◌≡◌, refl, sym}
use mathlib.Core.Bool.{Bool, true, false, cond}
use native.Mathlib.Omega.{arith}
use lib.Dec.{leb, ltb}
use borrow.Author.Tests.{ltb-true}
use Rattle.std.specs.Prelude.{Err}
use Rattle.common.specs.declared.refusal.Refusal.{Refusal}
use Rattle.common.proofs.Outcome.{passed_on}
use Rattle.transcript.specs.Transcript.{Transcript}
use Rattle.transcript.specs.Orient.{Interval, interval, orient, oriented}
use Rattle.transcript.specs.Bases.{first_start, last_end}
use Rattle.transcript.specs.Question.{interval_refusal}
use Rattle.footprint.specs.declared.Flank.{Flank}
use Rattle.footprint.specs.declared.Flank.TheVariants.{Upstream, Downstream, Far}
use Rattle.footprint.specs.Ranges.{source_ranges}
use Rattle.footprint.specs.Flank.{is_insertion, flank_distance, flank_of, classify_flank}
use Rattle.footprint.specs.ShortIntron.{frameshift_intron_endpoint, exonic_splice_spill}
use Rattle.footprint.specs.Question.{flank, short_intron, spill}
use Rattle.words.specs.code.Near.{Answers, NearFlank}
use Rattle.answers.proofs.Nearness.{near_outcome}

near_either : (b : Bool) (x y : Flank) → (b ≡ true → NearFlank x) → NearFlank y → NearFlank (cond b x y)
near_either true x y f n = f refl
near_either false x y f n = n

-- an insertion has one base less between
distance_low : (b : Bool) (n : ℕ) → n < 5000 → cond b n (n + 1) < 2 ^ 32
distance_low true n h = omega arith
distance_low false n h = omega arith

near_flank : (x q : Interval) → NearFlank (flank_of source_ranges x q)
near_flank x q =
    near_either (leb q.end x.start) _ _
    (λ h. near_either (ltb (x.start - q.end) 5000) (Upstream (flank_distance q (x.start - q.end))) Far (λ k. distance_low (is_insertion q) (x.start - q.end) (ltb-true _ _ k)) tt)
    (near_either (leb x.end q.start) _ _
    (λ h. near_either (ltb (q.start - x.end) 5000) (Downstream (flank_distance q (q.start - x.end))) Far (λ k. distance_low (is_insertion q) (q.start - x.end) (ltb-true _ _ k)) tt)
    tt)

module _ (t : Transcript) (c s e : ℕ) where
  pub near_flanked : Answers NearFlank (flank source_ranges t c s e)
  unfolding flank classify_flank
  near_flanked =
      near_outcome NearFlank (interval_refusal t c s e) _
      (near_flank (interval (first_start (oriented t).exons) (last_end (oriented t).exons)) (orient t.model.strand s e))

  -- the other questions are refused as that of the flank is
  pub intron_refused : (r : Refusal) → short_intron t c s e ≡ Err r → flank source_ranges t c s e ≡ Err r
  unfolding flank short_intron
  intron_refused r h =
      sym (passed_on (frameshift_intron_endpoint (oriented t) (orient t.model.strand s e)) (classify_flank source_ranges (oriented t) (orient t.model.strand s e)) (interval_refusal t c s e) r h _ refl)

  pub spill_refused : (r : Refusal) → spill t c s e ≡ Err r → flank source_ranges t c s e ≡ Err r
  unfolding flank spill
  spill_refused r h =
      sym (passed_on (exonic_splice_spill (oriented t) (orient t.model.strand s e)) (classify_flank source_ranges (oriented t) (orient t.model.strand s e)) (interval_refusal t c s e) r h _ refl)
