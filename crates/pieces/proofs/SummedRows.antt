-- The sums of an admitted transcript, read from the rows from which they are stored.
-- Assumes nothing.
use Prim.Native.Nat.{ℕ, ◌+◌, ◌≤◌, ◌<◌}
use mathlib.Core.Path.{◌≡◌, refl, ◌∙◌}
use mathlib.Core.Bool.{true, false, cond, not}
use mathlib.Core.List.{List, [], ◌∷◌, map}
use native.Mathlib.Omega.{arith}
use lib.ListN.{length, drop}
use lib.Seq.{length-sets}
use Rattle.common.specs.Lists.{any}
use Rattle.common.specs.Stored.{stored}
use Rattle.common.proofs.TestParts.{on_test, true_false}
use Rattle.transcript.specs.declared.CdsSegment.{CdsSegment}
use Rattle.transcript.specs.Transcript.{Transcript, pad_of, is_empty}
use Rattle.transcript.specs.Orient.{Interval, Oriented, orient_segment, oriented}
use Rattle.transcript.specs.Bases.{size, gaps}
use Rattle.transcript.specs.Admission.{admission}
use Rattle.footprint.specs.ShortIntron.{is_frameshift_gap}
use Rattle.locate.specs.Index.{cumulative}
use Rattle.locate.specs.code.Sums.{first_sum, Sums, ExonSums}
use Rattle.consequence.specs.code.Prepared.{Summed}
use Rattle.pieces.specs.code.TableIndex.{is_short, with_exons, row_sums}
use Rattle.pieces.proofs.IndexSums.{kept_all, kept_stored, first_kept, sums_kept, sums_stored}

no_sums : (xs : List Interval) (l : List ℕ) → length xs ≡ 0 → 0 < length l → first_sum l ≤ 2 → Sums xs l
unfolding cumulative
no_sums [] l e h f = record { reach = h; are = λ j i. (let z : j ≡ 0 = omega arith in rw z); low = f }
no_sums (x ∷ xs) l e h f = absurd (omega arith)

pad_low : (t : Transcript) → (oriented t).pad ≤ 2
unfolding oriented
pad_low t = of t.segments
  where
    of : (gs : List CdsSegment) → pad_of gs ≤ 2
    of [] = omega arith
    of (g ∷ gs) = omega arith

-- without a segment there is no pad
pub no_cds : (t : Transcript) → (oriented t).coding ≡ false → (length (oriented t).segments ≡ 0) × ((oriented t).pad ≡ 0)
unfolding oriented
no_cds t = of t.segments
  where
    of : (gs : List CdsSegment) → not (is_empty gs) ≡ false → (length (map (orient_segment t.model.strand) gs) ≡ 0) × (pad_of gs ≡ 0)
    of [] h = (refl, refl)
    of (g ∷ gs) h = absurd (true_false h)

-- an admitted transcript, with room for its sums
module _ (t : Transcript) (h : admission t ≡ 0) (k c : ℕ) (l : List ℕ) (a : k + length (oriented t).exons < c) (b : c ≤ length l)
    (d : (oriented t).coding ≡ true → c + length (oriented t).segments < length l) where
  abbrev o : Oriented
  o = oriented t

  abbrev mid : List ℕ
  mid = with_exons o k l

  exons_stored : ExonSums o (drop k mid)
  exons_stored = sums_stored 0 o.exons l k (omega arith) (omega arith)

  -- without a segment the first sum of the exons, 0, is all that the CDS has
  alone : o.coding ≡ false → Summed t (drop k mid) (drop k mid) (any is_frameshift_gap (gaps o.exons))
  alone e =
      let n = no_cds t e in
      let z = exons_stored.1 in
      let p = n.1 in
      let r = exons_stored.0.reach in
      record {
        admitted = h;
        exons_are = exons_stored;
        segments_are = (no_sums o.segments (drop k mid) n.0 (omega arith) (omega arith), omega arith);
        short_is = refl;
      }

  abbrev after : List ℕ
  after = stored mid c (cumulative o.pad (map size o.segments))

  with_cds_lem : o.coding ≡ true → Summed t (drop k after) (drop c after) (any is_frameshift_gap (gaps o.exons))
  with_cds_lem e =
      let kept = kept_stored c c (cumulative o.pad (map size o.segments)) (omega arith) (kept_all c mid) in
      let m = length-sets l k (cumulative 0 (map size o.exons)) in
      let f = d e in
      record {
        admitted = h;
        exons_are = (sums_kept o.exons k c mid after kept a exons_stored.0, first_kept o.exons k c mid after kept a ∙ exons_stored.1);
        segments_are = sums_stored o.pad o.segments mid c (pad_low t) (omega arith);
        short_is = refl;
      }

  pub summed_here : Summed t (drop k (row_sums t k c l)) (drop (cond o.coding c k) (row_sums t k c l)) (is_short t)
  summed_here = on_test o.coding (λ e. rw e (with_cds_lem e)) (λ e. rw e (alone e))
