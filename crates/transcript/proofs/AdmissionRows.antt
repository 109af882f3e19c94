-- What the rows of an admission say that did not come, and what those of the counts and the coordinates leave.
-- Assumes nothing.
use Prim.Native.Nat.{◌≤◌, ◌<◌}
use mathlib.Core.Path.{◌≡◌}
use mathlib.Core.Bool.{false, not}
use native.Mathlib.Omega.{arith}
use lib.ListN.{length}
use lib.Dec.{ltb, eqb}
use borrow.Author.Tests.{ltb-false, eqb-true, eqb-false, not-false}
use Rattle.common.specs.Lists.{any}
use Rattle.common.proofs.TestParts.{or_false, refuse_none, or_else_none}
use Rattle.transcript.specs.Limits.{max_exons, max_selenocysteine, coordinate_limit, last_chromosome}
use Rattle.transcript.specs.Transcript.{Transcript, cds_start, cds_end}
use Rattle.transcript.specs.Orient.{oriented}
use Rattle.transcript.specs.Admission.{bad_counts, bad_exon, bad_segment, over_limit, bad_coordinates, bad_order, bad_bounds, bad_cds, bad_phase, bad_pad, segment_fault, bad_scalars, lacks_first, lacks_last, bad_segments, bad_selenocysteine, admission, Admitted}

-- the rows: each says that its refusal did not come
pub record Rows (t : Transcript) : Type 0 where
  pub row_1 : bad_counts t ≡ false
  pub row_2 : bad_coordinates t ≡ false
  pub row_3 : bad_order (oriented t) ≡ false
  pub row_4 : bad_bounds t (oriented t) ≡ false
  pub row_5 : bad_cds t ≡ false
  pub row_6 : bad_phase t ≡ false
  pub row_7 : bad_pad (oriented t) ≡ false
  pub row_8 : segment_fault t ≡ 0
  pub row_10 : lacks_first (oriented t) ≡ false
  pub row_11 : lacks_last (oriented t) ≡ false
  pub row_12 : bad_segments t (oriented t) ≡ false
  pub row_13 : bad_selenocysteine (oriented t) ≡ false

pub rows : (t : Transcript) → Admitted t → Rows t
unfolding admission
rows t h =
    let a = refuse_none (bad_counts t) 1 _ (omega arith) h in
    let b = refuse_none (bad_coordinates t) 2 _ (omega arith) a.1 in
    let c = refuse_none (bad_order (oriented t)) 3 _ (omega arith) b.1 in
    let d = refuse_none (bad_bounds t (oriented t)) 4 _ (omega arith) c.1 in
    let e = refuse_none (bad_cds t) 5 _ (omega arith) d.1 in
    let f = refuse_none (bad_phase t) 6 _ (omega arith) e.1 in
    let g = refuse_none (bad_pad (oriented t)) 7 _ (omega arith) f.1 in
    let i = or_else_none (segment_fault t) _ g.1 in
    let j = refuse_none (lacks_first (oriented t)) 10 _ (omega arith) i.1 in
    let k = refuse_none (lacks_last (oriented t)) 11 _ (omega arith) j.1 in
    let l = refuse_none (bad_segments t (oriented t)) 12 _ (omega arith) k.1 in
    let m = refuse_none (bad_selenocysteine (oriented t)) 13 _ (omega arith) l.1 in
    record {
      row_1 = a.0;
      row_2 = b.0;
      row_3 = c.0;
      row_4 = d.0;
      row_5 = e.0;
      row_6 = f.0;
      row_7 = g.0;
      row_8 = i.0;
      row_10 = j.0;
      row_11 = k.0;
      row_12 = l.0;
      row_13 = m.0;
    }

abbrev pub Counted : Transcript → Type 0
Counted t =
    (0 < length t.exons) × (length t.exons ≤ max_exons) × (t.model.exon_count ≡ length t.exons)
    × (length t.segments ≤ length t.exons) × (length t.selenocysteine ≤ max_selenocysteine)

pub counts : (t : Transcript) → bad_counts t ≡ false → Counted t
unfolding bad_counts
counts t h =
    let a = or_false (eqb (length t.exons) 0) _ h in
    let b = or_false (ltb max_exons (length t.exons)) _ a.1 in
    let c = or_false (not (eqb t.model.exon_count (length t.exons))) _ b.1 in
    let d = or_false (ltb (length t.exons) (length t.segments)) (ltb max_selenocysteine (length t.selenocysteine)) c.1 in
    let z = eqb-false (length t.exons) 0 a.0 in (
      omega arith,
      ltb-false max_exons (length t.exons) b.0,
      eqb-true t.model.exon_count (length t.exons) (not-false (eqb t.model.exon_count (length t.exons)) c.0),
      ltb-false (length t.exons) (length t.segments) d.0,
      ltb-false max_selenocysteine (length t.selenocysteine) d.1,
    )

abbrev pub Coordinates : Transcript → Type 0
Coordinates t =
    (any bad_exon t.exons ≡ false) × (any bad_segment t.segments ≡ false)
    × (t.model.tx_start ≤ coordinate_limit) × (t.model.tx_end ≤ coordinate_limit)
    × (cds_start t.model.cds ≤ coordinate_limit) × (cds_end t.model.cds ≤ coordinate_limit)
    × (any over_limit t.selenocysteine ≡ false)
    × (0 < t.model.chromosome) × (t.model.chromosome ≤ last_chromosome)

pub coordinates : (t : Transcript) → bad_coordinates t ≡ false → Coordinates t
unfolding bad_coordinates
coordinates t h =
    let i = or_false (any bad_exon t.exons) _ h in
    let j = or_false (any bad_segment t.segments) _ i.1 in
    let k = or_false (any over_limit t.selenocysteine) (bad_scalars t.model) j.1 in
    let a = or_false (over_limit t.model.tx_start) _ k.1 in
    let b = or_false (over_limit t.model.tx_end) _ a.1 in
    let c = or_false (over_limit (cds_start t.model.cds)) _ b.1 in
    let d = or_false (over_limit (cds_end t.model.cds)) _ c.1 in
    let e = or_false (eqb t.model.chromosome 0) (ltb last_chromosome t.model.chromosome) d.1 in
    let z = eqb-false t.model.chromosome 0 e.0 in (
      i.0,
      j.0,
      ltb-false coordinate_limit t.model.tx_start a.0,
      ltb-false coordinate_limit t.model.tx_end b.0,
      ltb-false coordinate_limit (cds_start t.model.cds) c.0,
      ltb-false coordinate_limit (cds_end t.model.cds) d.0,
      k.0,
      omega arith,
      ltb-false last_chromosome t.model.chromosome e.1,
    )
