-- The sums of an admitted transcript of a table lie between its row and the row behind it.
-- Assumes nothing.
use Prim.Native.Nat.{ℕ, ◌+◌, ◌-◌, ◌≤◌, ◌<◌}
use mathlib.Core.Path.{◌≡◌, refl, sym, ◌∙◌}
use mathlib.Core.Bool.{Bool, true, false, cond, not}
use mathlib.Core.List.{List}
use native.Mathlib.Omega.{arith}
use lib.ListN.{length, drop, length-take}
use lib.Dec.{eqb, ltb}
use borrow.Author.Tests.{lt-ltb, eqb-false, not-true}
use Rattle.common.proofs.TestParts.{on_test}
use Rattle.std.specs.Prelude.{None, Some}
use Rattle.transcript.specs.declared.CdsBounds.{CdsBounds}
use Rattle.transcript.specs.declared.Transcript.{Transcript as Lent}
use Rattle.transcript.specs.declared.TranscriptModel.{TranscriptModel}
use Rattle.transcript.specs.Transcript.{transcript_of, has_bounds}
use Rattle.transcript.proofs.OnParts.{on}
use Rattle.transcript.specs.Orient.{Oriented, oriented}
use Rattle.transcript.specs.Admission.{admission}
use Rattle.locate.proofs.LentTranscript.{known, count, segment_count, coding_is}
use Rattle.deck.specs.declared.Table.{Table}
use Rattle.deck.specs.declared.rows.Rows.{Rows}
use Rattle.deck.specs.code.Table.{part, InOrder, model_in, transcript_in}
use Rattle.pieces.specs.code.TableIndex.{cds_row}
use Rattle.pieces.proofs.SummedRows.{no_cds}

part_le : (a b : ℕ) (l : List ℕ) → length (part a b l) ≤ b - a
part_le a b l = let t = length-take (b - a) (drop a l) in omega arith

bounds_are : (x : CdsBounds) (b : Bool) → has_bounds (cond b None (Some x)) ≡ not b
bounds_are x true = refl
bounds_are x false = refl

either : {A : Type 0} (x y : A) (a b : Bool) → b ≡ not a → cond b x y ≡ cond a y x
either x y true b e = rw e
either x y false b e = rw e

module _ (t : Table) (r : Rows) (h : admission (transcript_in t r) ≡ 0) where
  abbrev o : Oriented
  o = oriented (transcript_in t r)

  abbrev segs : List ℕ
  segs = part r.bounds r.segments t.starts

  -- a law about the transcript's parts, at them
  abbrev at : {P : TranscriptModel → List ℕ → List ℕ → List ℕ → List ℕ → List ℕ → List ℕ → List ℕ → Type 0}
      → ((m : TranscriptModel) (ss es ps is gs ge bs : List ℕ) → P m ss es ps is gs ge bs)
      → P (model_in t r) (part (r.row + 1) r.exons t.starts) (part (r.row + 1) r.exons t.ends) (part r.bounds r.segments t.marks) (part r.bounds r.segments t.numbers) segs (part r.bounds r.segments t.ends) (part r.segments r.bases t.starts)
  at f = f (model_in t r) (part (r.row + 1) r.exons t.starts) (part (r.row + 1) r.exons t.ends) (part r.bounds r.segments t.marks) (part r.bounds r.segments t.numbers) segs (part r.bounds r.segments t.ends) (part r.segments r.bases t.starts)

  -- a CDS stands behind bounds only
  coding_rows : o.coding ≡ not (eqb r.bounds r.exons)
  unfolding transcript_in model_in
  coding_rows = sym (at known h).bounds ∙ bounds_are _ (eqb r.bounds r.exons)

  pub cds_row_is : cond o.coding r.exons r.row ≡ cds_row r
  cds_row_is = either r.exons r.row (eqb r.bounds r.exons) o.coding coding_rows

  segment_rows : (ltb 0 (length segs) ≡ o.coding) × (length o.segments ≡ length segs)
  unfolding transcript_in
  segment_rows = (at coding_is h, at segment_count h)

  module _ (i : InOrder r) where
    pub exons_end : r.row + length o.exons < r.exons
    unfolding transcript_in
    exons_end = let a = i.0 in let n = at count h in let p = part_le (r.row + 1) r.exons t.starts in omega arith

    pub segments_end : o.coding ≡ true → r.exons + length o.segments < r.bases
    segments_end e =
        let a = i.1 in let b = i.2 in let c = i.3 in
        let n = eqb-false r.bounds r.exons (not-true (eqb r.bounds r.exons) (sym coding_rows ∙ e)) in
        let p = part_le r.bounds r.segments t.starts in
        let s = segment_rows.1 in
        omega arith

    -- the sums that are read
    pub cds_end_lem : cds_row r + length o.segments < r.bases
    cds_end_lem =
        let a = i.0 in let b = i.1 in let c = i.2 in let d = i.3 in
        rw (← cds_row_is) (on_test o.coding (λ e. rw e (segments_end e)) (λ e. (let n = (no_cds (transcript_in t r) e).0 in rw e (omega arith))))

-- room for the sums of a transcript that is lent
module _ (t : Table) (r : Rows) (i : InOrder r) (u : Lent) (e : transcript_of u ≡ transcript_in t r) (h : admission (transcript_in t r) ≡ 0) where
  admitted : admission (transcript_of u) ≡ 0
  admitted = rw e h

  pub exons_fit : r.row + length u.exons.starts.now < r.exons
  exons_fit =
      let n = on u count admitted in
      let l : length (oriented (transcript_of u)).exons ≡ length (oriented (transcript_in t r)).exons = rw e in
      let x = exons_end t r h i in
      omega arith

  pub segments_fit : 0 < length u.segments.bases.starts.now → r.exons + length u.segments.bases.starts.now < r.bases
  segments_fit l =
      let n = on u segment_count admitted in
      let c = on u coding_is admitted in
      let same : length (oriented (transcript_of u)).segments ≡ length (oriented (transcript_in t r)).segments = rw e in
      let coding : (oriented (transcript_of u)).coding ≡ (oriented (transcript_in t r)).coding = rw e in
      let x = segments_end t r h i (sym coding ∙ sym c ∙ lt-ltb 0 (length u.segments.bases.starts.now) l) in
      omega arith
