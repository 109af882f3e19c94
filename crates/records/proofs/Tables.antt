-- A table of records, cut at their number, is the records; over 512 of them are refusal 1.
-- Assumes nothing.
use Rattle.std.specs.Prelude.{Result, Ok, Err}
use Rattle.common.specs.declared.refusal.Refusal.{Refusal}
use Rattle.common.specs.Refusal.{outcome}
use Prim.Native.Nat.{ℕ, zero, suc, ◌+◌, ◌-◌, ◌≤◌, ◌<◌}
use mathlib.Core.Path.{◌≡◌, refl, ap, subst, sym}
use mathlib.Core.Bool.{Bool, true, false, cond}
use mathlib.Core.List.{List, [], ◌∷◌, map}
use native.Mathlib.Omega.{arith}
use lib.ListN.{length, get_or, take, set, replicate, length-map}
use lib.Seq.{take-length, take_at}
use borrow.Author.Tests.{lt-ltb, ne_eqb, eq-eqb}
use Rattle.common.proofs.Filling.{front, front_step}
use Rattle.transcript.specs.declared.TranscriptModel.{TranscriptModel}
use Rattle.transcript.specs.declared.Exon.{Exon}
use Rattle.transcript.specs.declared.CdsSegments.{CdsSegments}
use Rattle.transcript.specs.declared.Transcript.{Transcript as Lent}
use Rattle.transcript.specs.Transcript.{Transcript, exons_of, lent, transcript_of}
use Rattle.transcript.specs.Admission.{bad_counts, admission}
use Rattle.footprint.specs.Ranges.{source_ranges}
use Rattle.locate.specs.Query.{locate_variant}
use Rattle.locate.proofs.VariantCases.{is_refused_lem}
use Rattle.consequence.specs.Window.{Window}
use Rattle.consequence.specs.Call.{annotate_snv}
use Rattle.consequence.specs.declared.Call.{Call}
use Rattle.consequence.proofs.Calling.{not_admitted}
use Rattle.records.specs.Records.{even_segments, lent_records, records_lent}
use Rattle.records.specs.code.Table.{exon_starts_of, exon_ends_of, Tabled, LentOn}
use Rattle.records.specs.declared.ExonTable.{ExonTable}

-- one number of each record, copied to an array of 512 one after the other
module _ (at : Exon → ℕ) (none : Exon) where
  mapped_at : (xs : List Exon) (i : ℕ) → i < length xs → at (get_or xs i none) ≡ get_or (map at xs) i 0
  mapped_at [] i l = absurd (omega arith)
  mapped_at (x ∷ xs) zero l = refl
  mapped_at (x ∷ xs) (suc i) l = mapped_at xs i (omega arith)

  module _ (xs : List Exon) (few : length xs ≤ 512) where
    pub copied_step : (i : ℕ) → i < length xs → set (front (map at xs) 512 i) i (at (get_or xs i none)) ≡ front (map at xs) 512 (i + 1)
    copied_step i l =
        let e = length-map xs at in
        front_step (map at xs) 512 i (omega arith) (omega arith) (omega arith) (at (get_or xs i none)) (mapped_at xs i l)

    copied_all : take (length xs) (front (map at xs) 512 (length xs)) ≡ map at xs
    copied_all = subst (λ (n : ℕ). take n (front (map at xs) 512 n) ≡ map at xs) (length-map xs at)
        (rw (take-length (map at xs)) (take_at (map at xs) (replicate (512 - length (map at xs)) 0) (length (map at xs)) refl))

module _ (none : Exon) (xs : List Exon) where
  pub all_copied : length xs ≤ 512 → Tabled xs (record { count = length xs; starts = front (exon_starts_of xs) 512 (length xs); ends = front (exon_ends_of xs) 512 (length xs) })
  all_copied few = record {
    counted = refl;
    starting = λ _. copied_all (λ (x : Exon). x.genomic_start) none xs few;
    ending = λ _. copied_all (λ (x : Exon). x.genomic_end) none xs few;
  }

-- the records' starts and ends, lent apart, are the records
records_again : (xs : List Exon) → exons_of (exon_starts_of xs) (exon_ends_of xs) ≡ xs
unfolding exons_of
records_again [] = refl
records_again (x ∷ xs) = ap (λ (l : List Exon). x ∷ l) (records_again xs)

module _ (m : TranscriptModel) (xs : List Exon) (ps is ss es bs : List ℕ) where
  abbrev records : Transcript
  records = lent_records m xs ps is ss es bs

  -- the records lent as two lists are the same transcript
  records_lent_lem : lent m (exon_starts_of xs) (exon_ends_of xs) ps is ss es bs ≡ records
  records_lent_lem =
      let a = length-map xs (λ (x : Exon). x.genomic_start) in
      let b = length-map xs (λ (x : Exon). x.genomic_end) in
      rw (a, b, eq-eqb (length xs) (length xs) refl, records_again xs)

  many_or_none : (b : Bool) → 512 < length xs → bad_counts (record { model = m; exons = cond b xs []; segments = records.segments; selenocysteine = bs }) ≡ true
  unfolding bad_counts
  many_or_none true h = rw (ne_eqb (length xs) 0 (λ q. omega arith), lt-ltb 512 (length xs) h)
  many_or_none false h = refl

  too_many : 512 < length xs → 1 ≡ admission records
  unfolding admission
  too_many h = rw (many_or_none (even_segments ps is ss es) h)

  refused : {A : Type 0} (x : A) (n : ℕ) → n ≡ admission records → 1 ≡ admission records → outcome n x ≡ Err Refusal.Counts
  refused x n q h = rw (q, sym h)

  pub place_refused : (c s e : ℕ) → 1 ≡ admission records → Err Refusal.Counts ≡ locate_variant source_ranges records c s e
  place_refused c s e h = is_refused_lem source_ranges records c s e (outcome (admission records) tt) Refusal.Counts refl (refused tt (admission records) refl h)

  pub call_refused : (w : Window) (q : Call) → 1 ≡ admission records → Err Refusal.Counts ≡ annotate_snv source_ranges records w q
  call_refused w q h = not_admitted source_ranges records w q Refusal.Counts (refused tt (admission records) refl h)

  module _ (t : ExonTable) (k : Tabled xs t) where
    -- over 512 records are refusal 1
    pub counted_many : 512 < t.count → 1 ≡ admission records
    counted_many h =
        let e = k.counted in
        let l : 512 < length xs = omega arith in
        too_many l

    -- the table's front is the records
    pub table_lent : t.count ≤ 512 → lent m (take t.count t.starts) (take t.count t.ends) ps is ss es bs ≡ records
    table_lent h =
        let e = k.counted in
        let l : length xs ≤ 512 = omega arith in
        rw (k.counted, k.starting l, k.ending l) records_lent_lem

-- what is lent or refused, taken from the answer
module _ (m : TranscriptModel) (t : ExonTable) (g : CdsSegments) (bs : List ℕ) (r : Result Lent Refusal) (l : LentOn m t g bs r) where
  pub lent_is : (x : Lent) → r ≡ Ok x → (xs : List Exon) → Tabled xs t → transcript_of x ≡ records_lent m xs g bs
  lent_is x e = subst (λ (a : Result Lent Refusal). LentOn m t g bs a) e l

  pub refused_is : (f : Refusal) → r ≡ Err f → (f ≡ Refusal.Counts) × ((xs : List Exon) → Tabled xs t → 1 ≡ admission (records_lent m xs g bs))
  refused_is f e = subst (λ (a : Result Lent Refusal). LentOn m t g bs a) e l
