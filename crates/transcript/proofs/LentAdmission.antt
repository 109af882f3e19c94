-- The admission of a transcript whose lists are lent apart, as a chain of tests of the lists.
-- Assumes nothing.
use Prim.Native.Nat.{ℕ, ◌-◌}
use mathlib.Core.Path.{◌≡◌, refl, ◌∙◌, ap}
use mathlib.Core.Bool.{Bool, true, false, not, ◌&&◌}
use mathlib.Core.List.{List, [], map}
use lib.ListN.{length}
use lib.Dec.{ltb, eqb}
use borrow.Author.Tests.{eqb-true}
use Rattle.common.specs.Refuse.{refuse, or_else}
use Rattle.common.specs.Lists.{any}
use Rattle.common.proofs.TestParts.{on_test, or_false, and_true}
use Rattle.transcript.specs.declared.TranscriptModel.{TranscriptModel}
use Rattle.transcript.specs.Transcript.{Transcript, exons_of, segments_of, even_lists, lent}
use Rattle.transcript.specs.Orient.{Interval, orient, orient_bounds, orient_exon, oriented}
use Rattle.transcript.specs.Bases.{inside_any}
use Rattle.transcript.specs.Admission.{bad_numbers, bad_counts, bad_exon, bad_coordinates, ascending, not_outer, bad_cds_bounds, index_fault, in_none, admission}
use Rattle.transcript.specs.Cuts.{cuts, same_cuts}
use Rattle.transcript.specs.code.Lent.{holds_none, phase_over, pad_of_phases, listed_cuts, bad_listed, cds_fault}
use Rattle.transcript.proofs.Listed.{exons_length}
use Rattle.transcript.proofs.LentSegments.{Even, Lent, lent_segments, none_oriented}

-- a transcript whose lists have the lengths that they should
abbrev pub listed : TranscriptModel → List ℕ → List ℕ → List ℕ → List ℕ → List ℕ → List ℕ → List ℕ → Transcript
listed m ss es ps is gs ge bs = record { model = m; exons = exons_of ss es; segments = segments_of ps is gs ge; selenocysteine = bs }

-- refusal 13 after 10 to 12
late : (a b c : Bool) (n : ℕ) → refuse a 10 (refuse b 11 (refuse c 12 n)) ≡ or_else (refuse a 10 (refuse b 11 (refuse c 12 0))) n
late true b c n = refl
late false true c n = refl
late false false true n = refl
late false false false n = refl

module _ (m : TranscriptModel) (ss es ps is gs ge bs : List ℕ) where
  abbrev exons : List Interval
  exons = map (orient_exon m.strand) (exons_of ss es)

  abbrev cds : Interval
  cds = orient_bounds m.strand m.cds

  -- the rows as the code tests them: from the named one on
  abbrev pub from_13 : ℕ
  from_13 = refuse (any (holds_none (exons_of gs ge)) bs) 13 0

  abbrev pub from_10 : ℕ
  from_10 = or_else (cds_fault (ltb 0 (length gs)) cds exons (listed_cuts m.strand is gs ge)) from_13

  abbrev pub from_8 : ℕ → ℕ
  from_8 n = or_else (index_fault (length ss) [] is) n

  abbrev pub from_7 : ℕ → ℕ
  from_7 n = refuse (not (eqb (pad_of_phases ps) 0) && m.cds_start_complete) 7 (from_8 n)

  abbrev pub from_6 : ℕ → ℕ
  from_6 n = refuse (any phase_over ps) 6 (from_7 n)

  abbrev pub from_5 : ℕ → ℕ
  from_5 n = refuse (bad_cds_bounds m.cds (ltb 0 (length gs))) 5 (from_6 n)

  abbrev pub from_4 : ℕ → ℕ
  from_4 n = refuse (not_outer (orient m.strand m.tx_start m.tx_end) exons) 4 (from_5 n)

  abbrev pub from_3 : ℕ → ℕ
  from_3 n = refuse (not (ascending 0 exons)) 3 (from_4 n)

  abbrev pub from_2 : ℕ → ℕ
  from_2 n = refuse (bad_listed m ss es gs ge bs) 2 (from_3 n)

  abbrev pub from_1 : ℕ → ℕ
  from_1 n = refuse (bad_numbers m.exon_count (length ss) (length gs) (length bs)) 1 (from_2 n)

  module _ (q : length ss ≡ length es) (e : Even ps is gs ge) where
    r : Lent ps is gs ge
    r = lent_segments ps is gs ge e

    row_1 : bad_counts (listed m ss es ps is gs ge bs) ≡ bad_numbers m.exon_count (length ss) (length gs) (length bs)
    unfolding bad_counts
    row_1 = rw (exons_length ss es q, r.count)

    row_2 : bad_coordinates (listed m ss es ps is gs ge bs) ≡ bad_listed m ss es gs ge bs
    unfolding bad_coordinates
    row_2 = rw r.edges

    later : bad_listed m ss es gs ge bs ≡ false
        → refuse (any (in_none (oriented (listed m ss es ps is gs ge bs)).segments) (oriented (listed m ss es ps is gs ge bs)).selenocysteine) 13 0
        ≡ refuse (any (holds_none (exons_of gs ge)) bs) 13 0
    unfolding oriented
    later h =
        let a = or_false (any bad_exon (exons_of ss es)) _ h in
        let b = or_false (any bad_exon (exons_of gs ge)) _ a.1 in
        rw (r.turned m.strand, none_oriented m.strand (exons_of gs ge) bs b.0)

    pub listed_admission : admission (listed m ss es ps is gs ge bs) ≡ from_1 from_10
    unfolding admission oriented
    listed_admission =
        on_test (bad_listed m ss es gs ge bs)
        (λ h. rw (row_1, row_2, h))
        (λ h. rw (row_1, row_2, later h, r.coding, r.over, r.pad, r.named, r.cut m.strand, exons_length ss es q) (ap from_1
        (late (ltb 0 (length gs) && not (inside_any cds.start exons)) (ltb 0 (length gs) && not (inside_any (cds.end - 1) exons))
        (ltb 0 (length gs) && not (same_cuts (listed_cuts m.strand is gs ge) (cuts cds 0 exons))) (refuse (any (holds_none (exons_of gs ge)) bs) 13 0))))

-- the lengths, from the test of them
pub even_parts : (ss es ps is gs ge : List ℕ) → even_lists ss es ps is gs ge ≡ true → (length ss ≡ length es) × Even ps is gs ge
even_parts ss es ps is gs ge h =
    let a = and_true (eqb (length ss) (length es)) _ h in
    let b = and_true (eqb (length gs) (length ps)) _ a.1 in
    let c = and_true (eqb (length gs) (length is)) (eqb (length gs) (length ge)) b.1 in (
      eqb-true (length ss) (length es) a.0,
      record { phases = eqb-true (length gs) (length ps) b.0; indexes = eqb-true (length gs) (length is) c.0; ends = eqb-true (length gs) (length ge) c.1 },
    )

-- where lists of one thing differ in length there are no exons
pub lent_uneven : (m : TranscriptModel) (ss es ps is gs ge bs : List ℕ) → even_lists ss es ps is gs ge ≡ false → admission (lent m ss es ps is gs ge bs) ≡ 1
unfolding admission bad_counts
lent_uneven m ss es ps is gs ge bs h = rw h

pub lent_even : (m : TranscriptModel) (ss es ps is gs ge bs : List ℕ) → even_lists ss es ps is gs ge ≡ true → lent m ss es ps is gs ge bs ≡ listed m ss es ps is gs ge bs
lent_even m ss es ps is gs ge bs h = rw h

pub lent_admission : (m : TranscriptModel) (ss es ps is gs ge bs : List ℕ) → even_lists ss es ps is gs ge ≡ true → admission (lent m ss es ps is gs ge bs) ≡ from_1 m ss es ps is gs ge bs (from_10 m ss es ps is gs ge bs)
lent_admission m ss es ps is gs ge bs h =
    let e = even_parts ss es ps is gs ge h in
    ap admission (lent_even m ss es ps is gs ge bs h) ∙ listed_admission m ss es ps is gs ge bs e.0 e.1
