-- What an admitted transcript has whose lists are lent apart, in terms of the lists.
-- Assumes nothing.
use Prim.Native.Nat.{ℕ, ◌≤◌, ◌<◌}
use mathlib.Core.Path.{◌≡◌, refl, sym, ◌∙◌, ap}
use mathlib.Core.Bool.{true, false}
use mathlib.Core.List.{List, [], ◌∷◌, map}
use native.Mathlib.Omega.{arith}
use lib.ListN.{length}
use borrow.Author.Tests.{le-leb}
use Rattle.common.specs.Lists.{any}
use Rattle.common.proofs.TestParts.{on_test}
use Rattle.transcript.specs.declared.TranscriptModel.{TranscriptModel}
use Rattle.transcript.specs.Limits.{max_exons, max_selenocysteine, coordinate_limit}
use Rattle.transcript.specs.Transcript.{exons_of, even_lists, lent, cds_start, cds_end}
use Rattle.transcript.specs.Orient.{Interval, orient_exon, oriented}
use Rattle.transcript.specs.Admission.{bad_exon, over_limit, ascending, admission}
use Rattle.transcript.specs.code.Lent.{phase_over, pad_of_phases}
use Rattle.transcript.proofs.Ascends.{Ascends}
use Rattle.transcript.proofs.Cuts.{cuts_ascend}
use Rattle.transcript.proofs.Facts.{Facts}
use Rattle.transcript.proofs.Admitted.{facts}
use Rattle.transcript.proofs.Listed.{exons_length}
use Rattle.transcript.proofs.LentSegments.{Even, Lent, lent_segments}
use Rattle.transcript.proofs.LentAdmission.{listed, even_parts, lent_even, lent_uneven}

pub ascending_true : (e : ℕ) (xs : List Interval) → Ascends e xs → ascending e xs ≡ true
unfolding ascending
ascending_true e [] h = refl
ascending_true e (x ∷ xs) h = rw (le-leb e x.start h.0, ascending_true x.end xs h.2)

pub pad_low : (ps : List ℕ) → pad_of_phases ps ≤ 2
pad_low [] = omega arith
pad_low (p ∷ ps) = omega arith

pub record Admits (m : TranscriptModel) (ss es ps is gs ge bs : List ℕ) : Type 0 where
  pub even : length ss ≡ length es
  pub even_segments_lem : Even ps is gs ge
  pub some : 0 < length ss
  pub few : length ss ≤ max_exons
  pub few_segments : length gs ≤ max_exons
  pub edges : any bad_exon (exons_of ss es) ≡ false
  pub segment_edges : any bad_exon (exons_of gs ge) ≡ false
  pub order : ascending 0 (map (orient_exon m.strand) (exons_of ss es)) ≡ true
  pub segment_order : ascending 0 (map (orient_exon m.strand) (exons_of gs ge)) ≡ true
  pub over : any phase_over ps ≡ false
  pub cds_start_lem : cds_start m.cds ≤ coordinate_limit
  pub cds_end_lem : cds_end m.cds ≤ coordinate_limit
  pub bases_low : any over_limit bs ≡ false
  pub few_bases : length bs ≤ max_selenocysteine
  pub same : lent m ss es ps is gs ge bs ≡ listed m ss es ps is gs ge bs
  pub lent_are : Lent ps is gs ge
  pub facts_are : Facts (listed m ss es ps is gs ge bs)

module _ (m : TranscriptModel) (ss es ps is gs ge bs : List ℕ) (h : admission (lent m ss es ps is gs ge bs) ≡ 0) where
  are_even : even_lists ss es ps is gs ge ≡ true
  are_even = on_test (even_lists ss es ps is gs ge) (λ e. e) (λ e. absurd (let z = lent_uneven m ss es ps is gs ge bs e in omega arith))

  known : Facts (listed m ss es ps is gs ge bs)
  known = facts (listed m ss es ps is gs ge bs) (ap admission (sym (lent_even m ss es ps is gs ge bs are_even)) ∙ h)

  segments_ascend : Lent ps is gs ge → Ascends 0 (map (orient_exon m.strand) (exons_of gs ge))
  unfolding oriented
  segments_ascend r =
      let k = known in
      rw (sym (r.turned m.strand) ∙ k.segments) (cuts_ascend (oriented (listed m ss es ps is gs ge bs)).cds 0 0 (oriented (listed m ss es ps is gs ge bs)).exons k.order)

  pub admits : Admits m ss es ps is gs ge bs
  unfolding oriented
  admits =
      let k = known in
      let e = even_parts ss es ps is gs ge are_even in
      let r = lent_segments ps is gs ge e.1 in
      let n = exons_length ss es e.0 in
      let z = k.some in let a = k.few in let b = k.few_segments in let c = r.count in
      let g : any bad_exon (exons_of gs ge) ≡ false = sym r.edges ∙ k.segment_edges in
      record {
        even = e.0;
        even_segments_lem = e.1;
        some = omega arith;
        few = omega arith;
        few_segments = omega arith;
        edges = k.exon_edges;
        segment_edges = g;
        order = ascending_true 0 (map (orient_exon m.strand) (exons_of ss es)) k.order;
        segment_order = ascending_true 0 (map (orient_exon m.strand) (exons_of gs ge)) (segments_ascend r);
        over = sym r.over ∙ k.phases;
        cds_start_lem = k.cds_start_low;
        cds_end_lem = k.cds_end_low;
        bases_low = k.bases_low;
        few_bases = k.few_bases;
        same = lent_even m ss es ps is gs ge bs are_even;
        lent_are = r;
        facts_are = k;
      }
