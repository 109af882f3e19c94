-- An admitted transcript whose lists are lent apart: its oriented parts, in terms of the lists.
-- Assumes nothing.
use Prim.Native.Nat.{ℕ, ◌≤◌}
use mathlib.Core.Path.{◌≡◌, refl, sym, ◌∙◌, ap}
use mathlib.Core.Bool.{true}
use mathlib.Core.List.{List, [], ◌∷◌, map}
use native.Mathlib.Omega.{arith}
use lib.ListN.{length}
use lib.Dec.{ltb}
use Rattle.transcript.specs.declared.Strand.{Strand}
use Rattle.transcript.specs.declared.TranscriptModel.{TranscriptModel}
use Rattle.transcript.specs.Transcript.{Transcript, lent, cds_start, cds_end}
use Rattle.transcript.specs.Orient.{orient, orient_base, oriented}
use Rattle.transcript.specs.Admission.{admission}
use Rattle.transcript.specs.code.Lent.{pad_of_phases, listed_cuts, lent_exons}
use Rattle.locate.specs.code.Search.{Ready}
use Rattle.locate.specs.code.Exonic.{head_of}
use Rattle.transcript.proofs.Orient.{bounds_both}
use Rattle.transcript.proofs.Facts.{Facts}
use Rattle.transcript.proofs.Admitted.{facts}
use Rattle.transcript.proofs.Listed.{oriented_length}
use Rattle.transcript.proofs.LentFacts.{Admits, admits, pad_low}
use Rattle.locate.proofs.Offset.{first_index}
use Rattle.locate.proofs.CodingExons.{first_exon}

first_cut : (σ : Strand) (is gs ge : List ℕ) → length gs ≡ length is → length gs ≡ length ge → first_index (listed_cuts σ is gs ge) ≡ head_of is
unfolding listed_cuts
first_cut σ [] gs ge a b = refl
first_cut σ (i ∷ is) [] ge a b = absurd (omega arith)
first_cut σ (i ∷ is) (g ∷ gs) [] a b = absurd (omega arith)
first_cut σ (i ∷ is) (g ∷ gs) (e ∷ ge) a b = refl

module _ (m : TranscriptModel) (ss es ps is gs ge bs : List ℕ) (h : admission (lent m ss es ps is gs ge bs) ≡ 0) where
  pub known : Facts (lent m ss es ps is gs ge bs)
  known = facts (lent m ss es ps is gs ge bs) h

  pub ad : Admits m ss es ps is gs ge bs
  ad = admits m ss es ps is gs ge bs h

  pub exons_are : (oriented (lent m ss es ps is gs ge bs)).exons ≡ lent_exons m.strand ss es
  unfolding oriented
  exons_are = ap (λ (t : Transcript). (oriented t).exons) ad.same

  pub segments_are : (oriented (lent m ss es ps is gs ge bs)).segments ≡ lent_exons m.strand gs ge
  unfolding oriented
  segments_are = ap (λ (t : Transcript). (oriented t).segments) ad.same ∙ ad.lent_are.turned m.strand

  pub bases_are : (oriented (lent m ss es ps is gs ge bs)).selenocysteine ≡ map (orient_base m.strand) bs
  unfolding oriented
  bases_are = refl

  pub count : length (oriented (lent m ss es ps is gs ge bs)).exons ≡ length ss
  count = ap length exons_are ∙ oriented_length m.strand ss es ad.even

  pub segment_count : length (oriented (lent m ss es ps is gs ge bs)).segments ≡ length gs
  segment_count = ap length segments_are ∙ oriented_length m.strand gs ge ad.even_segments_lem.ends

  pub ready : Ready m.strand ss es
  ready = record { few = ad.few; even = ad.even; edges = ad.edges; order = ad.order }

  pub segments_ready : Ready m.strand gs ge
  segments_ready = record { few = ad.few_segments; even = ad.even_segments_lem.ends; edges = ad.segment_edges; order = ad.segment_order }

  pub coding_is : ltb 0 (length gs) ≡ (oriented (lent m ss es ps is gs ge bs)).coding
  unfolding oriented
  coding_is = sym (ap (λ (t : Transcript). (oriented t).coding) ad.same ∙ ad.lent_are.coding)

  pub cds_is : (oriented (lent m ss es ps is gs ge bs)).coding ≡ true → (oriented (lent m ss es ps is gs ge bs)).cds ≡ orient m.strand (cds_start m.cds) (cds_end m.cds)
  unfolding oriented
  cds_is c = bounds_both m.strand m.cds (known.bounds ∙ c)

  pub pad_is : (oriented (lent m ss es ps is gs ge bs)).pad ≡ pad_of_phases ps
  unfolding oriented
  pad_is = ap (λ (t : Transcript). (oriented t).pad) ad.same ∙ ad.lent_are.pad

  pub pad_2 : (oriented (lent m ss es ps is gs ge bs)).pad ≤ 2
  pad_2 = let e = pad_is in let l = pad_low ps in omega arith

  pub head_is : head_of is ≡ first_exon (lent m ss es ps is gs ge bs)
  head_is = sym (ap first_exon ad.same ∙ ap first_index (ad.lent_are.cut m.strand) ∙ first_cut m.strand is gs ge ad.even_segments_lem.indexes ad.even_segments_lem.ends)
