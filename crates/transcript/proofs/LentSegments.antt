-- Segments lent as four lists of one length: their tests are tests of the lists.
-- Assumes nothing.
use Prim.Native.Nat.{ℕ, suc}
use mathlib.Core.Path.{◌≡◌, refl, sym, ◌∙◌, ap}
use mathlib.Core.Bool.{Bool, false, not, ◌||◌, or_assoc, or-false}
use mathlib.Core.List.{List, [], ◌∷◌, map}
use native.Mathlib.Omega.{arith}
use lib.ListN.{length}
use lib.Dec.{ltb}
use borrow.Author.Tests.{lt-ltb, ltb-false}
use Rattle.std.specs.List.{fold}
use Rattle.common.specs.Lists.{any}
use Rattle.common.proofs.TestParts.{or_false}
use Rattle.common.proofs.Lists.{any_none, any_map, any_same}
use Rattle.transcript.specs.declared.Strand.{Strand}
use Rattle.transcript.specs.declared.Exon.{Exon}
use Rattle.transcript.specs.Limits.{coordinate_limit}
use Rattle.transcript.specs.Transcript.{exons_of, segments_of, is_empty, pad_of}
use Rattle.transcript.specs.Orient.{Interval, orient, orient_base, orient_exon, orient_segment}
use Rattle.transcript.specs.Bases.{inside_any}
use Rattle.transcript.specs.Admission.{bad_exon, bad_segment, over_two, index_of, in_none}
use Rattle.transcript.specs.Cuts.{Cut, cut_at, cut_of}
use Rattle.transcript.specs.code.Lent.{holds, holds_none, phase_over, phases_over, pad_of_phases, listed_cuts}
use Rattle.transcript.proofs.Orient.{inside_orient}

-- lists of one length
pub record Even (ps is gs ge : List ℕ) : Type 0 where
  pub phases : length gs ≡ length ps
  pub indexes : length gs ≡ length is
  pub ends : length gs ≡ length ge

pub record Lent (ps is gs ge : List ℕ) : Type 0 where
  pub count : length (segments_of ps is gs ge) ≡ length gs
  pub edges : any bad_segment (segments_of ps is gs ge) ≡ any bad_exon (exons_of gs ge)
  pub coding : not (is_empty (segments_of ps is gs ge)) ≡ ltb 0 (length gs)
  pub over : any over_two (segments_of ps is gs ge) ≡ any phase_over ps
  pub pad : pad_of (segments_of ps is gs ge) ≡ pad_of_phases ps
  pub named : map index_of (segments_of ps is gs ge) ≡ is
  pub cut : (σ : Strand) → map (cut_of σ) (segments_of ps is gs ge) ≡ listed_cuts σ is gs ge
  pub turned : (σ : Strand) → map (orient_segment σ) (segments_of ps is gs ge) ≡ map (orient_exon σ) (exons_of gs ge)

pub lent_segments : (ps is gs ge : List ℕ) → Even ps is gs ge → Lent ps is gs ge
unfolding segments_of exons_of listed_cuts
lent_segments [] [] [] [] q = record { count = refl; edges = refl; coding = refl; over = refl; pad = refl; named = refl; cut = λ σ. refl; turned = λ σ. refl }
lent_segments [] is (g ∷ gs) ge q = absurd (let a = q.phases in omega arith)
lent_segments [] (i ∷ is) [] ge q = absurd (let a = q.indexes in omega arith)
lent_segments [] [] [] (e ∷ ge) q = absurd (let a = q.ends in omega arith)
lent_segments (p ∷ ps) is [] ge q = absurd (let a = q.phases in omega arith)
lent_segments (p ∷ ps) [] (g ∷ gs) ge q = absurd (let a = q.indexes in omega arith)
lent_segments (p ∷ ps) (i ∷ is) (g ∷ gs) [] q = absurd (let a = q.ends in omega arith)
lent_segments (p ∷ ps) (i ∷ is) (g ∷ gs) (e ∷ ge) q =
    let a = q.phases in let b = q.indexes in let c = q.ends in
    let r = lent_segments ps is gs ge (record { phases = omega arith; indexes = omega arith; ends = omega arith }) in
    record {
      count = ap suc r.count;
      edges = rw r.edges;
      coding = sym (lt-ltb 0 (suc (length gs)) (omega arith));
      over = rw r.over;
      pad = refl;
      named = ap (λ (l : List ℕ). i ∷ l) r.named;
      cut = λ σ. ap (λ (l : List Cut). cut_at i (orient σ g e) ∷ l) (r.cut σ);
      turned = λ σ. ap (λ (l : List Interval). orient σ g e ∷ l) (r.turned σ);
    }

-- exons with good edges hold a base where the oriented exons hold the oriented base
pub holds_oriented : (σ : Strand) (xs : List Exon) (p : ℕ) → any bad_exon xs ≡ false → any (holds p) xs ≡ inside_any (orient_base σ p) (map (orient_exon σ) xs)
holds_oriented σ [] p h = refl
holds_oriented σ (x ∷ xs) p h =
    let n = any_none bad_exon x xs h in
    let l = ltb-false coordinate_limit x.genomic_end (or_false (not (ltb x.genomic_start x.genomic_end)) (ltb coordinate_limit x.genomic_end) n.0).1 in
    rw (inside_orient σ x.genomic_start x.genomic_end p l, holds_oriented σ xs p n.1)

-- a base in no segment
pub none_oriented : (σ : Strand) (xs : List Exon) (bs : List ℕ) → any bad_exon xs ≡ false → any (in_none (map (orient_exon σ) xs)) (map (orient_base σ) bs) ≡ any (holds_none xs) bs
none_oriented σ xs bs h =
    any_map (in_none (map (orient_exon σ) xs)) (orient_base σ) bs
    ∙ any_same (λ b. in_none (map (orient_exon σ) xs) (orient_base σ b)) (holds_none xs) bs (λ b. sym (ap not (holds_oriented σ xs b h)))

-- phases that are looked at one after the other
pub phases_any : (ps : List ℕ) → phases_over ps ≡ any phase_over ps
phases_any ps = gathered false ps
  where
    gathered : (b : Bool) (ps : List ℕ) → fold (λ b p. b || phase_over p) b ps ≡ (b || any phase_over ps)
    gathered b [] = sym (or-false b)
    gathered b (p ∷ ps) = gathered (b || phase_over p) ps ∙ or_assoc b (phase_over p) (any phase_over ps)
