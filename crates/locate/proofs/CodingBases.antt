-- A place is CdsExon exactly where a segment holds the base, and its offset less the pad is the number of coding bases before it.
-- Assumes nothing.
use Prim.Native.Nat.{ℕ, ◌+◌, ◌-◌, ◌≤◌, ◌<◌}
use mathlib.Core.Path.{◌≡◌, refl, sym, ◌∙◌, ap}
use mathlib.Core.Bool.{true, false, not, ◌&&◌, and-false}
use mathlib.Core.List.{List, [], ◌∷◌, map}
use native.Mathlib.Omega.{arith}
use lib.Dec.{ltb, eqb}
use borrow.Author.Tests.{ltb-true, ltb-false, le-leb, lt-ltb, eqb-true}
use Rattle.common.specs.Lists.{any, count_below}
use Rattle.common.proofs.TestParts.{on_test, same_test, or_false, or_else_none, true_false}
use Rattle.common.proofs.Lists.{any_none}
use Rattle.common.proofs.Counting.{count_same, count_beyond}
use Rattle.transcript.specs.declared.Strand.{Strand}
use Rattle.transcript.specs.declared.Strand.TheVariants.{Plus, Minus}
use Rattle.transcript.specs.declared.CdsSegment.{CdsSegment}
use Rattle.transcript.specs.Limits.{coordinate_limit, top}
use Rattle.transcript.specs.Transcript.{Transcript, pad_of}
use Rattle.transcript.specs.Orient.{interval, orient_base, orient_segment, oriented}
use Rattle.transcript.specs.Bases.{inside, inside_any, bases_in, end_after}
use Rattle.transcript.specs.Admission.{bad_segment, admission, Admitted}
use Rattle.transcript.specs.Question.{place_refusal, question_refusal}
use Rattle.transcript.proofs.Orient.{inside_end, inside_orient, orient_high, count_oriented}
use Rattle.transcript.proofs.Ascends.{Ascends}
use Rattle.transcript.proofs.Admitted.{facts}
use Rattle.footprint.specs.declared.Ranges.{Ranges}
use Rattle.locate.specs.declared.VariantLocation.{VariantLocation}
use Rattle.std.specs.Prelude.{Ok, Err}
use Rattle.common.specs.Refusal.{refusal}
use Rattle.locate.specs.Place.{cds_offset, cdna_position, cdna_of_offset, locate}
use Rattle.locate.specs.PlaceKind.{is_cds_exon, place_offset}
use Rattle.locate.specs.Query.{locate_variant}
use Rattle.locate.specs.claims.CodingBases.{is_coding, is_before, coding_before, CodingPlaces, OffsetsCount}
use Rattle.locate.proofs.Coding.{coding_place, coding_offset}
use Rattle.locate.proofs.CodingExons.{segments_ascend}
use Rattle.locate.proofs.Cdna.{cdna_of_offset_lem}
use Rattle.locate.proofs.CountedBases.{bases_in_counts}

-- the end of a segment with good edges
segment_low : (g : CdsSegment) → bad_segment g ≡ false → g.genomic_end ≤ coordinate_limit
segment_low g h = ltb-false coordinate_limit g.genomic_end (or_false (not (ltb g.genomic_start g.genomic_end)) (ltb coordinate_limit g.genomic_end) h).1

-- the segments hold a base where the oriented segments hold the oriented base
pub coding_oriented : (σ : Strand) (gs : List CdsSegment) (p : ℕ) → any bad_segment gs ≡ false → inside_any (orient_base σ p) (map (orient_segment σ) gs) ≡ is_coding gs p
coding_oriented σ [] p h = refl
coding_oriented σ (g ∷ gs) p h =
    let n = any_none bad_segment g gs h in
    rw (inside_orient σ g.genomic_start g.genomic_end p (segment_low g n.0), coding_oriented σ gs p n.1)

-- coding bases stand below the limit, and the oriented segments end below the top
pub coding_low : (gs : List CdsSegment) (p : ℕ) → any bad_segment gs ≡ false → is_coding gs p ≡ true → p < coordinate_limit
coding_low [] p h c = absurd (true_false (sym c))
coding_low (g ∷ gs) p h c =
    let n = any_none bad_segment g gs h in
    on_test (inside p (interval g.genomic_start g.genomic_end))
    (λ i. (let a = inside_end p (interval g.genomic_start g.genomic_end) i in let b = segment_low g n.0 in omega arith))
    (λ i. coding_low gs p n.1 (rw i at c))

pub segments_high : (σ : Strand) (e : ℕ) (gs : List CdsSegment) → any bad_segment gs ≡ false → e ≤ top → end_after e (map (orient_segment σ) gs) ≤ top
unfolding end_after
segments_high σ e [] h l = l
segments_high σ e (g ∷ gs) h l =
    let n = any_none bad_segment g gs h in
    segments_high σ (orient_segment σ g).end gs n.1 (orient_high σ g.genomic_start g.genomic_end (segment_low g n.0))

-- before in strand order is below in oriented coordinates
before_oriented : (σ : Strand) (p q : ℕ) → q < top → ltb (orient_base σ q) (orient_base σ p) ≡ is_before σ p q
before_oriented Plus p q l = refl
before_oriented Minus p q l =
    same_test (ltb (top - 1 - q) (top - 1 - p)) (ltb p q)
    (λ h. (let a = ltb-true (top - 1 - q) (top - 1 - p) h in lt-ltb p q (omega arith)))
    (λ h. (let a = ltb-true p q h in lt-ltb (top - 1 - q) (top - 1 - p) (omega arith)))

-- the coding bases before a base, counted in oriented coordinates, are those before it in strand order
module _ (σ : Strand) (gs : List CdsSegment) (p n : ℕ) (h : any bad_segment gs ≡ false) where
  passes : (q : ℕ) → (inside (orient_base σ q) (interval 0 (orient_base σ p)) && inside_any (orient_base σ q) (map (orient_segment σ) gs)) ≡ (is_before σ p q && is_coding gs q)
  passes q =
      rw (coding_oriented σ gs q h, le-leb 0 (orient_base σ q) (omega arith))
      (on_test (is_coding gs q)
      (λ c. (let l = coding_low gs q h c in rw (before_oriented σ p q (omega arith))))
      (λ c. rw c (and-false (ltb (orient_base σ q) (orient_base σ p)) ∙ sym (and-false (is_before σ p q)))))

  beyond : (q : ℕ) → coordinate_limit ≤ q → (is_before σ p q && is_coding gs q) ≡ false
  beyond q l =
      on_test (is_coding gs q)
      (λ c. absurd (let k = coding_low gs q h c in omega arith))
      (λ c. rw c (and-false (is_before σ p q)))

  before_all : Ascends 0 (map (orient_segment σ) gs) → coordinate_limit ≤ n → bases_in (map (orient_segment σ) gs) 0 (orient_base σ p) ≡ count_below (λ q. is_before σ p q && is_coding gs q) n
  before_all a l =
      bases_in_counts 0 (map (orient_segment σ) gs) 0 (orient_base σ p) top a (segments_high σ 0 gs h (omega arith))
      ∙ sym (count_oriented σ (λ q. inside q (interval 0 (orient_base σ p)) && inside_any q (map (orient_segment σ) gs)))
      ∙ count_same _ (λ q. is_before σ p q && is_coding gs q) top passes
      ∙ count_beyond (λ q. is_before σ p q && is_coding gs q) coordinate_limit top (omega arith) beyond
      ∙ sym (count_beyond (λ q. is_before σ p q && is_coding gs q) coordinate_limit n l beyond)

-- a base of an admitted transcript
module _ (t : Transcript) (ad : Admitted t) (p : ℕ) where
  -- the bases that the oriented segments have before it
  pub bases_before : (n : ℕ) → coordinate_limit ≤ n → bases_in (oriented t).segments 0 (orient_base t.model.strand p) ≡ coding_before t p n
  unfolding oriented
  bases_before n l =
      let f = facts t ad in
      before_all t.model.strand t.segments p n f.segment_edges (segments_ascend t f) l

-- its place
module _ (t : Transcript) (ad : Admitted t) (p : ℕ) (r : Ranges) where
  pub coding_base_lem : is_cds_exon (locate r (oriented t) (orient_base t.model.strand p)) ≡ is_coding t.segments p
  unfolding oriented
  coding_base_lem = let f = facts t ad in coding_place t f r (orient_base t.model.strand p) ∙ coding_oriented t.model.strand t.segments p f.segment_edges

  pub offset_counts : (n : ℕ) → is_cds_exon (locate r (oriented t) (orient_base t.model.strand p)) ≡ true → coordinate_limit ≤ n
      → place_offset (locate r (oriented t) (orient_base t.model.strand p)) ≡ pad_of t.segments + coding_before t p n
  unfolding oriented
  offset_counts n e l = coding_offset r (oriented t) (orient_base t.model.strand p) e ∙ ap (λ (c : ℕ). pad_of t.segments + c) (bases_before t ad p n l)

-- a place that is answered is the place of an admitted transcript
record Placed (r : Ranges) (t : Transcript) (s : ℕ) (place : VariantLocation) : Type 0 where
  admitted : Admitted t
  is : place ≡ locate r (oriented t) (orient_base t.model.strand s)

placed : (r : Ranges) (t : Transcript) (chromosome s e : ℕ) (place : VariantLocation) → locate_variant r t chromosome s e ≡ Ok place → Placed r t s place
unfolding locate_variant question_refusal
placed r t chromosome s e place h =
    on_test (eqb (place_refusal t chromosome s e) 0)
    (λ z. (let k : Ok (locate r (oriented t) (orient_base t.model.strand s)) ≡ Ok place = rw z at h in
    record { admitted = (or_else_none (admission t) _ (eqb-true (place_refusal t chromosome s e) 0 z)).0; is = cc }))
    (λ z. absurd (let k : Err (refusal (place_refusal t chromosome s e)) ≡ Ok place = rw z at h in let y : ◌≡◌ {A = ℕ} 0 1 = cc in omega arith))

pub coding_places : CodingPlaces
coding_places r t chromosome s e place h =
    let k = placed r t chromosome s e place h in
    ap is_cds_exon k.is ∙ coding_base_lem t k.admitted s r

pub offsets_count : OffsetsCount
offsets_count r t chromosome s e n place h c l =
    let k = placed r t chromosome s e place h in
    ap place_offset k.is ∙ offset_counts t k.admitted s r n (sym (ap is_cds_exon k.is) ∙ c) l

-- the cDNA position of a coding base, from its padded offset: the exonic bases before the CDS, the offset less the pad, and 1
pub cdna_coding : (t : Transcript) → Admitted t → (p : ℕ) → is_coding t.segments p ≡ true
    → cdna_position (oriented t) (orient_base t.model.strand p) ≡ cdna_of_offset (oriented t) (cds_offset (oriented t) (orient_base t.model.strand p))
unfolding oriented
cdna_coding t a p h =
    let f = facts t a in
    cdna_of_offset_lem t f (orient_base t.model.strand p) (coding_oriented t.model.strand t.segments p f.segment_edges ∙ h)
