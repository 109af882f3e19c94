-- A place is CdsExon exactly where a segment holds the base, in oriented coordinates.
-- Assumes nothing.
use Rattle.std.proofs.Common.{rules}
use Prim.Native.Nat.{ℕ, suc, ◌+◌, ◌-◌, ◌≤◌}
use mathlib.Core.Path.{◌≡◌, refl, sym, ◌∙◌, ap}
use mathlib.Core.Bool.{Bool, true, false, cond, not, ◌&&◌, and-false, and-true as and-true-right}
use mathlib.Core.List.{List, [], ◌∷◌, map}
use native.Mathlib.Omega.{arith}
use lib.ListN.{length}
use lib.Dec.{leb, ltb}
use borrow.Author.Tests.{ltb-true, ltb-false, leb-true, leb-false, lt-ltb, le-ltb, le-leb, lt-leb}
use Rattle.common.proofs.TestParts.{on_test, true_false}
use Rattle.transcript.specs.declared.CdsSegment.{CdsSegment}
use Rattle.locate.specs.declared.VariantLocation.{VariantLocation}
use Rattle.footprint.specs.declared.Ranges.{Ranges}
use Rattle.transcript.specs.Transcript.{Transcript}
use Rattle.transcript.specs.Orient.{Interval, Oriented, oriented, orient_segment}
use Rattle.transcript.specs.Bases.{inside, inside_any, first_start, last_end}
use Rattle.locate.specs.Find.{Found, in_exon, in_intron, outside, find_after, find_exon_or_intron}
use Rattle.locate.specs.Intronic.{classify_distances, classify_intronic}
use Rattle.locate.specs.Place.{exonic, place_found, cds_offset, is_exonic_splice_region, locate}
use Rattle.locate.specs.PlaceKind.{is_cds_exon, place_offset}
use Rattle.transcript.proofs.Ascends.{Ascends, ascends_first, outside_before, outside_after}
use Rattle.transcript.proofs.Cuts.{cuts_inside}
use Rattle.transcript.proofs.Facts.{Facts}
use Rattle.transcript.proofs.Admitted.{empty_list}

abbrev pub is_exon : Found → Bool
is_exon (in_exon i x) = true
is_exon (in_intron i gap) = false
is_exon outside = false

-- the walk ends at an exon exactly where an exon holds the base
pub found_after : (i e : ℕ) (xs : List Interval) (p : ℕ) → Ascends e xs → e ≤ p → is_exon (find_after i e xs p) ≡ inside_any p xs
unfolding find_after
found_after i e [] p a l = refl
found_after i e (x ∷ xs) p a l =
    on_test (ltb p x.start)
    (λ h. rw (h, lt-leb x.start p (ltb-true p x.start h)) (sym (outside_before x.end xs p a.2 (let b = ltb-true p x.start h in let m = a.1 in omega arith))))
    (λ h. (let s = ltb-false p x.start h in
    on_test (ltb p x.end)
    (λ k. rw (h, k, le-leb x.start p s))
    (λ k. rw (h, k, le-leb x.start p s) (found_after (suc i) x.end xs p a.2 (ltb-false p x.end k)))))

pub found_exon : (xs : List Interval) (p : ℕ) → Ascends 0 xs → first_start xs ≤ p → is_exon (find_exon_or_intron xs p) ≡ inside_any p xs
unfolding find_exon_or_intron
found_exon [] p a l = refl
found_exon (x ∷ xs) p a l =
    on_test (ltb p x.end)
    (λ k. rw (k, le-leb x.start p l))
    (λ k. rw (k, le-leb x.start p l) (found_after 0 x.end xs p a.2 (ltb-false p x.end k)))

-- an intron base is not a coding one
not_either : (b : Bool) (x y : VariantLocation) → is_cds_exon x ≡ false → is_cds_exon y ≡ false → is_cds_exon (cond b x y) ≡ false
not_either true x y f g = f
not_either false x y f g = g

pub intron_not_coding : (r : Ranges) (coding : Bool) (i gap d a : ℕ) → is_cds_exon (classify_distances r coding i gap d a) ≡ false
unfolding classify_distances
intron_not_coding r true i gap d a = search (rules, not_either)
intron_not_coding r false i gap d a = search (rules, not_either)

-- a base of an exon: coding where there is a CDS that holds it
pub exonic_coding : (t : Oriented) (p i : ℕ) (mark : Bool) → is_cds_exon (exonic t p i mark) ≡ (t.coding && inside p t.cds)
unfolding exonic
exonic_coding t p i mark =
    on_test t.coding
    (λ c. on_test (ltb p t.cds.start)
    (λ h. rw (c, h, lt-leb t.cds.start p (ltb-true p t.cds.start h)))
    (λ h. on_test (leb t.cds.end p)
    (λ k. rw (c, h, k, le-leb t.cds.start p (ltb-false p t.cds.start h), le-ltb p t.cds.end (leb-true t.cds.end p k)))
    (λ k. rw (c, h, k, le-leb t.cds.start p (ltb-false p t.cds.start h), lt-ltb p t.cds.end (leb-false t.cds.end p k)))))
    (λ c. rw c)

found_coding : (r : Ranges) (t : Oriented) (p : ℕ) (f : Found) → is_cds_exon (place_found r t p f) ≡ ((t.coding && inside p t.cds) && is_exon f)
found_coding r t p (in_exon i x) = exonic_coding t p i (is_exonic_splice_region (length t.exons) i x p) ∙ sym (and-true-right (t.coding && inside p t.cds))
found_coding r t p (in_intron i gap) = intron_not_coding r t.coding i (gap.end - gap.start) (p - gap.start + 1) (gap.end - p) ∙ sym (and-false (t.coding && inside p t.cds))
found_coding r t p outside = sym (and-false (t.coding && inside p t.cds))

-- the place of a base whose walk ends at an exon exactly where an exon holds it
pub place_coding : (r : Ranges) (t : Oriented) (p : ℕ) → Ascends 0 t.exons → is_cds_exon (locate r t p) ≡ ((t.coding && inside p t.cds) && inside_any p t.exons)
unfolding locate
place_coding r t p a =
    on_test (ltb p (first_start t.exons))
    (λ h. rw (h, outside_before (first_start t.exons) t.exons p (ascends_first 0 t.exons a) (ltb-true p (first_start t.exons) h))
    (not_either (leb (first_start t.exons - p) r.flank) (VariantLocation.Upstream (first_start t.exons - p)) VariantLocation.Distal refl refl ∙ sym (and-false (t.coding && inside p t.cds))))
    (λ h. on_test (leb (last_end t.exons) p)
    (λ k. rw (h, k, outside_after 0 t.exons p a (leb-true (last_end t.exons) p k))
    (not_either (leb (p - last_end t.exons + 1) r.flank) (VariantLocation.Downstream (p - last_end t.exons + 1)) VariantLocation.Distal refl refl ∙ sym (and-false (t.coding && inside p t.cds))))
    (λ k. rw (h, k) (found_coding r t p (find_exon_or_intron t.exons p)
    ∙ ap (λ (b : Bool). (t.coding && inside p t.cds) && b) (found_exon t.exons p a (ltb-false p (first_start t.exons) h)))))

segments_none : (t : Transcript) (p : ℕ) → (oriented t).coding ≡ false → inside_any p (oriented t).segments ≡ false
unfolding oriented
segments_none t p c = ap (λ (gs : List CdsSegment). inside_any p (map (orient_segment t.model.strand) gs)) (empty_list t.segments c)

module _ (t : Transcript) (f : Facts t) where
  -- the segments hold the bases of the CDS that exons hold
  pub segments_inside : (p : ℕ) → inside_any p (oriented t).segments ≡ (((oriented t).coding && inside p (oriented t).cds) && inside_any p (oriented t).exons)
  segments_inside p = on_test (oriented t).coding
      (λ c. ap (inside_any p) f.segments ∙ cuts_inside (oriented t).cds 0 (oriented t).exons p ∙ rw c)
      (λ c. segments_none t p c ∙ rw c)

  pub coding_place : (r : Ranges) (p : ℕ) → is_cds_exon (locate r (oriented t) p) ≡ inside_any p (oriented t).segments
  coding_place r p = place_coding r (oriented t) p f.order ∙ sym (segments_inside p)

-- the offset of a place, if it is a coding one
abbrev Offset : ℕ → VariantLocation → Type 0
Offset n place = is_cds_exon place ≡ true → place_offset place ≡ n

offset_cond : (n : ℕ) (b : Bool) (x y : VariantLocation) → Offset n x → Offset n y → Offset n (cond b x y)
offset_cond n true x y f g = f
offset_cond n false x y f g = g

offset_none : (n : ℕ) (x : VariantLocation) → is_cds_exon x ≡ false → Offset n x
offset_none n x h e = absurd (true_false (sym e ∙ h))

found_offset : (r : Ranges) (t : Oriented) (p : ℕ) (f : Found) → Offset (cds_offset t p) (place_found r t p f)
unfolding exonic
found_offset r t p (in_exon i x) =
    offset_cond _ (not t.coding) _ _ (λ e. absurd (true_false (sym e)))
    (offset_cond _ (ltb p t.cds.start) _ _ (λ e. absurd (true_false (sym e)))
    (offset_cond _ (leb t.cds.end p) _ _ (λ e. absurd (true_false (sym e))) (λ e. refl)))
found_offset r t p (in_intron i gap) = offset_none (cds_offset t p) (classify_intronic r t.coding i gap p) (intron_not_coding r t.coding i (gap.end - gap.start) (p - gap.start + 1) (gap.end - p))
found_offset r t p outside = λ e. absurd (true_false (sym e))

pub coding_offset : (r : Ranges) (t : Oriented) (p : ℕ) → is_cds_exon (locate r t p) ≡ true → place_offset (locate r t p) ≡ cds_offset t p
unfolding locate
coding_offset r t p =
    offset_cond _ (ltb p (first_start t.exons)) _ _
    (offset_cond _ (leb (first_start t.exons - p) r.flank) _ _ (λ e. absurd (true_false (sym e))) (λ e. absurd (true_false (sym e))))
    (offset_cond _ (leb (last_end t.exons) p) _ _
    (offset_cond _ (leb (p - last_end t.exons + 1) r.flank) _ _ (λ e. absurd (true_false (sym e))) (λ e. absurd (true_false (sym e))))
    (found_offset r t p (find_exon_or_intron t.exons p)))
