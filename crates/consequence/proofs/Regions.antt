-- The regions of places: the answer there, and what they say of the base.
-- Assumes nothing.
use Rattle.std.proofs.Common.{Option, Some, None}
use Prim.Native.Nat.{ℕ, suc, ◌+◌, ◌-◌, ◌≤◌, ◌<◌}
use mathlib.Core.Path.{◌≡◌, refl, sym, ◌∙◌, ap}
use mathlib.Core.Bool.{Bool, true, false, cond, not, ◌&&◌, ◌||◌}
use mathlib.Core.List.{List, [], ◌∷◌}
use native.Mathlib.Omega.{arith}
use lib.ListN.{length, get_or}
use lib.Dec.{leb, ltb}
use borrow.Author.Tests.{ltb-true, ltb-false}
use Rattle.common.proofs.TestParts.{on_test}
use Rattle.transcript.specs.Orient.{Interval, Oriented}
use Rattle.transcript.specs.Bases.{first_start, last_end}
use Rattle.transcript.proofs.Listed.{nowhere}
use Rattle.footprint.specs.declared.Ranges.{Ranges}
use Rattle.footprint.specs.Ranges.{splice_canonical_max, frameshift_intron_max_gap}
use Rattle.locate.specs.declared.VariantLocation.{VariantLocation}
use Rattle.consequence.specs.declared.CodingPlace.{CodingPlace}
use Rattle.locate.specs.declared.VariantLocation.TheVariants.{Upstream, Downstream, Distal, FivePrimeUtr, CdsExon, ThreePrimeUtr, SpliceDonor, SpliceAcceptor, SpliceRegion, Intron, FrameshiftIntron, NonCodingExon, NonCodingIntron}
use Rattle.locate.specs.Find.{Found, in_exon, in_intron, outside, find_after, find_exon_or_intron}
use Rattle.locate.specs.Intronic.{signed_distance, deep_intron, classify_distances}
use Rattle.locate.specs.Place.{exonic, place_found, locate}
use Rattle.locate.specs.PlaceKind.{is_cds_exon, place_offset}
use Rattle.common.specs.Refusal.{outcome}
use Rattle.consequence.specs.declared.region.Region.{Region}
use Rattle.consequence.specs.Answer.{codon_columns, codon_result, place_result}
use Rattle.consequence.specs.Call.{is_outside, closing_refusal}
use Rattle.consequence.specs.Region.{coding_place, region_of}
use Rattle.consequence.specs.code.AtPlace.{coding_called, region_called, place_called}
use Rattle.codon.specs.declared.Codon.{Codon}

-- the answer from the region is the answer at the place
module _ (code : List ℕ) (t : Oriented) (p alt : ℕ) (codon : ℕ → Option Codon) where
  coded : (place : VariantLocation) (b : CodingPlace) (c : Option Codon)
      → coding_called code t p alt place b c
      ≡ outcome (closing_refusal false (is_outside c)) (codon_result t p place (Region.Coding b) (codon_columns code t b.base.offset.0 b.base.number b.base.position alt c))
  coded place b (Some c) = refl
  coded place b None = refl

  pub by_region : (place : VariantLocation) → region_called code t p alt codon place (region_of t.coding place) ≡ place_called code t p alt codon place
  unfolding place_called place_result
  by_region (Upstream d) = refl
  by_region (Downstream d) = refl
  by_region Distal = refl
  by_region (FivePrimeUtr i d m) = refl
  by_region (CdsExon i g o n k m) = coded (CdsExon i g o n k m) (coding_place i g o n k m) (codon o.0)
  by_region (ThreePrimeUtr i d m) = refl
  by_region (SpliceDonor i d) = refl
  by_region (SpliceAcceptor i d) = refl
  by_region (SpliceRegion i s d) = refl
  by_region (Intron i d) = refl
  by_region (FrameshiftIntron i d) = refl
  by_region (NonCodingExon i m) = refl
  by_region (NonCodingIntron i d) = refl

-- exon i holds the base
abbrev pub Here : List Interval → ℕ → ℕ → Type 0
Here xs p i = (i < length xs) × ((get_or xs i nowhere).start ≤ p) × (p < (get_or xs i nowhere).end)

-- what was found, where the first of the exons has index n
abbrev FoundFrom : ℕ → List Interval → ℕ → Found → Type 0
FoundFrom n xs p (in_exon j x) = (n ≤ j) × Here xs p (j - n)
FoundFrom n xs p (in_intron j gap) = j < n + length xs
FoundFrom n xs p outside = Unit {0}

found_cond : (n : ℕ) (xs : List Interval) (p : ℕ) (b : Bool) (v w : Found) → (b ≡ true → FoundFrom n xs p v) → (b ≡ false → FoundFrom n xs p w) → FoundFrom n xs p (cond b v w)
found_cond n xs p true v w f g = f refl
found_cond n xs p false v w f g = g refl

found_later : (n : ℕ) (x : Interval) (xs : List Interval) (p : ℕ) (w : Found) → FoundFrom (suc n) xs p w → FoundFrom n (x ∷ xs) p w
found_later n x xs p (in_exon j y) h =
    let a = h.0 in
    (omega arith, rw (less j n a) (omega arith, h.1.1, h.1.2))
  where
    less : (j n : ℕ) → suc n ≤ j → j - n ≡ suc (j - suc n)
    less j n l = omega arith
found_later n x xs p (in_intron j gap) h = omega arith
found_later n x xs p outside h = tt

found_after : (xs : List Interval) (i e p : ℕ) → FoundFrom (suc i) xs p (find_after i e xs p)
unfolding find_after
found_after [] i e p = tt
found_after (x ∷ xs) i e p =
    found_cond (suc i) (x ∷ xs) p (ltb p x.start) _ _
    (λ b. omega arith)
    (λ b. found_cond (suc i) (x ∷ xs) p (ltb p x.end) _ _
    (λ d. (omega arith, at_first i (ltb-false p x.start b) (ltb-true p x.end d)))
    (λ d. found_later (suc i) x xs p (find_after (suc i) x.end xs p) (found_after xs (suc i) x.end p)))
  where
    at_first : (i : ℕ) → x.start ≤ p → p < x.end → Here (x ∷ xs) p (suc i - suc i)
    at_first i a b = rw (none (suc i)) (omega arith, a, b)
      where
        none : (n : ℕ) → n - n ≡ 0
        none n = omega arith

found_at : (xs : List Interval) (p : ℕ) → first_start xs ≤ p → FoundFrom 0 xs p (find_exon_or_intron xs p)
unfolding find_exon_or_intron
found_at [] p l = tt
found_at (x ∷ xs) p l =
    found_cond 0 (x ∷ xs) p (ltb p x.end) _ _
    (λ b. (omega arith, (omega arith, l, ltb-true p x.end b)))
    (λ b. found_later 0 x xs p (find_after 0 x.end xs p) (found_after xs 0 x.end p))

-- what the region of a place says of the base: the exon holds it, or the index is that of an exon
abbrev pub AtRegion : List Interval → ℕ → Region → Type 0
AtRegion xs p Region.Distal = Unit {0}
AtRegion xs p (Region.Flank c) = Unit {0}
AtRegion xs p (Region.Intron i c m) = i < length xs
AtRegion xs p (Region.Exon i c m) = Here xs p i
AtRegion xs p (Region.Coding b) = b.exon < length xs

module _ (xs : List Interval) (p : ℕ) (coding : Bool) where
  abbrev At : VariantLocation → Type 0
  At place = AtRegion xs p (region_of coding place)

  either : (b : Bool) (v w : VariantLocation) → At v → At w → At (cond b v w)
  either true v w f g = f
  either false v w f g = g

  deep : (b : Bool) (i d a : ℕ) → i < length xs → At (deep_intron b i (signed_distance d a))
  deep true i d a l = l
  deep false i d a l = l

  in_intron_lem : (r : Ranges) (b : Bool) (i gap d a : ℕ) → i < length xs → At (classify_distances r b i gap d a)
  unfolding classify_distances
  in_intron_lem r b i gap d a l =
      either (leb gap frameshift_intron_max_gap) _ _ l
      (either (leb d splice_canonical_max) _ _ l
      (either (leb a splice_canonical_max) _ _ l
      (either (leb d r.donor || leb a r.acceptor) _ _ (either (leb d r.donor && (not (leb a r.acceptor) || leb d a)) _ _ l l) (deep b i d a l))))

module _ (r : Ranges) (t : Oriented) (p : ℕ) where
  in_exon_lem : (i : ℕ) (m : Bool) → Here t.exons p i → At t.exons p t.coding (exonic t p i m)
  unfolding exonic
  in_exon_lem i m h =
      either t.exons p t.coding (not t.coding) _ _ h
      (either t.exons p t.coding (ltb p t.cds.start) _ _ h
      (either t.exons p t.coding (leb t.cds.end p) _ _ h h.0))

  by_found : (w : Found) → FoundFrom 0 t.exons p w → At t.exons p t.coding (place_found r t p w)
  by_found (in_exon i x) h = in_exon_lem i _ (rw (whole i) at h.1)
    where
      whole : (i : ℕ) → i - 0 ≡ i
      whole i = omega arith
  by_found (in_intron i gap) h = in_intron_lem t.exons p t.coding r t.coding i _ _ _ (omega arith)
  by_found outside h = tt

  pub placed : AtRegion t.exons p (region_of t.coding (locate r t p))
  unfolding locate
  placed = on_test (ltb p (first_start t.exons))
      (λ b. rw b (either t.exons p t.coding (leb (first_start t.exons - p) r.flank) _ _ tt tt))
      (λ b. rw b (either t.exons p t.coding (leb (last_end t.exons) p) _ _
      (either t.exons p t.coding (leb (p - last_end t.exons + 1) r.flank) _ _ tt tt)
      (by_found (find_exon_or_intron t.exons p) (found_at t.exons p (ltb-false p (first_start t.exons) b)))))

-- a coding region is that of a CdsExon, with its offset
abbrev is_coding : Region → Bool
is_coding Region.Distal = false
is_coding (Region.Flank c) = false
is_coding (Region.Intron i c m) = false
is_coding (Region.Exon i c m) = false
is_coding (Region.Coding b) = true

abbrev offset_of : Region → ℕ
offset_of Region.Distal = 0
offset_of (Region.Flank c) = 0
offset_of (Region.Intron i c m) = 0
offset_of (Region.Exon i c m) = 0
offset_of (Region.Coding b) = b.base.offset.0

coding_parts : (coding : Bool) (place : VariantLocation) → (is_coding (region_of coding place) ≡ is_cds_exon place) × (offset_of (region_of coding place) ≡ place_offset place)
coding_parts coding (Upstream d) = (refl, refl)
coding_parts coding (Downstream d) = (refl, refl)
coding_parts coding Distal = (refl, refl)
coding_parts coding (FivePrimeUtr i d m) = (refl, refl)
coding_parts coding (CdsExon i g o n k m) = (refl, refl)
coding_parts coding (ThreePrimeUtr i d m) = (refl, refl)
coding_parts coding (SpliceDonor i d) = (refl, refl)
coding_parts coding (SpliceAcceptor i d) = (refl, refl)
coding_parts coding (SpliceRegion i s d) = (refl, refl)
coding_parts coding (Intron i d) = (refl, refl)
coding_parts coding (FrameshiftIntron i d) = (refl, refl)
coding_parts coding (NonCodingExon i m) = (refl, refl)
coding_parts coding (NonCodingIntron i d) = (refl, refl)

pub coding_region : (coding : Bool) (place : VariantLocation) (b : CodingPlace) → region_of coding place ≡ Region.Coding b → (is_cds_exon place ≡ true) × (place_offset place ≡ b.base.offset.0)
coding_region coding place b e = let c = coding_parts coding place in (sym c.0 ∙ ap is_coding e, sym c.1 ∙ ap offset_of e)
