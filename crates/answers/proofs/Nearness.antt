-- The distance of a place beside a transcript fits 32 bits where the flank does.
-- Assumes nothing.
use Prim.Native.Nat.{ℕ, ◌+◌, ◌-◌, ◌<◌, ◌^◌}
use mathlib.Core.Path.{◌≡◌, refl}
use native.Mathlib.Omega.{arith}
use mathlib.Core.Bool.{Bool, true, false, cond, not, ◌&&◌, ◌||◌}
use lib.Dec.{leb, ltb, eqb}
use lib.IntN.{ℤ, pos}
use borrow.Author.Tests.{leb-true}
use Rattle.transcript.specs.Transcript.{Transcript}
use Rattle.transcript.specs.Orient.{Oriented, orient_base, oriented}
use Rattle.transcript.specs.Bases.{first_start, last_end}
use Rattle.transcript.specs.Question.{place_refusal}
use Rattle.footprint.specs.declared.Ranges.{Ranges}
use Rattle.footprint.specs.Ranges.{splice_canonical_max, frameshift_intron_max_gap}
use Rattle.locate.specs.declared.VariantLocation.{VariantLocation}
use Rattle.locate.specs.declared.VariantLocation.TheVariants.{Upstream, Downstream, Distal, SpliceRegion}
use Rattle.locate.specs.declared.SpliceSide.TheVariants.{Donor, Acceptor}
use Rattle.locate.specs.Intronic.{minus, signed_distance, deep_intron, classify_distances}
use Rattle.locate.specs.Find.{Found, in_exon, in_intron, outside, find_exon_or_intron}
use Rattle.locate.specs.Place.{exonic, place_found, locate}
use Rattle.locate.specs.Query.{locate_variant}
use Rattle.common.specs.Refusal.{outcome}
use Rattle.common.proofs.TestParts.{on_test}
use Rattle.words.specs.code.Near.{Answers, Near}

near_either : (b : Bool) (x y : VariantLocation) → (b ≡ true → Near x) → Near y → Near (cond b x y)
near_either true x y f n = f refl
near_either false x y f n = n

near_deep : (coding : Bool) (i : ℕ) (d : ℤ) → Near (deep_intron coding i d)
near_deep true i d = tt
near_deep false i d = tt

near_intron : (r : Ranges) (coding : Bool) (i gap d a : ℕ) → Near (classify_distances r coding i gap d a)
unfolding classify_distances
near_intron r coding i gap d a =
    near_either (leb gap frameshift_intron_max_gap) _ _ (λ h. tt)
    (near_either (leb d splice_canonical_max) _ _ (λ h. tt)
    (near_either (leb a splice_canonical_max) _ _ (λ h. tt)
    (near_either (leb d r.donor || leb a r.acceptor) _ _
    (λ h. near_either (leb d r.donor && (not (leb a r.acceptor) || leb d a)) (SpliceRegion i Donor (pos d)) (SpliceRegion i Acceptor (minus a)) (λ k. tt) tt)
    (near_deep coding i (signed_distance d a)))))

near_exon : (t : Oriented) (p i : ℕ) (mark : Bool) → Near (exonic t p i mark)
unfolding exonic
near_exon t p i mark =
    near_either (not t.coding) _ _ (λ h. tt)
    (near_either (ltb p t.cds.start) _ _ (λ h. tt)
    (near_either (leb t.cds.end p) _ _ (λ h. tt)
    tt))

near_found : (r : Ranges) (t : Oriented) (p : ℕ) (w : Found) → Near (place_found r t p w)
near_found r t p (in_exon i x) = near_exon t p i _
near_found r t p (in_intron i gap) = near_intron r t.coding i _ _ _
near_found r t p outside = tt

pub near_place : (r : Ranges) → r.flank < 2 ^ 32 → (t : Oriented) (p : ℕ) → Near (locate r t p)
unfolding locate
near_place r l t p =
    near_either (ltb p (first_start t.exons)) _ _
    (λ h. near_either (leb (first_start t.exons - p) r.flank) (Upstream (first_start t.exons - p)) Distal (λ k. (let h = leb-true (first_start t.exons - p) r.flank k in omega arith)) tt)
    (near_either (leb (last_end t.exons) p) _ _
    (λ h. near_either (leb (p - last_end t.exons + 1) r.flank) (Downstream (p - last_end t.exons + 1)) Distal (λ k. (let h = leb-true (p - last_end t.exons + 1) r.flank k in omega arith)) tt)
    (near_found r t p (find_exon_or_intron t.exons p)))

-- an outcome is as said where its answer is
pub near_outcome : {A : Type 0} (Says : A → Type 0) (n : ℕ) (x : A) → Says x → Answers Says (outcome n x)
near_outcome Says n x h = on_test (eqb n 0) (λ e. rw e h) (λ e. rw e tt)

-- of the question of a place
pub near_located : (r : Ranges) → r.flank < 2 ^ 32 → (t : Transcript) (c s e : ℕ) → Answers Near (locate_variant r t c s e)
unfolding locate_variant
near_located r l t c s e = near_outcome Near (place_refusal t c s e) _ (near_place r l (oriented t) (orient_base t.model.strand s))
