-- Carried answers: their tests, and what they keep.
use Rattle.std.specs.Prelude.{Result}
use mathlib.Core.Path.{◌≡◌, refl}
use mathlib.Core.Bool.{Bool, true, false, cond}
use Rattle.locate.specs.declared.VariantLocation.{VariantLocation}
use Rattle.locate.specs.declared.VariantLocation.TheVariants.{Upstream, Downstream, Distal, FivePrimeUtr, CdsExon, ThreePrimeUtr, SpliceDonor, SpliceAcceptor, SpliceRegion, Intron, FrameshiftIntron, NonCodingExon, NonCodingIntron}
use Rattle.common.specs.declared.refusal.Refusal.{Refusal}
use Rattle.locate.specs.PlaceKind.{place_kind, place_offset}
use Rattle.consequence.specs.Called.{Called}
use Rattle.demands.specs.Carry.{Added, carry_place, carry_located, carry_called}

-- to carry the chosen answer is to choose the carried one
pub cond_carry : (x : Added) (s : Bool) (u v : VariantLocation) → carry_place x (cond s u v) ≡ cond s (carry_place x u) (carry_place x v)
cond_carry x true u v = refl
cond_carry x false u v = refl

pub cond_located : (x : Added) (b : Bool) (u v : Result VariantLocation Refusal) → carry_located x (cond b u v) ≡ cond b (carry_located x u) (carry_located x v)
cond_located x true u v = refl
cond_located x false u v = refl

pub cond_called : (x : Added) (b : Bool) (u v : Called) → carry_called x (cond b u v) ≡ cond b (carry_called x u) (carry_called x v)
cond_called x true u v = refl
cond_called x false u v = refl

-- a carried place is of the same kind, with the same offset
pub kind_carry : (x : Added) (v : VariantLocation) → place_kind (carry_place x v) ≡ place_kind v
unfolding carry_place
kind_carry x (Upstream d) = refl
kind_carry x (Downstream d) = refl
kind_carry x Distal = refl
kind_carry x (FivePrimeUtr i d m) = refl
kind_carry x (CdsExon i g o n c m) = refl
kind_carry x (ThreePrimeUtr i d m) = refl
kind_carry x (SpliceDonor i d) = refl
kind_carry x (SpliceAcceptor i d) = refl
kind_carry x (SpliceRegion i s d) = refl
kind_carry x (Intron i d) = refl
kind_carry x (FrameshiftIntron i d) = refl
kind_carry x (NonCodingExon i m) = refl
kind_carry x (NonCodingIntron i d) = refl

pub offset_carry : (x : Added) (v : VariantLocation) → place_offset (carry_place x v) ≡ place_offset v
unfolding carry_place
offset_carry x (Upstream d) = refl
offset_carry x (Downstream d) = refl
offset_carry x Distal = refl
offset_carry x (FivePrimeUtr i d m) = refl
offset_carry x (CdsExon i g o n c m) = refl
offset_carry x (ThreePrimeUtr i d m) = refl
offset_carry x (SpliceDonor i d) = refl
offset_carry x (SpliceAcceptor i d) = refl
offset_carry x (SpliceRegion i s d) = refl
offset_carry x (Intron i d) = refl
offset_carry x (FrameshiftIntron i d) = refl
offset_carry x (NonCodingExon i m) = refl
offset_carry x (NonCodingIntron i d) = refl
