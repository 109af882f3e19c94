-- The place in an intron, a lemma for each case of its definition.
-- Assumes nothing.
use Prim.Native.Nat.{ℕ, ◌≤◌, ◌<◌}
use mathlib.Core.Path.{◌≡◌}
use mathlib.Core.Bool.{Bool}
use borrow.Author.Tests.{le-leb, lt-leb}
use lib.IntN.{pos}
use Rattle.footprint.specs.declared.Ranges.{Ranges}
use Rattle.locate.specs.Intronic.{minus, signed_distance, splice_region, deep_intron, classify_distances}
use Rattle.locate.specs.declared.SpliceSide.TheVariants.{Donor, Acceptor}
use Rattle.locate.specs.declared.VariantLocation.TheVariants.{SpliceDonor, SpliceAcceptor, SpliceRegion, FrameshiftIntron}

module _ (r : Ranges) (i d a : ℕ) where
  pub far_donor : r.donor < d → SpliceRegion i Acceptor (minus a) ≡ splice_region r i d a
  far_donor h = rw (lt-leb d r.donor h)

  pub far_acceptor : d ≤ r.donor → r.acceptor < a → SpliceRegion i Donor (pos d) ≡ splice_region r i d a
  far_acceptor h l = rw (le-leb d r.donor h, lt-leb a r.acceptor l)

  pub near_donor : d ≤ r.donor → a ≤ r.acceptor → d ≤ a → SpliceRegion i Donor (pos d) ≡ splice_region r i d a
  near_donor h l m = rw (le-leb d r.donor h, le-leb a r.acceptor l, le-leb d a m)

  pub near_acceptor : d ≤ r.donor → a ≤ r.acceptor → a < d → SpliceRegion i Acceptor (minus a) ≡ splice_region r i d a
  near_acceptor h l m = rw (le-leb d r.donor h, le-leb a r.acceptor l, lt-leb d a m)

module _ (r : Ranges) (c : Bool) (i gap d a : ℕ) where
  pub is_short_lem : gap ≤ 13 → FrameshiftIntron i (signed_distance d a) ≡ classify_distances r c i gap d a
  unfolding classify_distances
  is_short_lem h = rw (le-leb gap 13 h)

  pub is_donor : 13 < gap → d ≤ 2 → SpliceDonor i d ≡ classify_distances r c i gap d a
  unfolding classify_distances
  is_donor h l = rw (lt-leb gap 13 h, le-leb d 2 l)

  pub is_acceptor : 13 < gap → 2 < d → a ≤ 2 → SpliceAcceptor i a ≡ classify_distances r c i gap d a
  unfolding classify_distances
  is_acceptor h l m = rw (lt-leb gap 13 h, lt-leb d 2 l, le-leb a 2 m)

  pub is_region_donor : 13 < gap → 2 < d → 2 < a → d ≤ r.donor → splice_region r i d a ≡ classify_distances r c i gap d a
  unfolding classify_distances
  is_region_donor h l m n = rw (lt-leb gap 13 h, lt-leb d 2 l, lt-leb a 2 m, le-leb d r.donor n)

  pub is_region_acceptor : 13 < gap → 2 < d → 2 < a → r.donor < d → a ≤ r.acceptor → splice_region r i d a ≡ classify_distances r c i gap d a
  unfolding classify_distances
  is_region_acceptor h l m n o = rw (lt-leb gap 13 h, lt-leb d 2 l, lt-leb a 2 m, lt-leb d r.donor n, le-leb a r.acceptor o)

  pub is_deep : 13 < gap → 2 < d → 2 < a → r.donor < d → r.acceptor < a → deep_intron c i (signed_distance d a) ≡ classify_distances r c i gap d a
  unfolding classify_distances
  is_deep h l m n o = rw (lt-leb gap 13 h, lt-leb d 2 l, lt-leb a 2 m, lt-leb d r.donor n, lt-leb a r.acceptor o)

-- the signed distance: the donor on a tie
pub is_plus : (d a : ℕ) → d ≤ a → pos d ≡ signed_distance d a
is_plus d a h = rw (le-leb d a h)

pub is_minus : (d a : ℕ) → a < d → minus a ≡ signed_distance d a
is_minus d a h = rw (lt-leb d a h)
