-- The place of an intron base, from its distances to the two exons.
use Rattle.std.specs.Prelude.{ℕ, ◌+◌, ◌-◌, Bool, true, false, cond, not, ◌&&◌, ◌||◌, leb, ℤ, pos, neg_ℤ}
use Rattle.locate.specs.declared.SpliceSide.TheVariants.{Donor, Acceptor}
use Rattle.locate.specs.declared.VariantLocation.{VariantLocation}
use Rattle.locate.specs.declared.VariantLocation.TheVariants.{SpliceDonor, SpliceAcceptor, SpliceRegion, Intron, FrameshiftIntron, NonCodingIntron}
use Rattle.footprint.specs.declared.Ranges.{Ranges}
use Rattle.footprint.specs.Ranges.{splice_canonical_max, frameshift_intron_max_gap}
use Rattle.transcript.specs.Orient.{Interval}
use Rattle.transcript.specs.Bases.{size}

-- minus n
abbrev pub minus : ℕ → ℤ
minus n = neg_ℤ (pos n)

-- plus the donor distance where it is at most the acceptor distance, else minus the acceptor distance
abbrev pub signed_distance : ℕ → ℕ → ℤ
signed_distance d a = cond (leb d a) (pos d) (minus a)

-- the side in range; where both are, the nearer one, the donor on a tie
abbrev pub splice_region : Ranges → ℕ → ℕ → ℕ → VariantLocation
splice_region r i d a =
    cond (leb d r.donor && (not (leb a r.acceptor) || leb d a))
    (SpliceRegion i Donor (pos d))
    (SpliceRegion i Acceptor (minus a))

abbrev pub deep_intron : Bool → ℕ → ℤ → VariantLocation
deep_intron true i distance = Intron i distance
deep_intron false i distance = NonCodingIntron i distance

-- intron i of length `gap`, donor distance d, acceptor distance a: a short gap first, then the canonical bases, the region, the rest
unfoldable pub classify_distances : Ranges → Bool → ℕ → ℕ → ℕ → ℕ → VariantLocation
classify_distances r coding i gap d a =
    cond (leb gap frameshift_intron_max_gap) (FrameshiftIntron i (signed_distance d a))
    (cond (leb d splice_canonical_max) (SpliceDonor i d)
    (cond (leb a splice_canonical_max) (SpliceAcceptor i a)
    (cond (leb d r.donor || leb a r.acceptor) (splice_region r i d a)
    (deep_intron coding i (signed_distance d a)))))

-- the two distances of an intron base, each counted from 1
abbrev pub donor_distance : Interval → ℕ → ℕ
donor_distance gap p = p - gap.start + 1

abbrev pub acceptor_distance : Interval → ℕ → ℕ
acceptor_distance gap p = gap.end - p

abbrev pub classify_intronic : Ranges → Bool → ℕ → Interval → ℕ → VariantLocation
classify_intronic r coding i gap p = classify_distances r coding i (size gap) (donor_distance gap p) (acceptor_distance gap p)
