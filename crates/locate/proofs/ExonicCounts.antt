-- The counts that the index gives for a base of an exon, and the place that follows from them.
-- Assumes nothing.
use Prim.Native.Nat.{ℕ, zero, suc, ◌+◌, ◌-◌, ◌≤◌, ◌<◌, min, max}
use mathlib.Core.Path.{◌≡◌, refl, sym, ◌∙◌, ap}
use mathlib.Core.Bool.{Bool, true, cond}
use mathlib.Core.List.{List, [], ◌∷◌, map}
use native.Mathlib.Omega.{arith}
use lib.ListN.{length, get_or}
use Rattle.transcript.specs.Transcript.{Transcript}
use Rattle.transcript.specs.Orient.{Interval, Oriented, oriented}
use Rattle.transcript.specs.Bases.{size, bases_in, end_after}
use Rattle.locate.specs.Place.{total_cds_length}
use Rattle.locate.specs.Index.{cumulative, index_scalars}
use Rattle.locate.specs.declared.exonic.Counts.{Counts}
use Rattle.locate.specs.code.Exonic.{counts}
use Rattle.transcript.proofs.Ascends.{Ascends}
use Rattle.transcript.proofs.Cuts.{cuts_ascend, cuts_bases}
use Rattle.transcript.proofs.Facts.{Facts}
use Rattle.locate.proofs.Cdna.{bases_cut}
use Rattle.transcript.proofs.Listed.{nowhere}
use Rattle.locate.proofs.Sums.{bases_from, bases_all, sum_before, starts_from}

-- a base of an interval is one base
one_here : (s e p : ℕ) → s ≤ p → p < e → min e (p + 1) - max s p ≡ 1
one_here s e p h l = omega arith

none_here : (s e p : ℕ) → e ≤ p → min e (p + 1) - max s p ≡ 0
none_here s e p h = omega arith

pub bases_one : (xs : List Interval) (e k p : ℕ) → Ascends e xs → k < length xs → (get_or xs k nowhere).start ≤ p → p < (get_or xs k nowhere).end → bases_in xs p (p + 1) ≡ 1
unfolding bases_in
bases_one [] e k p h l a b = absurd (omega arith)
bases_one (x ∷ xs) e zero p h l a b =
    let r = bases_from xs x.end p (p + 1) h.2 in
    let o = one_here x.start x.end p a b in
    omega arith
bases_one (x ∷ xs) e (suc k) p h l a b =
    let f = starts_from xs x.end k h.2 (omega arith) in
    let n = none_here x.start x.end p (omega arith) in
    let r = bases_one xs x.end k p h.2 (omega arith) a b in
    omega arith

-- the counts of a base of exon i, as the code computes them from the index
abbrev pub index_counts : Oriented → ℕ → ℕ → ℕ → Counts
index_counts o p i first =
    counts (get_or (cumulative 0 (map size o.exons)) i 0 + (p - (get_or o.exons i nowhere).start))
    (index_scalars o).utr5_exonic_len
    ((index_scalars o).utr5_exonic_len + ((index_scalars o).total_cds_length - (index_scalars o).cds_start_pad))
    (index_scalars o).cds_start_pad
    first

module _ (t : Transcript) (f : Facts t) where
  -- the coding bases are the exonic bases of the CDS
  pub coding_total : total_cds_length (oriented t) ≡ (oriented t).pad + bases_in (oriented t).exons (oriented t).cds.start (oriented t).cds.end
  coding_total =
      let gs = (oriented t).segments in
      let b = end_after 0 gs + (oriented t).cds.end in
      let a : Ascends 0 gs = rw f.segments (cuts_ascend (oriented t).cds 0 0 (oriented t).exons f.order) in
      let w = bases_all gs 0 b a (omega arith) in
      let k : bases_in gs 0 b ≡ bases_in (oriented t).exons (oriented t).cds.start (oriented t).cds.end
      = ap (λ (ys : List Interval). bases_in ys 0 b) f.segments ∙ cuts_bases (oriented t).cds 0 (oriented t).exons 0 b
      ∙ rw (low (oriented t).cds.start, least (end_after 0 gs) (oriented t).cds.end) in
      omega arith
    where
      low : (s : ℕ) → max 0 s ≡ s
      low s = omega arith

      least : (a e : ℕ) → min (a + e) e ≡ e
      least a e = omega arith

-- the numbers behind the place: exonic bases before the base, the CDS and its end
pub record Numbers (o : Oriented) (p i first : ℕ) : Type 0 where
  pub before : (index_counts o p i first).before ≡ bases_in o.exons 0 p
  pub utr5 : (index_counts o p i first).utr5 ≡ cond o.coding (bases_in o.exons 0 o.cds.start) 0
  pub coding_end : (index_counts o p i first).coding_end ≡ cond o.coding (bases_in o.exons 0 o.cds.start) 0 + bases_in o.exons o.cds.start o.cds.end

module _ (t : Transcript) (f : Facts t) (i p first : ℕ) (l : i < length (oriented t).exons)
    (a : (get_or (oriented t).exons i nowhere).start ≤ p) (b : p < (get_or (oriented t).exons i nowhere).end) where
  pub numbers : Numbers (oriented t) p i first
  numbers =
      let r = sum_before (oriented t).exons 0 0 i p f.order l a b in
      let c = coding_total t f in
      record { before = omega arith; utr5 = refl; coding_end = end _ _ _ _ c }
    where
      end : (u k n w : ℕ) → k ≡ n + w → u + (k - n) ≡ u + w
      end u k n w h = omega arith

  -- where there is a CDS
  module _ (c : (oriented t).coding ≡ true) where
    pub utr5_is : (index_counts (oriented t) p i first).utr5 ≡ bases_in (oriented t).exons 0 (oriented t).cds.start
    utr5_is = ap (λ (x : Bool). cond x (bases_in (oriented t).exons 0 (oriented t).cds.start) 0) c

    pub end_is : (index_counts (oriented t) p i first).coding_end ≡ bases_in (oriented t).exons 0 (oriented t).cds.end
    end_is =
        let s = f.cds_some c in
        let d = bases_cut (oriented t).exons 0 (oriented t).cds.start (oriented t).cds.end (omega arith) (omega arith) in
        numbers.coding_end ∙ ap (λ (x : Bool). cond x (bases_in (oriented t).exons 0 (oriented t).cds.start) 0 + bases_in (oriented t).exons (oriented t).cds.start (oriented t).cds.end) c ∙ sym d

    -- the bases before the CDS from the base on
    pub five_is : p < (oriented t).cds.start → (index_counts (oriented t) p i first).utr5 ≡ (index_counts (oriented t) p i first).before + bases_in (oriented t).exons p (oriented t).cds.start
    five_is h =
        utr5_is ∙ bases_cut (oriented t).exons 0 p (oriented t).cds.start (omega arith) (omega arith)
        ∙ ap (λ (n : ℕ). n + bases_in (oriented t).exons p (oriented t).cds.start) (sym numbers.before)

    -- the bases past the CDS up to the base
    pub three_is : (oriented t).cds.end ≤ p
        → (index_counts (oriented t) p i first).before + 1 ≡ (index_counts (oriented t) p i first).coding_end + bases_in (oriented t).exons (oriented t).cds.end (p + 1)
    three_is h =
        let n = numbers.before in
        let e = end_is in
        let o = bases_one (oriented t).exons 0 i p f.order l a b in
        let u = bases_cut (oriented t).exons 0 p (p + 1) (omega arith) (omega arith) in
        let v = bases_cut (oriented t).exons 0 (oriented t).cds.end (p + 1) (omega arith) (omega arith) in
        joined _ _ _ _ _ _ _ n e o u v
      where
        joined : (k b w e n d m : ℕ) → k ≡ b → w ≡ e → n ≡ 1 → m ≡ b + n → m ≡ e + d → k + 1 ≡ w + d
        joined k b w e n d m h i j q r = omega arith

    -- the coding bases before the base
    pub cds_is : (oriented t).cds.start ≤ p → (index_counts (oriented t) p i first).before ≡ (index_counts (oriented t) p i first).utr5 + bases_in (oriented t).exons (oriented t).cds.start p
    cds_is h =
        numbers.before ∙ bases_cut (oriented t).exons 0 (oriented t).cds.start p (omega arith) h
        ∙ ap (λ (n : ℕ). n + bases_in (oriented t).exons (oriented t).cds.start p) (sym utr5_is)
