-- The cDNA position of a coding base, from its padded offset: the exonic bases before the CDS, the coding bases before the base, and 1.
-- Assumes nothing.
use Prim.Native.Nat.{ℕ, ◌+◌, ◌-◌, ◌≤◌, ◌<◌, min, max}
use mathlib.Core.Path.{◌≡◌, refl, sym, ◌∙◌, ap}
use mathlib.Core.Bool.{true, ◌&&◌}
use mathlib.Core.List.{List, [], ◌∷◌}
use native.Mathlib.Omega.{arith}
use lib.Dec.{leb}
use borrow.Author.Tests.{leb-true, leb-false}
use Rattle.common.proofs.TestParts.{on_test, and_true}
use Rattle.transcript.specs.Transcript.{Transcript}
use Rattle.transcript.specs.Orient.{Interval, oriented}
use Rattle.transcript.specs.Bases.{inside, inside_any, bases_in}
use Rattle.locate.specs.Place.{cds_offset, cdna_position, cdna_of_offset}
use Rattle.transcript.proofs.Orient.{inside_start, inside_end}
use Rattle.transcript.proofs.Cuts.{cuts_bases}
use Rattle.transcript.proofs.Facts.{Facts}
use Rattle.locate.proofs.Coding.{segments_inside}

-- one interval's bases of [a, b), cut at m
part : (s e a m b : ℕ) → a ≤ m → m ≤ b → min e b - max s a ≡ (min e m - max s a) + (min e b - max s m)
part s e a m b l h =
    on_test (leb e m)
    (λ k. (let q = leb-true e m k in rw (left e b (omega arith), left e m q) (below s e a m q)))
    (λ k. (let q = leb-false e m k in rw (right e m q) (above (min e b) s a m l (least m e b q h))))
  where
    left : (e b : ℕ) → e ≤ b → min e b ≡ e
    left e b h = omega arith

    right : (e m : ℕ) → m < e → min e m ≡ m
    right e m h = omega arith

    below : (s e a m : ℕ) → e ≤ m → e - max s a ≡ (e - max s a) + (e - max s m)
    below s e a m h = omega arith

    above : (u s a m : ℕ) → a ≤ m → m ≤ u → u - max s a ≡ (m - max s a) + (u - max s m)
    above u s a m l h = omega arith

    least : (m e b : ℕ) → m < e → m ≤ b → m ≤ min e b
    least m e b l h = omega arith

-- the bases of [a, b) are those of [a, m) and those of [m, b)
pub bases_cut : (xs : List Interval) (a m b : ℕ) → a ≤ m → m ≤ b → bases_in xs a b ≡ bases_in xs a m + bases_in xs m b
unfolding bases_in
bases_cut [] a m b l h = refl
bases_cut (x ∷ xs) a m b l h = rw (part x.start x.end a m b l h, bases_cut xs a m b l h) (add_swap _ _ _ _)
  where
    add_swap : (v w y z : ℕ) → v + w + (y + z) ≡ v + y + (w + z)
    add_swap v w y z = omega arith

module _ (t : Transcript) (f : Facts t) where
  -- a coding base lies in the CDS
  pub coding_in_cds : (p : ℕ) → inside_any p (oriented t).segments ≡ true → inside p (oriented t).cds ≡ true
  coding_in_cds p h =
      let a = and_true ((oriented t).coding && inside p (oriented t).cds) (inside_any p (oriented t).exons) (sym (segments_inside t f p) ∙ h) in
      (and_true (oriented t).coding (inside p (oriented t).cds) a.0).1

  -- the coding bases before a base of the CDS are the exonic ones from the CDS start
  pub coding_bases : (p : ℕ) → p ≤ (oriented t).cds.end → bases_in (oriented t).segments 0 p ≡ bases_in (oriented t).exons (oriented t).cds.start p
  coding_bases p l =
      ap (λ (gs : List Interval). bases_in gs 0 p) f.segments ∙ cuts_bases (oriented t).cds 0 (oriented t).exons 0 p
      ∙ rw (start (oriented t).cds.start, end p (oriented t).cds.end l)
    where
      start : (s : ℕ) → max 0 s ≡ s
      start s = omega arith

      end : (p e : ℕ) → p ≤ e → min p e ≡ p
      end p e h = omega arith

  pub cdna_of_offset_lem : (p : ℕ) → inside_any p (oriented t).segments ≡ true → cdna_position (oriented t) p ≡ cdna_of_offset (oriented t) (cds_offset (oriented t) p)
  cdna_of_offset_lem p h =
      let i = coding_in_cds p h in
      let a = inside_start p (oriented t).cds i in
      let b = inside_end p (oriented t).cds i in
      let c = bases_cut (oriented t).exons 0 (oriented t).cds.start p (omega arith) a in
      let d = coding_bases p (omega arith) in
      omega arith
