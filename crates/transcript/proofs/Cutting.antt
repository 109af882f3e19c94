-- The parts of the exons that lie in the CDS, without their indexes: of joined lists, and of exons that lie on one side of the CDS.
-- Assumes nothing.
use Prim.Native.Nat.{ℕ, suc, ◌≤◌, min, max}
use mathlib.Core.Path.{◌≡◌, refl, ap}
use mathlib.Core.Bool.{Bool, true, false}
use mathlib.Core.List.{List, [], ◌∷◌, ◌++◌, map}
use native.Mathlib.Omega.{arith}
use lib.Dec.{ltb}
use borrow.Author.Tests.{le-ltb}
use Rattle.common.specs.Lists.{cons_if}
use Rattle.transcript.specs.Orient.{Interval}
use Rattle.transcript.specs.Bases.{end_after}
use Rattle.transcript.specs.Cuts.{Cut, meet, cuts}
use Rattle.transcript.proofs.Cuts.{cut_bases, segments_from}
use Rattle.transcript.proofs.Ascends.{Ascends, ends_after}

-- the nonempty intersections of the exons with the CDS
abbrev pub parts : Interval → List Interval → List Interval
parts cds [] = []
parts cds (x ∷ xs) = cons_if (ltb (meet x cds).start (meet x cds).end) (meet x cds) (parts cds xs)

pub cuts_parts : (cds : Interval) (k : ℕ) (xs : List Interval) → segments_from cds k xs ≡ parts cds xs
unfolding cuts
cuts_parts cds k [] = refl
cuts_parts cds k (x ∷ xs) = step (ltb (meet x cds).start (meet x cds).end) (cuts cds (suc k) xs) (cuts_parts cds (suc k) xs)
  where
    step : (t : Bool) (cs : List Cut) → map cut_bases cs ≡ parts cds xs → map cut_bases (cons_if t (record { index = k; bases = meet x cds }) cs) ≡ cons_if t (meet x cds) (parts cds xs)
    step true cs h = ap (λ (l : List Interval). meet x cds ∷ l) h
    step false cs h = h

pub parts_append : (cds : Interval) (xs ys : List Interval) → parts cds (xs ++ ys) ≡ parts cds xs ++ parts cds ys
parts_append cds [] ys = refl
parts_append cds (x ∷ xs) ys = step (ltb (meet x cds).start (meet x cds).end) (parts cds (xs ++ ys)) (parts_append cds xs ys)
  where
    step : (t : Bool) (l : List Interval) → l ≡ parts cds xs ++ parts cds ys → cons_if t (meet x cds) l ≡ cons_if t (meet x cds) (parts cds xs) ++ parts cds ys
    step true l h = ap (λ (l : List Interval). meet x cds ∷ l) h
    step false l h = h

meet_before : (s e a b : ℕ) → e ≤ a → min e b ≤ max s a
meet_before s e a b h = omega arith

meet_after : (s e a b : ℕ) → b ≤ s → min e b ≤ max s a
meet_after s e a b h = omega arith

-- exons that end before the CDS, or start after it, have no part in it
pub parts_before : (cds : Interval) (xs : List Interval) (e : ℕ) → Ascends e xs → end_after e xs ≤ cds.start → parts cds xs ≡ []
unfolding end_after
parts_before cds [] e o l = refl
parts_before cds (x ∷ xs) e o l =
    let g = ends_after x.end xs o.2 in
    rw (le-ltb (meet x cds).start (meet x cds).end (meet_before x.start x.end cds.start cds.end (omega arith))) (parts_before cds xs x.end o.2 l)

pub parts_after : (cds : Interval) (xs : List Interval) (e : ℕ) → Ascends e xs → cds.end ≤ e → parts cds xs ≡ []
parts_after cds [] e o l = refl
parts_after cds (x ∷ xs) e o l =
    let f = o.0 in
    let s = o.1 in
    rw (le-ltb (meet x cds).start (meet x cds).end (meet_after x.start x.end cds.start cds.end (omega arith))) (parts_after cds xs x.end o.2 (omega arith))
