-- The CDS segments of a transcript: the cuts of its exons by the CDS.
-- Assumes nothing.
use Prim.Native.Nat.{ℕ, suc, ◌+◌, ◌-◌, ◌≤◌, ◌<◌, min, max}
use mathlib.Core.Path.{◌≡◌, refl, sym, ◌∙◌, ap₂}
use mathlib.Core.Bool.{Bool, true, false, ◌&&◌, ◌||◌, and-false}
use mathlib.Core.List.{List, [], ◌∷◌, map}
use native.Mathlib.Omega.{arith}
use lib.Dec.{ltb, eqb}
use borrow.Author.Tests.{ltb-true, ltb-false, eqb-true, lt-ltb, le-ltb}
use Rattle.common.proofs.TestParts.{and_true, same_test, on_test, true_false}
use Rattle.transcript.specs.Orient.{Interval}
use Rattle.transcript.specs.Bases.{inside, inside_any, bases_in}
use Rattle.transcript.specs.Cuts.{Cut, meet, cuts, same_cut, same_cuts}
use Rattle.transcript.proofs.Orient.{inside_start, inside_end, inside_by}
use Rattle.transcript.proofs.Ascends.{Ascends, ascends_low}

-- the coding bases of each cut
abbrev pub cut_bases : Cut → Interval
cut_bases c = c.bases

abbrev pub segments_from : Interval → ℕ → List Interval → List Interval
segments_from cds k xs = map cut_bases (cuts cds k xs)

-- cuts that pass the test are equal
cut_same : (c d : Cut) → c.index ≡ d.index → c.bases.start ≡ d.bases.start → c.bases.end ≡ d.bases.end → c ≡ d
cut_same c d p q r = λ i. record { index = p i; bases = record { start = q i; end = r i } }

pub same_cuts_lem : (cs ds : List Cut) → same_cuts cs ds ≡ true → cs ≡ ds
unfolding same_cuts
same_cuts_lem [] [] h = refl
same_cuts_lem [] (d ∷ ds) h = absurd (true_false (sym h))
same_cuts_lem (c ∷ cs) [] h = absurd (true_false (sym h))
same_cuts_lem (c ∷ cs) (d ∷ ds) h =
    let x = and_true (same_cut c d) (same_cuts cs ds) h in
    let y = and_true (eqb c.index d.index) (eqb c.bases.start d.bases.start && eqb c.bases.end d.bases.end) x.0 in
    let z = and_true (eqb c.bases.start d.bases.start) (eqb c.bases.end d.bases.end) y.1 in
    ap₂ ◌∷◌ (cut_same c d (eqb-true c.index d.index y.0) (eqb-true c.bases.start d.bases.start z.0) (eqb-true c.bases.end d.bases.end z.1)) (same_cuts_lem cs ds x.1)

-- an empty CDS cuts nothing
pub cuts_none : (cds : Interval) (k : ℕ) (xs : List Interval) → cds.end ≤ cds.start → cuts cds k xs ≡ []
unfolding cuts
cuts_none cds k [] h = refl
cuts_none cds k (x ∷ xs) h = rw (le-ltb (meet x cds).start (meet x cds).end (omega arith), cuts_none cds (suc k) xs h)

-- one exon more: its cut where it is not empty
module _ (cds : Interval) (k : ℕ) (x : Interval) (xs : List Interval) where
  pub cuts_some : (meet x cds).start < (meet x cds).end → segments_from cds k (x ∷ xs) ≡ meet x cds ∷ segments_from cds (suc k) xs
  unfolding cuts
  cuts_some h = rw (lt-ltb (meet x cds).start (meet x cds).end h)

-- cuts of ascending exons ascend
pub cuts_ascend : (cds : Interval) (k e : ℕ) (xs : List Interval) → Ascends e xs → Ascends e (segments_from cds k xs)
unfolding cuts
cuts_ascend cds k e [] a = tt
cuts_ascend cds k e (x ∷ xs) a =
    let r = cuts_ascend cds (suc k) x.end xs a.2 in
    let f = a.0 in let s = a.1 in
    on_test (ltb (meet x cds).start (meet x cds).end)
    (λ h. (let l = ltb-true (meet x cds).start (meet x cds).end h in
    rw h (omega arith, l, ascends_low (meet x cds).end x.end (segments_from cds (suc k) xs) (omega arith) r)))
    (λ h. rw h (ascends_low e x.end (segments_from cds (suc k) xs) (omega arith) r))

-- a cut holds a base where the exon and the CDS do
pub inside_meet : (x y : Interval) (p : ℕ) → inside p (meet x y) ≡ (inside p y && inside p x)
inside_meet x y p =
    same_test (inside p (meet x y)) (inside p y && inside p x)
    (λ h. (let a = inside_start p (meet x y) h in let b = inside_end p (meet x y) h in
    rw (inside_by p y (omega arith) (omega arith), inside_by p x (omega arith) (omega arith))))
    (λ h. (let c = and_true (inside p y) (inside p x) h in
    let a = inside_start p y c.0 in let b = inside_end p y c.0 in
    let d = inside_start p x c.1 in let e = inside_end p x c.1 in
    inside_by p (meet x y) (omega arith) (omega arith)))

share_left : (a b c d : Bool) → d ≡ (a && c) → ((a && b) || d) ≡ (a && (b || c))
share_left true b c d h = rw h
share_left false b c d h = h

share_skip : (a b c d : Bool) → d ≡ (a && c) → (a && b) ≡ false → d ≡ (a && (b || c))
share_skip true b c d h l = rw (l, h)
share_skip false b c d h l = h

-- the segments hold a base where the CDS and an exon do
pub cuts_inside : (cds : Interval) (k : ℕ) (xs : List Interval) (p : ℕ) → inside_any p (segments_from cds k xs) ≡ (inside p cds && inside_any p xs)
unfolding cuts
cuts_inside cds k [] p = sym (and-false (inside p cds))
cuts_inside cds k (x ∷ xs) p =
    let r = cuts_inside cds (suc k) xs p in
    on_test (ltb (meet x cds).start (meet x cds).end)
    (λ h. rw (h, inside_meet x cds p) (share_left (inside p cds) (inside p x) (inside_any p xs) (inside_any p (segments_from cds (suc k) xs)) r))
    (λ h. rw h (share_skip (inside p cds) (inside p x) (inside_any p xs) (inside_any p (segments_from cds (suc k) xs)) r
    (sym (inside_meet x cds p) ∙ no_base (meet x cds) (ltb-false (meet x cds).start (meet x cds).end h))))
  where
    no_base : (y : Interval) → y.end ≤ y.start → inside p y ≡ false
    no_base y l = on_test (inside p y) (λ h. absurd (let a = inside_start p y h in let b = inside_end p y h in omega arith)) (λ h. h)

-- the bases of the segments in an interval are those of the exons in the part that the CDS has of it
pub cuts_bases : (cds : Interval) (k : ℕ) (xs : List Interval) (a b : ℕ) → bases_in (segments_from cds k xs) a b ≡ bases_in xs (max a cds.start) (min b cds.end)
unfolding bases_in cuts
cuts_bases cds k [] a b = refl
cuts_bases cds k (x ∷ xs) a b =
    let r = cuts_bases cds (suc k) xs a b in
    on_test (ltb (meet x cds).start (meet x cds).end)
    (λ h. rw (h, r, upper x.end cds.end b, lower x.start cds.start a))
    (λ h. (let e = ltb-false (meet x cds).start (meet x cds).end h in
    rw h (r ∙ add_none (min x.end (min b cds.end) - max x.start (max a cds.start)) (bases_in xs (max a cds.start) (min b cds.end)) (nothing x.end cds.end b x.start cds.start a e))))
  where
    add_none : (m n : ℕ) → 0 ≡ m → n ≡ m + n
    add_none m n h = omega arith

    upper : (e c b : ℕ) → min (min e c) b ≡ min e (min b c)
    upper e c b = omega arith

    lower : (s c a : ℕ) → max (max s c) a ≡ max s (max a c)
    lower s c a = omega arith

    none : (u v b a : ℕ) → u ≤ v → 0 ≡ min u b - max v a
    none u v b a h = omega arith

    nothing : (e c b s d a : ℕ) → min e c ≤ max s d → 0 ≡ min e (min b c) - max s (max a d)
    nothing e c b s d a h = none (min e c) (max s d) b a h ∙ rw (upper e c b, lower s d a)
