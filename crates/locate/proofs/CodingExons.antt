-- The exons of the first and of the last coding base.
-- Assumes nothing.
use Prim.Native.Nat.{ℕ, zero, suc, ◌+◌, ◌-◌, ◌≤◌, ◌<◌}
use mathlib.Core.Path.{◌≡◌, refl, sym, ◌∙◌, ap}
use mathlib.Core.Bool.{true, false, and-false}
use mathlib.Core.List.{List, [], ◌∷◌, map}
use native.Mathlib.Omega.{arith}
use lib.ListN.{length, get_or}
use lib.Dec.{ltb}
use borrow.Author.Tests.{lt-ltb, ltb-true}
use Rattle.common.proofs.TestParts.{on_test, true_false}
use Rattle.transcript.specs.declared.CdsSegment.{CdsSegment}
use Rattle.transcript.specs.Transcript.{Transcript}
use Rattle.transcript.specs.Orient.{Interval, oriented}
use Rattle.transcript.specs.Bases.{inside, inside_any, first_start}
use Rattle.transcript.specs.Cuts.{cut_of, meet, cuts}
use Rattle.locate.specs.Place.{interval_index}
use Rattle.locate.specs.Index.{index_scalars}
use Rattle.transcript.proofs.Ascends.{Ascends, outside_before}
use Rattle.transcript.proofs.Cuts.{segments_from, cuts_ascend}
use Rattle.transcript.proofs.Orient.{inside_start, inside_by}
use Rattle.transcript.proofs.Facts.{Facts}
use Rattle.transcript.proofs.Admitted.{empty_list}
use Rattle.transcript.proofs.Listed.{nowhere}
use Rattle.locate.proofs.Coding.{segments_inside}
use Rattle.locate.proofs.Offset.{first_index, segment_of_exon}

-- the interval of a base that one of them holds
pub index_holds : (xs : List Interval) (e p : ℕ) → Ascends e xs → inside_any p xs ≡ true
    → (interval_index xs p < length xs) × ((get_or xs (interval_index xs p) nowhere).start ≤ p) × (p < (get_or xs (interval_index xs p) nowhere).end)
unfolding interval_index
index_holds [] e p a h = absurd (true_false (sym h))
index_holds (x ∷ xs) e p a h =
    on_test (ltb p x.end)
    (λ k. (let l = ltb-true p x.end k in rw k (omega arith, begun l, l)))
    (λ k. (let r = index_holds xs x.end p a.2 (rw (k, and-false) at h) in rw k (let n = r.0 in omega arith, r.1, r.2)))
  where
    begun : p < x.end → x.start ≤ p
    begun l = on_test (inside p x) (λ i. inside_start p x i) (λ i. absurd (true_false (sym (rw (i, outside_before x.end xs p a.2 l) at h))))

-- the first interval holds a base that is not past its start
index_first : (gs : List Interval) (e p : ℕ) → Ascends e gs → (0 < length gs → p ≤ first_start gs) → interval_index gs p ≡ 0
unfolding interval_index
index_first [] e p a l = refl
index_first (g ∷ gs) e p a l = let s = a.1 in let f = l (omega arith) in rw (lt-ltb p g.end (omega arith))

-- the last interval holds a base past which none of them reaches
index_last : (gs : List Interval) (e p : ℕ) → Ascends e gs → inside_any p gs ≡ true → ((k : ℕ) → k < length gs → (get_or gs k nowhere).end ≤ suc p) → suc (interval_index gs p) ≡ length gs
unfolding interval_index
index_last [] e p a h b = absurd (true_false (sym h))
index_last (g ∷ []) e p a h b = on_test (ltb p g.end) (λ k. rw k) (λ k. absurd (true_false (sym (rw (k, and-false) at h))))
index_last (g ∷ x ∷ xs) e p a h b =
    on_test (ltb p g.end)
    (λ k. absurd (let l = ltb-true p g.end k in let r = b 1 (omega arith) in let s = a.2.0 in let m = a.2.1 in omega arith))
    (λ k. rw k (ap suc (index_last (x ∷ xs) g.end p a.2 (rw (k, and-false) at h) (λ n l. b (suc n) (omega arith)))))

-- the segments lie in the CDS
cuts_from : (cds : Interval) (m : ℕ) (xs : List Interval) → 0 < length (segments_from cds m xs) → cds.start ≤ first_start (segments_from cds m xs)
unfolding cuts
cuts_from cds m [] l = absurd (omega arith)
cuts_from cds m (x ∷ xs) l =
    on_test (ltb (meet x cds).start (meet x cds).end)
    (λ h. rw h (omega arith))
    (λ h. rw h (cuts_from cds (suc m) xs (rw h at l)))

cuts_to : (cds : Interval) (m : ℕ) (xs : List Interval) (k : ℕ) → k < length (segments_from cds m xs) → (get_or (segments_from cds m xs) k nowhere).end ≤ cds.end
unfolding cuts
cuts_to cds m [] k l = absurd (omega arith)
cuts_to cds m (x ∷ xs) k l =
    on_test (ltb (meet x cds).start (meet x cds).end)
    (λ h. rw h (cut (cuts_to cds (suc m) xs) k (rw h at l)))
    (λ h. rw h (cuts_to cds (suc m) xs k (rw h at l)))
  where
    cut : ((k : ℕ) → k < length (segments_from cds (suc m) xs) → (get_or (segments_from cds (suc m) xs) k nowhere).end ≤ cds.end) → (k : ℕ)
        → k < length (meet x cds ∷ segments_from cds (suc m) xs) → (get_or (meet x cds ∷ segments_from cds (suc m) xs) k nowhere).end ≤ cds.end
    cut r zero l = omega arith
    cut r (suc k) l = r k (omega arith)

-- the exon index of the first segment
abbrev pub first_exon : Transcript → ℕ
first_exon t = first_index (map (cut_of t.model.strand) t.segments)

module _ (t : Transcript) (f : Facts t) where
  pub segments_ascend : Ascends 0 (oriented t).segments
  segments_ascend = rw f.segments (cuts_ascend (oriented t).cds 0 0 (oriented t).exons f.order)

  -- a base of the CDS that an exon holds is a coding one
  coded : (oriented t).coding ≡ true → (p : ℕ) → inside p (oriented t).cds ≡ true → inside_any p (oriented t).exons ≡ true → inside_any p (oriented t).segments ≡ true
  coded c p i x = segments_inside t f p ∙ rw (c, i, x)

  -- the segment of a base of the CDS and the exon of the first segment give the exon of the base
  exon_is : (p : ℕ) → inside p (oriented t).cds ≡ true → inside_any p (oriented t).exons ≡ true → interval_index (oriented t).segments p + first_exon t ≡ interval_index (oriented t).exons p
  exon_is p i x =
      let k = index_holds (oriented t).exons 0 p f.order x in
      segment_of_exon t f (interval_index (oriented t).exons p) p k.0 k.1 k.2 i

  module _ (c : (oriented t).coding ≡ true) where
    first_exon_lem : first_exon t ≡ interval_index (oriented t).exons (oriented t).cds.start
    first_exon_lem =
        let s = f.cds_some c in
        let e = exon_is (oriented t).cds.start (inside_by (oriented t).cds.start (oriented t).cds (omega arith) s) (f.first_in c) in
        let z = index_first (oriented t).segments 0 (oriented t).cds.start segments_ascend (rw f.segments (cuts_from (oriented t).cds 0 (oriented t).exons)) in
        omega arith

    pub first_holds : (first_exon t < length (oriented t).exons) × ((get_or (oriented t).exons (first_exon t) nowhere).start ≤ (oriented t).cds.start) × ((oriented t).cds.start < (get_or (oriented t).exons (first_exon t) nowhere).end)
    first_holds = rw first_exon_lem (index_holds (oriented t).exons 0 (oriented t).cds.start f.order (f.first_in c))

    pub last_exon : first_exon t + length (oriented t).segments ≡ suc (interval_index (oriented t).exons ((oriented t).cds.end - 1))
    last_exon =
        let s = f.cds_some c in
        let i = inside_by ((oriented t).cds.end - 1) (oriented t).cds (omega arith) (omega arith) in
        let e = exon_is ((oriented t).cds.end - 1) i (f.last_in c) in
        let b : (k : ℕ) → k < length (oriented t).segments → (get_or (oriented t).segments k nowhere).end ≤ suc ((oriented t).cds.end - 1)
        = rw f.segments (λ k l. (let r = cuts_to (oriented t).cds 0 (oriented t).exons k l in omega arith)) in
        let z = index_last (oriented t).segments 0 ((oriented t).cds.end - 1) segments_ascend (coded c ((oriented t).cds.end - 1) i (f.last_in c)) b in
        omega arith

  no_exon : (oriented t).coding ≡ false → first_exon t ≡ 0
  unfolding oriented
  no_exon c = ap (λ (gs : List CdsSegment). first_index (map (cut_of t.model.strand) gs)) (empty_list t.segments c)

  -- with or without a CDS
  pub first_is : first_exon t ≡ (index_scalars (oriented t)).cds_start_exon_idx
  first_is = on_test (oriented t).coding (λ c. first_exon_lem c ∙ rw c) (λ c. no_exon c ∙ rw c)
