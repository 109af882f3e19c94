-- Coding base k, and how many coding bases come before it: each is found from the other.
-- Assumes nothing.
use Prim.Native.Nat.{ℕ, ◌+◌, ◌-◌, ◌≤◌, ◌<◌, min, max}
use mathlib.Core.Path.{subst, ◌≡◌, refl, sym, ◌∙◌, ap}
use mathlib.Core.Bool.{true}
use mathlib.Core.List.{List, [], ◌∷◌}
use native.Mathlib.Omega.{arith}
use lib.Dec.{ltb}
use borrow.Author.Tests.{ltb-true, ltb-false, lt-ltb, le-ltb}
use Rattle.common.proofs.TestParts.{on_test, true_false, or_right}
use Rattle.transcript.specs.Limits.{coordinate_limit}
use Rattle.transcript.specs.Transcript.{Transcript, pad_of}
use Rattle.transcript.specs.Orient.{Interval, orient_base, oriented}
use Rattle.transcript.specs.Bases.{inside, inside_any, size, sum, bases_in, total_size}
use Rattle.transcript.specs.Admission.{Admitted}
use Rattle.transcript.proofs.Orient.{inside_start, inside_end, inside_by, orient_twice}
use Rattle.transcript.proofs.Ascends.{Ascends, inside_from}
use Rattle.transcript.proofs.Admitted.{facts}
use Rattle.locate.specs.claims.CodingBases.{is_coding}
use Rattle.locate.proofs.Sums.{bases_none}
use Rattle.locate.proofs.CodingExons.{segments_ascend}
use Rattle.locate.proofs.CodingBases.{coding_oriented, coding_low, segments_high, bases_before, coding_places, offsets_count}
use Rattle.locate.specs.Place.{coding_position}
use Rattle.locate.specs.claims.CodingPositions.{coding_coordinate, CodingBaseCounts, CodingBasePlaced, CodingBaseStands}

-- the bases of an interval before a base of it, and before one past it
before_in : (s e p : ℕ) → p < e → min e p - max s 0 ≡ p - s
before_in s e p l = omega arith

before_past : (s e p : ℕ) → e ≤ p → min e p - max s 0 ≡ e - s
before_past s e p l = omega arith

-- a base in one of the intervals: fewer bases than there are come before it, and it is the base with that number
pub base_numbered : (xs : List Interval) (e p : ℕ) → Ascends e xs → inside_any p xs ≡ true → (bases_in xs 0 p < total_size xs) × (coding_position xs (bases_in xs 0 p) ≡ p)
unfolding bases_in sum coding_position
base_numbered [] e p a h = absurd (true_false (sym h))
base_numbered (x ∷ xs) e p a h =
    on_test (inside p x)
    (λ i. (let s = inside_start p x i in let l = inside_end p x i in
    rw (before_in x.start x.end p l, bases_none xs x.end p a.2 (omega arith), none (p - x.start), lt-ltb (p - x.start) (x.end - x.start) (omega arith)) (omega arith, omega arith)))
    (λ i. (let k : inside_any p xs ≡ true = rw i at h in
    let l = (inside_from x.end xs p a.2 k).0 in
    let m = a.1 in
    let r = base_numbered xs x.end p a.2 k in
    let u = r.0 in
    rw (before_past x.start x.end p l, le-ltb (x.end - x.start + bases_in xs 0 p) (x.end - x.start) (omega arith), less (x.end - x.start) (bases_in xs 0 p)) (omega arith, r.1)))
  where
    none : (n : ℕ) → n + 0 ≡ n
    none n = omega arith

    less : (m n : ℕ) → m + n - m ≡ n
    less m n = omega arith

-- base k of the intervals: one of them holds it, and k bases come before it
pub numbered_base : (xs : List Interval) (e k : ℕ) → Ascends e xs → k < total_size xs → (inside_any (coding_position xs k) xs ≡ true) × (bases_in xs 0 (coding_position xs k) ≡ k)
unfolding bases_in sum coding_position
numbered_base [] e k a l = absurd (omega arith)
numbered_base (x ∷ xs) e k a l =
    on_test (ltb k (size x))
    (λ h. (let b = ltb-true k (x.end - x.start) h in
    let i = inside_by (x.start + k) x (omega arith) (omega arith) in
    rw (h, i, before_in x.start x.end (x.start + k) (omega arith), bases_none xs x.end (x.start + k) a.2 (omega arith)) (refl, omega arith)))
    (λ h. (let b = ltb-false k (x.end - x.start) h in
    let r = numbered_base xs x.end (k - size x) a.2 (omega arith) in
    let f = (inside_from x.end xs (coding_position xs (k - size x)) a.2 r.0).0 in
    let u = r.1 in
    let g : coding_position (x ∷ xs) k ≡ coding_position xs (k - size x) = rw h in
    let Stands : ℕ → Type 0 = λ q. (inside_any q (x ∷ xs) ≡ true) × (bases_in (x ∷ xs) 0 q ≡ k) in
    subst Stands (sym g) (rw (before_past x.start x.end (coding_position xs (k - size x)) f) (or_right (inside (coding_position xs (k - size x)) x) (inside_any (coding_position xs (k - size x)) xs) r.0, omega arith))))

module _ (t : Transcript) (n : ℕ) (ad : Admitted t) where
  pub segment_base : (p : ℕ) → is_coding t.segments p ≡ true → inside_any (orient_base t.model.strand p) (oriented t).segments ≡ true
  unfolding oriented
  segment_base p c = coding_oriented t.model.strand t.segments p (facts t ad).segment_edges ∙ c

  -- a base of the oriented segments, oriented back
  base_back : (p : ℕ) → inside_any p (oriented t).segments ≡ true → (orient_base t.model.strand (orient_base t.model.strand p) ≡ p) × (is_coding t.segments (orient_base t.model.strand p) ≡ true)
  unfolding oriented
  base_back p i =
      let f = facts t ad in
      let h = segments_high t.model.strand 0 t.segments f.segment_edges (omega arith) in
      let l = (inside_from 0 (oriented t).segments p (segments_ascend t f) i).1 in
      let b = orient_twice t.model.strand p (omega arith) in
      (b, sym (coding_oriented t.model.strand t.segments (orient_base t.model.strand p) f.segment_edges) ∙ ap (λ (q : ℕ). inside_any q (oriented t).segments) b ∙ i)

pub coding_base_counts : CodingBaseCounts
coding_base_counts t k n ad l m =
    let r = numbered_base (oriented t).segments 0 k (segments_ascend t (facts t ad)) l in
    let b = base_back t n ad (coding_position (oriented t).segments k) r.0 in
    (b.1, sym (bases_before t ad (coding_coordinate t k) n m) ∙ ap (λ (p : ℕ). bases_in (oriented t).segments 0 p) b.0 ∙ r.1)

pub coding_base_placed : CodingBasePlaced
coding_base_placed r t chromosome k e place ad l h =
    let b = coding_base_counts t k coordinate_limit ad l (omega arith) in
    let c = coding_places r t chromosome (coding_coordinate t k) e place h ∙ b.0 in
    (c, offsets_count r t chromosome (coding_coordinate t k) e coordinate_limit place h c (omega arith) ∙ ap (λ (n : ℕ). pad_of t.segments + n) b.1)

pub coding_base_stands : CodingBaseStands
coding_base_stands t p n ad c m =
    let r = base_numbered (oriented t).segments 0 (orient_base t.model.strand p) (segments_ascend t (facts t ad)) (segment_base t n ad p c) in
    let l = coding_low t.segments p (facts t ad).segment_edges c in
    ap (coding_coordinate t) (sym (bases_before t ad p n m)) ∙ ap (orient_base t.model.strand) r.1 ∙ orient_twice t.model.strand p (omega arith)
