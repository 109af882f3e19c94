-- Segments that span the CDS and are its cuts: nothing of 8 to 12 is at fault.
use Prim.Native.Nat.{ℕ, zero, suc, ◌+◌, ◌-◌, ◌≤◌, ◌<◌}
use mathlib.Core.Path.{◌≡◌, refl, sym, ◌∙◌, ap}
use mathlib.Core.Bool.{true, false, not, or-true}
use mathlib.Core.List.{List, [], ◌∷◌, map}
use native.Mathlib.Omega.{arith}
use lib.ListN.{length, get_or}
use lib.Dec.{ltb, eqb}
use borrow.Author.Tests.{lt-leb, eqb-true, ne_eqb, not-false}
use Rattle.common.specs.Lists.{any, memb}
use Rattle.common.proofs.TestParts.{on_test, and_true, or_false}
use Rattle.transcript.specs.declared.Strand.{Strand}
use Rattle.transcript.specs.Transcript.{exons_of}
use Rattle.transcript.specs.Orient.{Interval, orient}
use Rattle.transcript.specs.Bases.{inside, inside_any, first_start}
use Rattle.transcript.specs.Admission.{bad_exon, not_outer, index_fault}
use Rattle.transcript.specs.Cuts.{Cut, meet, cuts, same_cuts}
use Rattle.transcript.specs.code.Lent.{lent_exons, listed_cuts, cds_fault}
use Rattle.transcript.proofs.Orient.{inside_by, orient_some}
use Rattle.transcript.proofs.Cuts.{cut_bases, same_cuts_lem, cuts_inside}
use Rattle.transcript.proofs.CdsFault.{lacks_none}
use Rattle.transcript.proofs.Listed.{edges_at, outer_start, outer_end}

abbrev cut_index : Cut → ℕ
cut_index c = c.index

-- the parts of segments that are lent apart
listed_indexes : (σ : Strand) (is ss es : List ℕ) → length ss ≡ length is → length ss ≡ length es → map cut_index (listed_cuts σ is ss es) ≡ is
unfolding listed_cuts
listed_indexes σ [] ss es p q = refl
listed_indexes σ (i ∷ is) [] es p q = absurd (omega arith)
listed_indexes σ (i ∷ is) (s ∷ ss) [] p q = absurd (omega arith)
listed_indexes σ (i ∷ is) (s ∷ ss) (e ∷ es) p q = ap (λ (l : List ℕ). i ∷ l) (listed_indexes σ is ss es (omega arith) (omega arith))

listed_bases : (σ : Strand) (is ss es : List ℕ) → length ss ≡ length is → length ss ≡ length es → map cut_bases (listed_cuts σ is ss es) ≡ lent_exons σ ss es
unfolding listed_cuts exons_of
listed_bases σ [] [] es p q = refl
listed_bases σ [] (s ∷ ss) es p q = absurd (omega arith)
listed_bases σ (i ∷ is) [] es p q = absurd (omega arith)
listed_bases σ (i ∷ is) (s ∷ ss) [] p q = absurd (omega arith)
listed_bases σ (i ∷ is) (s ∷ ss) (e ∷ es) p q = ap (λ (l : List Interval). orient σ s e ∷ l) (listed_bases σ is ss es (omega arith) (omega arith))

-- cuts name the exons in turn
in_turn : (n k : ℕ) (cds : Interval) (xs : List Interval) (earlier : List ℕ) → k + length xs ≤ n → ((i : ℕ) → k ≤ i → memb i earlier ≡ false)
    → index_fault n earlier (map cut_index (cuts cds k xs)) ≡ 0
unfolding cuts index_fault
in_turn n k cds [] earlier l f = refl
in_turn n k cds (x ∷ xs) earlier l f =
    on_test (ltb (meet x cds).start (meet x cds).end)
    (λ h. rw (h, lt-leb n k (omega arith), f k (omega arith))
    (in_turn n (suc k) cds xs (k ∷ earlier) (omega arith) (λ i m. rw (ne_eqb i k (λ e. omega arith), f i (omega arith)))))
    (λ h. rw h (in_turn n (suc k) cds xs earlier (omega arith) (λ i m. f i (omega arith))))

-- a base of one of the intervals
held : (σ : Strand) (ss es : List ℕ) (k p : ℕ) → length ss ≡ length es → k < length ss
    → (orient σ (get_or ss k 0) (get_or es k 0)).start ≤ p → p < (orient σ (get_or ss k 0) (get_or es k 0)).end → inside_any p (lent_exons σ ss es) ≡ true
unfolding exons_of
held σ [] es k p q l a b = absurd (omega arith)
held σ (s ∷ ss) [] k p q l a b = absurd (omega arith)
held σ (s ∷ ss) (e ∷ es) zero p q l a b = rw (inside_by p (orient σ s e) a b)
held σ (s ∷ ss) (e ∷ es) (suc k) p q l a b = rw (held σ ss es k p (omega arith) (omega arith) a b) (or-true (inside p (orient σ s e)))

module _ (σ : Strand) (cds : Interval) (xs : List Interval) (is ss es : List ℕ) (p : length ss ≡ length is) (q : length ss ≡ length es) (some : 0 < length ss)
    (edges : any bad_exon (exons_of ss es) ≡ false) (outer : not_outer cds (lent_exons σ ss es) ≡ false)
    (same : same_cuts (listed_cuts σ is ss es) (cuts cds 0 xs) ≡ true) where
  are : listed_cuts σ is ss es ≡ cuts cds 0 xs
  are = same_cuts_lem (listed_cuts σ is ss es) (cuts cds 0 xs) same

  pub whole_indexes : index_fault (length xs) [] is ≡ 0
  whole_indexes = ap (λ (l : List ℕ). index_fault (length xs) [] l) (sym (listed_indexes σ is ss es p q) ∙ ap (λ (l : List Cut). map cut_index l) are)
      ∙ in_turn (length xs) 0 cds xs [] (omega arith) (λ i m. refl)

  inside_exons : (b : ℕ) → inside_any b (lent_exons σ ss es) ≡ true → inside_any b xs ≡ true
  inside_exons b h = (and_true (inside b cds) (inside_any b xs)
      (sym (cuts_inside cds 0 xs b) ∙ ap (λ (l : List Interval). inside_any b l) (ap (λ (l : List Cut). map cut_bases l) (sym are) ∙ listed_bases σ is ss es p q) ∙ h)).1

  pub whole_cds : cds_fault true cds xs (listed_cuts σ is ss es) ≡ 0
  whole_cds =
      let o = or_false (not (eqb cds.start (first_start (lent_exons σ ss es)))) _ outer in
      let a = eqb-true cds.start _ (not-false _ o.0) ∙ outer_start σ ss es q some in
      let b = eqb-true cds.end _ (not-false _ o.1) ∙ outer_end σ ss es q some in
      let m = edges_at ss es 0 edges q some in
      let n = edges_at ss es (length ss - 1) edges q (omega arith) in
      let c = orient_some σ (get_or ss 0 0) (get_or es 0 0) m.1 m.0 in
      let d = orient_some σ (get_or ss (length ss - 1) 0) (get_or es (length ss - 1) 0) n.1 n.0 in
      sym (lacks_none true cds xs (listed_cuts σ is ss es) refl
      (inside_exons cds.start (held σ ss es 0 cds.start q some (omega arith) (omega arith)))
      (inside_exons (cds.end - 1) (held σ ss es (length ss - 1) (cds.end - 1) q (omega arith) (omega arith) (omega arith)))
      same)
