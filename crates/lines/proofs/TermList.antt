-- The names of a set's terms, from the lowest bit on.
-- Assumes nothing.
use Prim.Native.Nat.{ℕ, zero, suc, ◌+◌, ◌*◌, ◌/◌, ◌%◌, ◌≤◌}
use mathlib.Core.Path.{◌≡◌, sym, ◌∙◌, ap}
use mathlib.Core.Bool.{Bool, true, false}
use mathlib.Core.List.{List, [], ◌∷◌, ◌++◌, map, append-nil, append_assoc}
use native.Mathlib.Omega.{arith}
use lib.ListN.{length, length-append}
use lib.Dec.{eqb}
use Rattle.common.specs.Lists.{cons_if}
use Rattle.common.specs.Stored.{Pushed}
use Rattle.common.proofs.Stored.{pushed_on}
use Rattle.names.specs.Names.{term_name}
use Rattle.terms.specs.Terms.{ranks_from, ranks}
use Rattle.names.proofs.Names.{name_short}
use Rattle.lines.specs.Line.{commas, term_list}

-- names that follow a first one: each behind a comma
abbrev pub following : List (List ℕ) → List ℕ
following [] = []
following (n ∷ ns) = 44 ∷ (n ++ following ns)

commas_first : (n : List ℕ) (ns : List (List ℕ)) → commas (n ∷ ns) ≡ n ++ following ns
unfolding commas
commas_first n [] = sym (append-nil n)
commas_first n (m ∷ ns) = ap (λ (x : List ℕ). n ++ (44 ∷ x)) (commas_first m ns)

-- a set has no more ranks than bits
pub few_ranks : (k r n : ℕ) → length (ranks_from k r n) ≤ k
unfolding ranks_from
few_ranks zero r n = omega arith
few_ranks (suc k) r n = here (eqb (n % 2) 1) (few_ranks k (suc r) (n / 2))
  where
    here : (b : Bool) → length (ranks_from k (suc r) (n / 2)) ≤ k → length (cons_if b r (ranks_from k (suc r) (n / 2))) ≤ suc k
    here true h = omega arith
    here false h = omega arith

-- how long the names of some ranks are: at most 35 bytes for each, with its comma
following_length : (ks : List ℕ) → length (following (map term_name ks)) ≤ 35 * length ks
following_length [] = omega arith
following_length (k ∷ ks) =
    let a = length-append (term_name k) (following (map term_name ks)) in
    let b = name_short k in
    let c = following_length ks in
    omega arith

commas_length : (ks : List ℕ) → length (commas (map term_name ks)) ≤ 1 + 35 * length ks
unfolding commas
commas_length [] = omega arith
commas_length (k ∷ ks) =
    let a = length-append (term_name k) (following (map term_name ks)) in
    let b = name_short k in
    let c = following_length ks in
    rw (commas_first (term_name k) (map term_name ks)) (omega arith)

pub terms_length : (s : ℕ) → length (term_list s) ≤ 1121
terms_length s = let a = few_ranks 32 1 s in let b = commas_length (ranks s) in omega arith

-- the list of an empty set, and of one with a first term
pub no_terms : (s : ℕ) → ranks s ≡ [] → term_list s ≡ 45 ∷ []
unfolding commas
no_terms s e = rw e

pub some_terms : (s k : ℕ) (ks : List ℕ) → ranks s ≡ k ∷ ks → term_list s ≡ term_name k ++ following (map term_name ks)
some_terms s k ks e = rw e (commas_first (term_name k) (map term_name ks))

-- one more name follows
following_more : (ks : List ℕ) (k : ℕ) → following (map term_name (ks ++ (k ∷ []))) ≡ following (map term_name ks) ++ (44 ∷ term_name k)
following_more [] k = ap (λ (x : List ℕ). 44 ∷ x) (append-nil (term_name k))
following_more (j ∷ ks) k =
    ap (λ (x : List ℕ). 44 ∷ (term_name j ++ x)) (following_more ks k)
    ∙ ap (λ (x : List ℕ). 44 ∷ x) (sym (append_assoc (term_name j) (following (map term_name ks)) (44 ∷ term_name k)))

-- while the terms that follow are read: the names of those read are put, and with the others they are all
pub record Naming (out₀ : List ℕ) (from : ℕ) (all : List ℕ) (out : List ℕ) (to : ℕ) (done left : List ℕ) : Type 0 where
  pub pushed : Pushed out₀ from (following (map term_name done)) out to
  pub whole : done ++ left ≡ all

module _ {out₀ : List ℕ} {from : ℕ} {all out : List ℕ} {to : ℕ} {done left : List ℕ} (h : Naming out₀ from all out to done left) where
  -- the position is not far behind the first name
  pub near : length all ≤ 32 → to ≤ from + 1120
  near l =
      let a = following_length done in
      let b = ap length h.whole in
      let c = length-append done left in
      let p = h.pushed.behind in
      omega arith

  pub named_next :
      {k : ℕ} {more : List ℕ} {out₂ : List ℕ} {to₂ : ℕ} → left ≡ k ∷ more →
      Pushed out to (44 ∷ term_name k) out₂ to₂ →
      Naming out₀ from all out₂ to₂ (done ++ (k ∷ [])) more
  named_next {k} {more} e p = record {
    pushed = rw (following_more done k) (pushed_on h.pushed p);
    whole = append_assoc done (k ∷ []) more ∙ rw e at h.whole;
  }

  pub named_all : left ≡ [] → Pushed out₀ from (following (map term_name all)) out to
  named_all e =
      let w : done ≡ all = sym (append-nil done) ∙ rw e at h.whole in
      rw w at h.pushed
