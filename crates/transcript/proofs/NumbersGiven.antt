-- Demand 1: a refusal is one of the numbers that its definition names, and 0 stands exactly for an answer.
-- Assumes nothing.
use Prim.Native.Nat.{ℕ}
use mathlib.Core.Path.{◌≡◌, refl, sym, ◌∙◌, ap}
use mathlib.Core.Bool.{Bool, true, false, cond}
use mathlib.Core.List.{List, [], ◌∷◌, map}
use lib.Dec.{eqb, leb}
use lib.ListN.{length}
use borrow.Author.Tests.{eqb-true}
use Rattle.common.specs.Refuse.{refuse, or_else}
use Rattle.common.specs.Lists.{all, memb}
use Rattle.common.proofs.TestParts.{true_false, and_true, on_test}
use Rattle.std.specs.Prelude.{◌||◌}
use Rattle.std.specs.Result.{is_ok}
use Rattle.common.specs.Refusal.{number, refusal, outcome, outcome_number}
use Rattle.common.proofs.Outcome.{number_of_refusal}
use Rattle.transcript.specs.Transcript.{Transcript}
use Rattle.transcript.specs.Orient.{oriented}
use Rattle.transcript.specs.Admission.{bad_counts, bad_coordinates, bad_order, bad_bounds, bad_cds, bad_phase, bad_pad, index_of, index_fault, lacks_first, lacks_last, bad_segments, bad_selenocysteine, admission}
use Rattle.transcript.specs.Question.{question_refusal}
use Rattle.transcript.specs.claims.Numbers.{NumberGiven, AdmissionGiven, admission_numbers}

-- the first refusal of two is among the numbers that both are among
pub among_refuse : (ns : List ℕ) (b : Bool) (n later : ℕ) → memb n ns ≡ true → memb later ns ≡ true → memb (refuse b n later) ns ≡ true
among_refuse ns true n later h k = h
among_refuse ns false n later h k = k

pub among_else : (ns : List ℕ) (n later : ℕ) → memb n ns ≡ true → memb later ns ≡ true → memb (or_else n later) ns ≡ true
among_else ns n later h k = on_test (eqb n 0) (λ e. rw e k) (λ e. rw e h)

-- among some, all of which are among others
pub among_in : (ns ms : List ℕ) → all (λ n. memb n ms) ns ≡ true → (n : ℕ) → memb n ns ≡ true → memb n ms ≡ true
among_in [] ms h n k = absurd (true_false (sym k))
among_in (x ∷ ns) ms h n k =
    let both = and_true (memb x ms) (all (λ n. memb n ms) ns) h in
    on_test (eqb n x) (λ e. ap (λ (i : ℕ). memb i ms) (eqb-true n x e) ∙ both.0) (λ e. among_in ns ms both.1 n (rw e at k))

-- of an answer that is `x` where the refusal w is 0, else the refusal
module _ {A : Type 0} (number : A → ℕ) (answered : A → Bool) (refused : ℕ → A) (numbered : (n : ℕ) → number (refused n) ≡ n) (not : (n : ℕ) → answered (refused n) ≡ false) where
  pub given_by : (x : A) → number x ≡ 0 → answered x ≡ true → (ns : List ℕ) (w : ℕ) → memb w ns ≡ true
      → NumberGiven ns w (number (cond (eqb w 0) x (refused w))) (answered (cond (eqb w 0) x (refused w)))
  given_by x z a ns w m =
      let same : number (cond (eqb w 0) x (refused w)) ≡ w = on_test (eqb w 0) (λ e. rw e (z ∙ sym (eqb-true w 0 e))) (λ e. rw e (numbered w)) in
      record {
        refusal_is = same;
        among = ap (λ (n : ℕ). memb n ns) same ∙ m;
        zero_answered = ap (λ (n : ℕ). eqb n 0) same ∙ on_test (eqb w 0) (λ e. rw e (sym a)) (λ e. rw e (sym (not w)));
      }

-- of an outcome
pub outcome_given : {A : Type 0} (x : A) (ns : List ℕ) → all (λ n. eqb n 0 || eqb (number (refusal n)) n) ns ≡ true → (w : ℕ) → memb w ns ≡ true
    → NumberGiven ns w (outcome_number (outcome w x)) (is_ok (outcome w x))
outcome_given x ns h w m =
    let same : outcome_number (outcome w x) ≡ w = on_test (eqb w 0) (λ e. rw e (sym (eqb-true w 0 e))) (λ e. rw e (number_of_refusal ns h w m e)) in
    record {
      refusal_is = same;
      among = ap (λ (n : ℕ). memb n ns) same ∙ m;
      zero_answered = ap (λ (n : ℕ). eqb n 0) same ∙ on_test (eqb w 0) (λ e. rw e) (λ e. rw e);
    }

index_among : (n : ℕ) (earlier is : List ℕ) → memb (index_fault n earlier is) admission_numbers ≡ true
unfolding index_fault
index_among n earlier [] = refl
index_among n earlier (i ∷ is) =
    among_refuse admission_numbers (leb n i) 8 (refuse (memb i earlier) 9 (index_fault n (i ∷ earlier) is)) refl
    (among_refuse admission_numbers (memb i earlier) 9 (index_fault n (i ∷ earlier) is) refl (index_among n (i ∷ earlier) is))

module _ (t : Transcript) where
  pub admission_among : memb (admission t) admission_numbers ≡ true
  unfolding admission
  admission_among =
      among_refuse admission_numbers (bad_counts t) 1 _ refl
      (among_refuse admission_numbers (bad_coordinates t) 2 _ refl
      (among_refuse admission_numbers (bad_order (oriented t)) 3 _ refl
      (among_refuse admission_numbers (bad_bounds t (oriented t)) 4 _ refl
      (among_refuse admission_numbers (bad_cds t) 5 _ refl
      (among_refuse admission_numbers (bad_phase t) 6 _ refl
      (among_refuse admission_numbers (bad_pad (oriented t)) 7 _ refl
      (among_else admission_numbers (index_fault (length t.exons) [] (map index_of t.segments)) _ (index_among (length t.exons) [] (map index_of t.segments))
      (among_refuse admission_numbers (lacks_first (oriented t)) 10 _ refl
      (among_refuse admission_numbers (lacks_last (oriented t)) 11 _ refl
      (among_refuse admission_numbers (bad_segments t (oriented t)) 12 _ refl
      (among_refuse admission_numbers (bad_selenocysteine (oriented t)) 13 _ refl refl)))))))))))

  -- the refusals that every question shares
  pub question_among : (ns : List ℕ) → memb 14 ns ≡ true → memb 15 ns ≡ true → memb 0 ns ≡ true → memb (admission t) ns ≡ true → (bad away : Bool) → memb (question_refusal t bad away) ns ≡ true
  unfolding question_refusal
  question_among ns h14 h15 h0 h bad away =
      among_else ns (admission t) (refuse bad 15 (refuse away 14 0)) h (among_refuse ns bad 15 (refuse away 14 0) h15 (among_refuse ns away 14 0 h14 h0))

pub admission_given : AdmissionGiven
admission_given t = outcome_given tt admission_numbers refl (admission t) (admission_among t)
