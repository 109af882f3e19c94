-- What was answered with an admitted transcript, in terms of the transcript that was asked about.
-- Assumes nothing.
use Rattle.std.proofs.Common.{◌≡◌, ℕ, refl, sym, ◌∙◌, ap}
use Rattle.std.specs.Prelude.{Result, Ok, Err}
use Rattle.common.specs.declared.refusal.Refusal.{Refusal}
use Rattle.common.specs.Refusal.{outcome}
use Rattle.common.proofs.Outcome.{was_answered, passed_on}
use Rattle.transcript.specs.declared.Transcript.{Transcript as Lent}
use Rattle.transcript.specs.declared.admission.Admitted.{Admitted}
use Rattle.transcript.specs.Transcript.{transcript_of}
use Rattle.transcript.specs.Admission.{admission, admission_of}
use Rattle.transcript.specs.code.Admitted.{lent_by}

-- by a question with this refusal
module _ (x : Lent) (w : ℕ) (r : Result Admitted Refusal) (is : lent_by r ≡ outcome w x) where
  pub not_refused : (a : Admitted) → r ≡ Ok a → w ≡ 0
  not_refused a e = was_answered x w a.transcript.now (sym is ∙ ap lent_by e)

  pub lends : (a : Admitted) → r ≡ Ok a → a.transcript.now ≡ x
  lends a e =
      let n = not_refused a e in
      let k : Ok a.transcript.now ≡ outcome w x = sym (ap lent_by e) ∙ is in
      let o : Ok a.transcript.now ≡ Ok x = rw n at k in
      cc

  pub turns_away : {A : Type 0} (y : A) (f : Refusal) → r ≡ Err f → Err f ≡ outcome w y
  turns_away y f e = passed_on x y w f (sym is ∙ ap lent_by e) w refl

-- by `Admitted::of`
module _ (x : Lent) (r : Result Admitted Refusal) (is : lent_by r ≡ outcome (admission (transcript_of x)) x) where
  pub is_admitted : (a : Admitted) → r ≡ Ok a → admission (transcript_of x) ≡ 0
  is_admitted = not_refused x (admission (transcript_of x)) r is

  pub is_lent : (a : Admitted) → r ≡ Ok a → a.transcript.now ≡ x
  is_lent = lends x (admission (transcript_of x)) r is

  pub is_turned_away : (f : Refusal) → r ≡ Err f → admission_of (transcript_of x) ≡ Err f
  is_turned_away f e = sym (turns_away x (admission (transcript_of x)) r is tt f e)
