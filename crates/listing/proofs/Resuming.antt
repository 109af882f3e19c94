-- A listing that is resumed at the cursor before a line goes on with that line.
-- Assumes nothing.
use Prim.Native.Nat.{ℕ, zero, suc, ◌+◌, ◌≤◌, ◌<◌}
use mathlib.Core.Path.{◌≡◌, refl, sym, ◌∙◌, ap}
use mathlib.Core.Bool.{Bool, true, false}
use mathlib.Core.List.{List, [], ◌∷◌, ◌++◌}
use native.Mathlib.Omega.{arith}
use lib.ListN.{length, take, drop, length-drop, drop_of_length-le}
use lib.Seq.{drop-drop, take-add, length-take-le}
use lib.Dec.{ltb}
use borrow.Author.Tests.{ltb-true, ltb-false}
use Rattle.common.proofs.TestParts.{on_test}
use Rattle.transcript.specs.Transcript.{Transcript}
use Rattle.consequence.specs.Window.{Window}
use Rattle.listing.specs.declared.Cursor.{Cursor}
use Rattle.listing.specs.Calls.{lines_of, parse_call}
use Rattle.listing.specs.Entries.{Entry, call_entries}
use Rattle.listing.specs.Pieces.{Step, call_steps, steps_from, newlines, line_number, steps_at}
use Rattle.listing.specs.code.Lengths.{line_length}
use Rattle.listing.proofs.Lines.{lines_step, line_inside}
use Rattle.listing.proofs.Newlines.{newlines_both, line_newline}

-- from the cursor before each line on, what comes is that line and those behind it
abbrev pub Resumes : (Cursor → List Step) → List Step → Type 0
Resumes go [] = Unit {0}
Resumes go (s ∷ ss) = (go s.before ≡ s ∷ ss) × Resumes go ss

pub resumed : (go : Cursor → List Step) (pre : List Step) (s : Step) (post : List Step) → Resumes go (pre ++ (s ∷ post)) → go s.before ≡ s ∷ post
resumed go [] s post h = h.0
resumed go (x ∷ pre) s post h = resumed go pre s post h.1

drop_more : {A : Type 0} (k : ℕ) (l : List A) (x : A) (xs : List A) → drop k l ≡ x ∷ xs → drop (suc k) l ≡ xs
drop_more k l x xs e = sym (ap (λ (n : ℕ). drop n l) (let n : k + 1 ≡ suc k = omega arith in n)) ∙ sym (drop-drop 1 k l) ∙ ap (drop 1) e

module _ (ts : List Transcript) (w : Window) (calls : List ℕ) where
  abbrev go : Cursor → List Step
  go c = steps_at ts w calls c

  -- at a byte of the calls
  module _ (at : ℕ) (inside : at < length calls) where
    abbrev n : ℕ
    n = line_length (drop at calls)

    abbrev line : List ℕ
    line = take n (drop at calls)

    abbrev es : List Entry
    es = call_entries ts w (line_number calls at) (parse_call line)

    within : (at < at + n) × (at + n ≤ length calls)
    within = line_inside calls at (at + n) inside refl

    line_length_lem : length line ≡ n
    line_length_lem = let d = length-drop at calls in let i = within.1 in length-take-le n (drop at calls) (omega arith)

    -- the lines behind this one
    tail_here : (b : Bool) → ltb (at + n) (length calls) ≡ b
        → steps_from ts w (suc (line_number calls at)) (at + n) 0 (lines_of (drop (at + n) calls)) ≡ go (record { at = at + n; entry = 0 })
    unfolding lines_of steps_from
    tail_here true e =
        let l = ltb-true (at + n) (length calls) e in
        let d = length-drop at calls in
        let c = line_newline (drop at calls) (omega arith) in
        let f = newlines_both (take at calls) line in
        let g = ap newlines (take-add at n calls) in
        let m : suc (line_number calls at) ≡ line_number calls (at + n) = omega arith in
        ap (λ (k : ℕ). steps_from ts w k (at + n) 0 (lines_of (drop (at + n) calls))) m
    tail_here false e = rw (drop_of_length-le calls (ltb-false (at + n) (length calls) e)) refl

    abbrev tail : List Step
    tail = go (record { at = at + n; entry = 0 })

    pub line_steps : (k : ℕ) → go (record { at = at; entry = k }) ≡ call_steps at k (drop k es) ++ tail
    unfolding steps_from
    line_steps k =
        let d = length-drop at calls in
        ap (λ (ls : List (List ℕ)). steps_from ts w (line_number calls at) at k ls) (lines_step (drop at calls) (omega arith) ∙ ap (λ (l : List ℕ). line ∷ lines_of l) (drop-drop n at calls))
        ∙ ap (λ (x : List Step). call_steps at k (drop k es) ++ x) (ap (λ (m : ℕ). steps_from ts w (suc (line_number calls at)) (at + m) 0 (lines_of (drop (at + n) calls))) line_length_lem ∙ tail_here (ltb (at + n) (length calls)) refl)

    call_resumes : (xs : List Entry) (k : ℕ) → drop k es ≡ xs → Resumes go tail → Resumes go (call_steps at k xs ++ tail)
    call_resumes [] k e h = h
    call_resumes (x ∷ xs) k e h =
        (line_steps k ∙ ap (λ (l : List Entry). call_steps at k l ++ tail) e, call_resumes xs (suc k) (drop_more k es x xs e) h)

  past : (at k : ℕ) → length calls ≤ at → go (record { at = at; entry = k }) ≡ []
  unfolding steps_from lines_of
  past at k h = rw (drop_of_length-le calls h)

  resumes : (fuel at k : ℕ) → length calls ≤ at + fuel → Resumes go (go (record { at = at; entry = k }))
  resumes zero at k h = rw (past at k (omega arith)) tt
  resumes (suc fuel) at k h = on_test (ltb at (length calls))
      (λ e. (let l = ltb-true at (length calls) e in
      let i = within at l in
      let a = i.0 in
      rw (line_steps at l k) (call_resumes at l (drop k (es at l)) k refl (resumes fuel (at + n at l) 0 (omega arith)))))
      (λ e. rw (past at k (ltb-false at (length calls) e)) tt)

  pub steps_resume : (c : Cursor) → Resumes go (go c)
  steps_resume c = resumes (length calls) c.at c.entry (omega arith)
