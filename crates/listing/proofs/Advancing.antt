-- What a piece tells: it lies within the buffer, behind it less is left, and it is refused only where the first line does not fit.
-- Assumes nothing.
use Prim.Native.Nat.{ℕ, ◌-◌, ◌≤◌, ◌<◌}
use mathlib.Core.Path.{◌≡◌, refl, sym, ◌∙◌, ap}
use mathlib.Core.List.{List, [], ◌∷◌, ◌++◌}
use native.Mathlib.Omega.{arith}
use lib.ListN.{length, length-append}
use lib.Dec.{eqb, leb}
use borrow.Author.Tests.{ne_eqb, eqb-false, leb-true, leb-false, lt-ltb, le-ltb}
use Rattle.std.specs.Prelude.{Option, Some, None, Result, Ok, Err}
use Rattle.std.specs.Result.{is_ok}
use Rattle.common.specs.declared.refusal.Refusal.{Refusal}
use Rattle.common.specs.declared.refusal.Refusal.TheVariants.{LineLength}
use Rattle.common.specs.Refusal.{outcome_number}
use Rattle.common.specs.Refuse.{refuse}
use Rattle.common.proofs.TestParts.{on_test}
use Rattle.transcript.specs.claims.Numbers.{NumberGiven}
use Rattle.lines.specs.claims.Numbers.{written_numbers}
use Rattle.listing.specs.declared.Cursor.{Cursor}
use Rattle.listing.specs.declared.Piece.{Piece}
use Rattle.listing.specs.Pieces.{Step, steps, start, pack, packed, piece_by, piece_of}
use Rattle.listing.specs.claims.Numbers.{Each, line_too_long, PieceGiven}
use Rattle.listing.proofs.Packing.{Split, pack_split, packed_fits}
use Rattle.listing.proofs.Resuming.{resumed}
use Rattle.listing.proofs.Fitting.{Fitting, steps_fit}
use Rattle.listing.proofs.Whole.{resumes, pre_some}

abbrev put : Result Piece Refusal → Piece
put (Ok p) = p
put (Err r) = record { length = 0; next = None }

abbrev or_start : Option Cursor → Cursor
or_start (Some c) = c
or_start None = start

module _ (deck window calls : List ℕ) (c : Cursor) (buffer : List ℕ) {r : Result Piece Refusal} (is : r ≡ piece_of (packed deck window calls c buffer)) where
  abbrev ss : List Step
  ss = steps deck window calls c

  within : (put (piece_of (packed deck window calls c buffer))).length ≤ length buffer
  within = let f = packed_fits (length buffer) ss in here (pack (length buffer) ss).rest (length (pack (length buffer) ss).text) f
    where
      here : (q : Option Cursor) (n : ℕ) → n ≤ length buffer → (put (piece_by n q)).length ≤ length buffer
      here None n f = f
      here (Some d) n f = on_test (eqb n 0) (λ e. rw e (omega arith)) (λ e. rw e f)

  less : (q : Option Cursor) (text : List ℕ) {p : Piece} {next : Cursor} → Split (length buffer) ss text q → piece_by (length text) q ≡ Ok p → p.next ≡ Some next
      → length (steps deck window calls next) < length ss
  less None text {p} {next} h e n = absurd (let z : ◌≡◌ {A = Option Cursor} None (Some next) = ap (λ (x : Result Piece Refusal). (put x).next) e ∙ n in let y : ◌≡◌ {A = ℕ} 0 1 = cc in omega arith)
  less (Some d) text {p} {next} (pre, s, post, e, t, g, m) f n = on_test (eqb (length text) 0)
      (λ b. absurd (let y : ◌≡◌ {A = Result Piece Refusal} (Err LineLength) (Ok p) = rw b at f in let z : ◌≡◌ {A = ℕ} 0 1 = cc in omega arith))
      (λ b. (let x = eqb-false (length text) 0 b in
      let y : ◌≡◌ {A = Result Piece Refusal} (Ok (record { length = length text; next = Some d })) (Ok p) = rw b at f in
      let i : d ≡ next = ap (λ (x : Result Piece Refusal). or_start (put x).next) y ∙ ap or_start n in
      let z = ap length t in
      let o = pre_some pre (omega arith) in
      let v : steps deck window calls next ≡ s ∷ post = ap (steps deck window calls) (sym (g ∙ i)) ∙ resumed (steps deck window calls) pre s post (rw e at (resumes deck window calls c)) in
      let w = ap length v in
      let k = ap length e in
      let l = length-append pre (s ∷ post) in
      omega arith))

  -- fewer lines are left behind a piece that is not the last
  pub piece_less : {p : Piece} {next : Cursor} → r ≡ Ok p → p.next ≡ Some next → length (steps deck window calls next) < length ss
  piece_less e n = less (pack (length buffer) ss).rest (pack (length buffer) ss).text (pack_split (length buffer) ss) (sym is ∙ e) n

module _ (room : ℕ) where
  abbrev Given : List Step → Type 0
  Given ss = NumberGiven written_numbers (refuse (line_too_long room ss) 28 0) (outcome_number (piece_of (pack room ss))) (is_ok (piece_of (pack room ss)))

  some_lines : (n : ℕ) (q : Option Cursor) → 0 < n → NumberGiven written_numbers 0 (outcome_number (piece_by n q)) (is_ok (piece_by n q))
  some_lines n None h = record { refusal_is = refl; among = refl; zero_answered = refl }
  some_lines n (Some c) h = rw (ne_eqb n 0 (λ e. omega arith)) (record { refusal_is = refl; among = refl; zero_answered = refl })

  given : (ss : List Step) → Each Fitting ss → Given ss
  unfolding pack
  given [] f = record { refusal_is = refl; among = refl; zero_answered = refl }
  given (s ∷ ss) f = on_test (leb (length s.text) room)
      (λ e. (let t = (pack (room - length s.text) ss).text in
      let l = leb-true (length s.text) room e in
      let a = length-append s.text t in
      let g = f.0.0 in
      rw (e, le-ltb room (length s.text) l) (some_lines (length (s.text ++ t)) (pack (room - length s.text) ss).rest (omega arith))))
      (λ e. (let l = leb-false (length s.text) room e in rw (e, lt-ltb room (length s.text) l) (record { refusal_is = refl; among = refl; zero_answered = refl })))

pub piece_given : PieceGiven
piece_given deck window calls c buffer = given (length buffer) (steps deck window calls c) (steps_fit deck window calls c)
