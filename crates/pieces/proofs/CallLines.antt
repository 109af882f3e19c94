-- The lines of the calls, one after the other.
-- Assumes nothing.
use Prim.Native.Nat.{ℕ, ◌+◌, ◌-◌, ◌≤◌, ◌<◌}
use mathlib.Core.Path.{◌≡◌, sym, ◌∙◌, ap, subst}
use mathlib.Core.List.{List, [], ◌∷◌, ◌++◌}
use native.Mathlib.Omega.{arith}
use native.Mathlib.Numerals.{add-one}
use lib.ListN.{length, take, drop, length-drop, length-take, drop_of_length-le}
use lib.Seq.{drop-drop, length-take-le}
use borrow.Rule.Slice.PartMut.{mid_of, put_mid}
use Rattle.transcript.specs.Transcript.{Transcript}
use Rattle.consequence.specs.Window.{Window}
use Rattle.std.specs.Prelude.{Option, Some, None}
use Rattle.listing.specs.declared.Cursor.{Cursor}
use Rattle.consequence.specs.declared.Call.{Call}
use Rattle.listing.specs.declared.Piece.{Piece}
use Rattle.listing.specs.Calls.{lines_of, parse_call}
use Rattle.listing.specs.Entries.{call_entries}
use Rattle.listing.specs.Pieces.{Step, call_steps, steps_from, line_number, steps_at, Packed, pack, piece_to}
use Rattle.listing.specs.code.Lengths.{line_length}
use Rattle.listing.proofs.Lines.{lines_step, line_inside}
use Rattle.listing.proofs.Newlines.{newlines_few}
use Rattle.pieces.specs.code.Filling.{filled_as}
use Rattle.pieces.proofs.Filling.{Filling, filling_more, filling_stop}

-- lines before a byte, and bytes from it on, are not more than the bytes
pub few_lines : (calls : List ℕ) (at : ℕ) → line_number calls at + (length calls - at) ≤ length calls + 1
few_lines calls at = let a = newlines_few (take at calls) in let b = length-take at calls in omega arith

-- what was put, of the same lines said otherwise
pub put_as : (buffer : List ℕ) {xs ys : List Step} {r : Piece} {after : List ℕ} → xs ≡ ys
    → (r ≡ filled_as (pack (length buffer) xs)) × (after ≡ piece_to buffer (pack (length buffer) xs))
    → (r ≡ filled_as (pack (length buffer) ys)) × (after ≡ piece_to buffer (pack (length buffer) ys))
put_as buffer e h = (h.0 ∙ ap (λ (ss : List Step). filled_as (pack (length buffer) ss)) e, h.1 ∙ ap (λ (ss : List Step). piece_to buffer (pack (length buffer) ss)) e)

module _ (ts : List Transcript) (w : Window) (calls : List ℕ) where
  -- the lines from a byte on, under a number, and from an entry on
  abbrev pub lines_from : ℕ → ℕ → ℕ → List Step
  lines_from number at k = steps_from ts w number at k (lines_of (drop at calls))

  pub lines_at : (c : Cursor) {number : ℕ} → number ≡ line_number calls c.at → lines_from number c.at c.entry ≡ steps_at ts w calls c
  lines_at c e = ap (λ (n : ℕ). lines_from n c.at c.entry) e

  pub lines_end : (number at k : ℕ) → length calls ≤ at → lines_from number at k ≡ []
  unfolding steps_from lines_of
  lines_end number at k h = rw (drop_of_length-le calls h)

  module _ (number at k to : ℕ) (inside : at < length calls) (e : to ≡ at + line_length (drop at calls)) where
    abbrev line : List ℕ
    line = take (to - at) (drop at calls)

    abbrev here : Option Call → List Step
    here p = call_steps at k (drop k (call_entries ts w number p))

    lines_on : lines_from number at k ≡ here (parse_call line) ++ lines_from (number + 1) to 0
    unfolding steps_from
    lines_on =
        let d = length-drop at calls in
        let i = line_inside calls at to inside e in
        let j = i.0 in let o = i.1 in
        let n : line_length (drop at calls) ≡ to - at = omega arith in
        let m = length-take-le (to - at) (drop at calls) (omega arith) in
        let q : at + length line ≡ to = omega arith in
        let p : at + (to - at) ≡ to = omega arith in
        ap (λ (ls : List (List ℕ)). steps_from ts w number at k ls) {y = line ∷ lines_of (drop to calls)} (lines_step (drop at calls) (omega arith) ∙ rw (n, drop-drop (to - at) at calls, p))
        ∙ rw (q, add-one)

    -- the lines of one of them, put behind the others
    module _ {before after : List ℕ} {filled : ℕ} {whole : Packed} (f : Filling before after filled (lines_from number at k) whole) {parsed : Option Call} {r : Piece} {last : List ℕ}
        (u : parsed ≡ parse_call line) (v : r ≡ filled_as (pack (length (mid_of filled (length after - filled) after)) (here parsed)))
        (z : last ≡ piece_to (mid_of filled (length after - filled) after) (pack (length (mid_of filled (length after - filled) after)) (here parsed))) where
      abbrev mid : List ℕ
      mid = mid_of filled (length after - filled) after

      abbrev p : Packed
      p = pack (length mid) (here parsed)

      on : Filling before after filled (here parsed ++ lines_from (number + 1) to 0) whole
      on = subst (λ (ss : List Step). Filling before after filled ss whole) (lines_on ∙ ap (λ (c : Option Call). here c ++ lines_from (number + 1) to 0) (sym u)) f

      pub line_whole : r.next ≡ None → Filling before (put_mid filled (length after - filled) after last) (filled + r.length) (lines_from (number + 1) to 0) whole
      line_whole h =
          let n = ap (λ (x : Piece). x.length) v in
          let c = sym (ap (λ (x : Piece). x.next) v) ∙ h in
          rw n (filling_more (here parsed) (lines_from (number + 1) to 0) on z c)

      pub line_part : {c : Cursor} → r.next ≡ Some c
          → (◌≡◌ {A = Piece} (record { length = filled + r.length; next = Some c }) (filled_as whole)) × (put_mid filled (length after - filled) after last ≡ piece_to before whole)
      line_part {c} h =
          let n = ap (λ (x : Piece). x.length) v in
          let d = sym (ap (λ (x : Piece). x.next) v) ∙ h in
          let s = filling_stop (here parsed) (lines_from (number + 1) to 0) on z d in
          (rw n s.0, s.1)
