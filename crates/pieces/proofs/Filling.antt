-- A buffer into which lines are put, one behind the other.
-- Assumes nothing.
use Prim.Native.Nat.{ℕ, zero, suc, ◌+◌, ◌-◌, ◌≤◌}
use mathlib.Core.Path.{◌≡◌, refl, sym, ◌∙◌, ap}
use mathlib.Core.List.{List, [], ◌∷◌, ◌++◌, append_assoc, append-nil}
use native.Mathlib.Omega.{arith}
use lib.ListN.{length, take, drop, length-append, length-drop}
use lib.Seq.{drop-nil, take_all, take-append_seam, drop-append_seam, drop-drop, drop-length}
use borrow.Rule.Slice.PartMut.{mid_of, post_of, put_mid}
use Rattle.common.proofs.TestParts.{on_test}
use Rattle.std.specs.Prelude.{Option, Some, None, Result, Ok, Err}
use Rattle.common.specs.declared.refusal.Refusal.{Refusal}
use Rattle.lines.specs.Line.{refusal_line, fits, write_answer, written_to}
use Rattle.listing.specs.declared.Cursor.{Cursor}
use Rattle.listing.specs.declared.Piece.{Piece}
use Rattle.listing.specs.Entries.{Entry, malformed}
use Rattle.listing.specs.Pieces.{Step, call_steps, Packed, behind, pack, piece_to}
use Rattle.listing.proofs.Packing.{pack_none, behind_both, pack_on, pack_both, packed_fits}
use Rattle.pieces.specs.code.Filling.{filled_as, line_filled}

-- one line that is put, or is left
module _ (buffer l : List ℕ) (c : Cursor) where
  abbrev line : List Step
  line = record { before = c; text = l } ∷ []

  abbrev one : Packed
  one = pack (length buffer) line

  pub line_filled_lem : (line_filled (write_answer buffer l) c ≡ filled_as one) × (written_to buffer l ≡ piece_to buffer one)
  unfolding pack
  line_filled_lem = on_test (fits buffer l)
      (λ e. rw (e, append-nil l) (refl, refl))
      (λ e. rw e (refl, refl))

  pub line_both : {v : Result ℕ Refusal} {r : Piece} {after : List ℕ} → v ≡ write_answer buffer l → after ≡ written_to buffer l → r ≡ line_filled v c
      → (r ≡ filled_as one) × (after ≡ piece_to buffer one)
  line_both e a h = (h ∙ ap (λ (w : Result ℕ Refusal). line_filled w c) e ∙ line_filled_lem.0, a ∙ line_filled_lem.1)

  pub line_put : {v : Result ℕ Refusal} {after : List ℕ} {n : ℕ} → v ≡ write_answer buffer l → after ≡ written_to buffer l → v ≡ Ok n
      → (n ≡ length one.text) × (one.rest ≡ None) × (after ≡ piece_to buffer one)
  line_put e a h =
      let z = ap (λ (w : Result ℕ Refusal). line_filled w c) (sym h ∙ e) ∙ line_filled_lem.0 in
      (ap (λ (f : Piece). f.length) z, sym (ap (λ (f : Piece). f.next) z), a ∙ line_filled_lem.1)

  pub line_left : {v : Result ℕ Refusal} {after : List ℕ} {n : Refusal} → v ≡ write_answer buffer l → after ≡ written_to buffer l → v ≡ Err n
      → (0 ≡ length one.text) × (one.rest ≡ Some c) × (after ≡ piece_to buffer one)
  line_left e a h =
      let z = ap (λ (w : Result ℕ Refusal). line_filled w c) (sym h ∙ e) ∙ line_filled_lem.0 in
      (ap (λ (f : Piece). f.length) z, sym (ap (λ (f : Piece). f.next) z), a ∙ line_filled_lem.1)

-- the line of a malformed line of the calls, at the cursor or behind it
pub malformed_here : (number at k : ℕ) → k ≡ 0
    → call_steps at k (drop k (malformed number ∷ [])) ≡ record { before = record { at = at; entry = k }; text = refusal_line number 0 26 } ∷ []
malformed_here number at zero h = refl
malformed_here number at (suc k) h = absurd (omega arith)

pub malformed_behind : (number at k : ℕ) → (k ≡ 0 → ⊥) → call_steps at k (drop k (malformed number ∷ [])) ≡ []
malformed_behind number at zero h = absurd (h refl)
malformed_behind number at (suc k) h = rw (drop-nil {A = Entry} k)

pub filled_fits : (room : ℕ) (ss : List Step) {r : Piece} → r ≡ filled_as (pack room ss) → r.length ≤ room
filled_fits room ss e = let a = ap (λ (f : Piece). f.length) e in let b = packed_fits room ss in omega arith

-- what is put so far, and that with the lines left it gives the whole
pub record Filling (before after : List ℕ) (filled : ℕ) (left : List Step) (whole : Packed) : Type 0 where
  pub done : List ℕ
  pub put : after ≡ done ++ drop (length done) before
  pub at : filled ≡ length done
  pub within : length done ≤ length before
  pub on : behind done (pack (length before - length done) left) ≡ whole

pub filling_none : (before : List ℕ) (ss : List Step) → Filling before before 0 ss (pack (length before) ss)
filling_none before ss =
    let n : length before - 0 ≡ length before = omega arith in
    record { done = []; put = refl; at = refl; within = omega arith; on = ap (λ (m : ℕ). pack m ss) n }

module _ {before after : List ℕ} {filled : ℕ} {left : List Step} {whole : Packed} (f : Filling before after filled left whole) where
  pub filling_length : length after ≡ length before
  filling_length =
      let a = ap length f.put in
      let b = length-append f.done (drop (length f.done) before) in
      let c = length-drop (length f.done) before in
      let d = f.within in
      omega arith

  pub filling_low : filled ≤ length after
  filling_low = let a = filling_length in let b = f.at in let c = f.within in omega arith

  abbrev pub mid : List ℕ
  mid = mid_of filled (length after - filled) after

  behind_done : drop filled after ≡ drop (length f.done) before
  behind_done = rw (f.at, f.put) (drop-append_seam f.done (drop (length f.done) before))

  pub mid_is : mid ≡ drop (length f.done) before
  mid_is = let d = length-drop filled after in take_all (length after - filled) (drop filled after) (omega arith) ∙ behind_done

  pub mid_length : length mid ≡ length before - length f.done
  mid_length = ap length mid_is ∙ length-drop (length f.done) before

  -- the buffer, when the part behind what is put comes back
  pub back : (ys : List ℕ) → put_mid filled (length after - filled) after ys ≡ f.done ++ ys
  back ys =
      let d = length-drop filled after in
      let p : post_of filled (length after - filled) after ≡ [] = rw (drop-drop (length after - filled) filled after) (let n : filled + (length after - filled) ≡ length after = (let l = filling_low in omega arith) in rw (n, drop-length)) in
      let t : take filled after ≡ f.done = rw (f.at, f.put) (take-append_seam f.done (drop (length f.done) before)) in
      rw (p, t, append-nil ys)

  pub filling_end : left ≡ [] → (◌≡◌ {A = Piece} (record { length = filled; next = None }) (filled_as whole)) × (after ≡ piece_to before whole)
  filling_end e =
      let w : record { text = f.done; rest = None } ≡ whole = sym (rw (e, pack_none, append-nil f.done)) ∙ f.on in
      rw (← w) (ap (λ (n : ℕ). record { length = n; next = None }) f.at, f.put)

-- lines that are put behind the others: all of them, or not
module _ {before after : List ℕ} {filled : ℕ} (xs ys : List Step) {whole : Packed} (f : Filling before after filled (xs ++ ys) whole) {last : List ℕ}
    (e : last ≡ piece_to (mid f) (pack (length (mid f)) xs)) where
  abbrev p : Packed
  p = pack (length (mid f)) xs

  abbrev now : List ℕ
  now = put_mid filled (length after - filled) after last

  abbrev done : List ℕ
  done = f.done ++ p.text

  put : now ≡ done ++ drop (length done) before
  put =
      let n = length-append f.done p.text in
      back f last ∙ ap (λ (l : List ℕ). f.done ++ l) (e ∙ ap (λ (l : List ℕ). p.text ++ l) (ap (drop (length p.text)) (mid_is f) ∙ drop-drop (length p.text) (length f.done) before ∙ ap (λ (k : ℕ). drop k before) (sym n)))
      ∙ sym (append_assoc f.done p.text (drop (length done) before))

  at : filled + length p.text ≡ length done
  at = let n = length-append f.done p.text in let a = f.at in omega arith

  on : behind f.done (pack_on (length (mid f)) p p.rest ys) ≡ whole
  on = ap (behind f.done) (sym (pack_both (length (mid f)) xs ys)) ∙ ap (λ (n : ℕ). behind f.done (pack n (xs ++ ys))) (mid_length f) ∙ f.on

  pub filling_more : p.rest ≡ None → Filling before now (filled + length p.text) ys whole
  filling_more h =
      let n = length-append f.done p.text in
      let m = mid_length f in
      let g = packed_fits (length (mid f)) xs in
      let w = f.within in
      let k : length (mid f) - length p.text ≡ length before - length done = omega arith in
      record {
        done = done;
        put = put;
        at = at;
        within = omega arith;
        on = sym (behind_both f.done p.text (pack (length (mid f) - length p.text) ys) ∙ ap (λ (i : ℕ). behind done (pack i ys)) k) ∙ ap (λ (r : Option Cursor). behind f.done (pack_on (length (mid f)) p r ys)) (sym h) ∙ on;
      }

  pub filling_stop : {c : Cursor} → p.rest ≡ Some c → (◌≡◌ {A = Piece} (record { length = filled + length p.text; next = Some c }) (filled_as whole)) × (now ≡ piece_to before whole)
  filling_stop {c} h =
      let w : record { text = done; rest = Some c } ≡ whole = ap (λ (r : Option Cursor). record { text = done; rest = r }) (sym h) ∙ ap (λ (r : Option Cursor). behind f.done (pack_on (length (mid f)) p r ys)) (sym h) ∙ on in
      rw (← w) (ap (λ (n : ℕ). record { length = n; next = Some c }) at, put)
