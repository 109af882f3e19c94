-- The pieces of a listing, joined, are its bytes.
-- Assumes nothing.
use Rattle.std.specs.Prelude.{Err, Ok, Result}
use Prim.Native.Nat.{ℕ, zero, suc, ◌+◌, ◌≤◌, ◌<◌}
use mathlib.Core.Path.{◌≡◌, refl, sym, ◌∙◌, ap, subst}
use mathlib.Core.List.{List, [], ◌∷◌, ◌++◌, map, map-append, append-nil}
use native.Mathlib.Omega.{arith}
use lib.ListN.{length, take, drop, length-append, length-drop, length-map}
use lib.Seq.{take-append_seam}
use borrow.Author.Tests.{ne_eqb}
use Rattle.common.specs.Lists.{concat}
use Rattle.transcript.specs.Transcript.{Transcript}
use Rattle.consequence.specs.Window.{Window}
use Rattle.deck.specs.Deck.{deck_transcripts}
use Rattle.deck.specs.declared.DeckRefusal.{DeckRefusal}
use Rattle.listing.specs.declared.Cursor.{Cursor}
use Rattle.std.specs.Prelude.{Option, Some, None}
use Rattle.listing.specs.Calls.{lines_of, parse_call}
use Rattle.listing.specs.WindowFile.{window_of}
use Rattle.listing.specs.Entries.{Entry, entry_line, call_entries, entries}
use Rattle.listing.specs.Listing.{opening, listed, listing_by, listing}
use Rattle.listing.specs.Pieces.{Step, call_steps, steps_from, steps_by, steps, start, pack, piece_by}
use Rattle.listing.specs.claims.Numbers.{Each}
use Rattle.listing.specs.claims.Whole.{shown, output, WholeOutput}
use Rattle.listing.proofs.Packing.{text_of, texts, texts_both, Split, pack_split, packed_fits}
use Rattle.listing.proofs.Resuming.{Resumes, resumed, steps_resume}
use Rattle.listing.proofs.Fitting.{Fitting, each_at, steps_fit}

-- the lines from the start on are the listing's
call_texts : (at k : ℕ) (es : List Entry) → map text_of (call_steps at k es) ≡ map entry_line es
call_texts at k [] = refl
call_texts at k (e ∷ es) = ap (λ (l : List (List ℕ)). entry_line e ∷ l) (call_texts at (suc k) es)

line_texts : (ts : List Transcript) (w : Window) (number at : ℕ) (ls : List (List ℕ)) → map text_of (steps_from ts w number at 0 ls) ≡ map entry_line (concat (entries ts w number ls))
unfolding steps_from entries concat
line_texts ts w number at [] = refl
line_texts ts w number at (l ∷ ls) =
    let es = call_entries ts w number (parse_call l) in
    map-append text_of (call_steps at 0 es) (steps_from ts w (suc number) (at + length l) 0 ls)
    ∙ ap (λ (x : List (List ℕ)). x ++ map text_of (steps_from ts w (suc number) (at + length l) 0 ls)) (call_texts at 0 es)
    ∙ ap (λ (x : List (List ℕ)). map entry_line es ++ x) (line_texts ts w (suc number) (at + length l) ls)
    ∙ sym (map-append entry_line es (concat (entries ts w (suc number) ls)))

by_opening : (o : Result Unit DeckRefusal) (deck window calls : List ℕ) → map text_of (steps_by o deck window calls start) ≡ listing_by o (listed deck window calls)
by_opening (Err e) deck window calls = refl
by_opening (Ok x) deck window calls = line_texts (deck_transcripts deck) (window_of window) 1 0 (lines_of calls)

listing_steps : (deck window calls : List ℕ) → map text_of (steps deck window calls start) ≡ listing deck window calls
unfolding steps listing
listing_steps deck window calls = by_opening (opening deck window calls) deck window calls

resumes_by : (o : Result Unit DeckRefusal) (deck window calls : List ℕ) (c : Cursor) → Resumes (steps_by o deck window calls) (steps_by o deck window calls c)
resumes_by (Err e) deck window calls c = (refl, tt)
resumes_by (Ok x) deck window calls c = steps_resume (deck_transcripts deck) (window_of window) calls c

pub resumes : (deck window calls : List ℕ) (c : Cursor) → Resumes (steps deck window calls) (steps deck window calls c)
unfolding steps
resumes deck window calls c = resumes_by (opening deck window calls) deck window calls c

pub pre_some : (pre : List Step) → 0 < length (texts pre) → 0 < length pre
unfolding concat
pre_some [] h = absurd (omega arith)
pre_some (x ∷ pre) h = omega arith

module _ (deck window calls : List ℕ) where
  abbrev go : Cursor → List Step
  go = steps deck window calls

  -- the lines of a piece that is not the last: some, and those from its cursor on come behind them
  module _ (c : Cursor) (buffer : List ℕ) (room : 1553 ≤ length buffer) where
    piece_some : (pre : List Step) (s : Step) (post : List Step) → go c ≡ pre ++ (s ∷ post) → length buffer < length (texts pre) + length s.text → 0 < length (texts pre)
    unfolding concat
    piece_some [] s post e l =
        let f : Fitting s = each_at Fitting [] s post (subst (Each Fitting) e (steps_fit deck window calls c)) in
        let h = f.1 in
        absurd (omega arith)
    piece_some (x ∷ pre) s post e l =
        let f : Fitting x = each_at Fitting [] x (pre ++ (s ∷ post)) (subst (Each Fitting) e (steps_fit deck window calls c)) in
        let h = f.0 in
        let a = length-append x.text (texts pre) in
        omega arith

    rest_is : (pre : List Step) (s : Step) (post : List Step) → go c ≡ pre ++ (s ∷ post) → go s.before ≡ s ∷ post
    rest_is pre s post e = resumed go pre s post (subst (Resumes go) e (resumes deck window calls c))

  outputs : (n : ℕ) (c : Cursor) (buffer : List ℕ) → 1553 ≤ length buffer → length (go c) < n → output n deck window calls buffer c ≡ texts (go c)
  unfolding output
  outputs zero c buffer r l = absurd (omega arith)
  outputs (suc n) c buffer r l = here (pack (length buffer) (go c)).rest (pack (length buffer) (go c)).text (pack_split (length buffer) (go c)) (packed_fits (length buffer) (go c)) (λ d b. outputs n d b)
    where
      here : (q : Option Cursor) (text : List ℕ) → Split (length buffer) (go c) text q → length text ≤ length buffer
          → ((d : Cursor) (b : List ℕ) → 1553 ≤ length b → length (go d) < n → output n deck window calls b d ≡ texts (go d))
          → shown (piece_by (length text) q) (text ++ drop (length text) buffer) (output n deck window calls) ≡ texts (go c)
      here None text h f on = append-nil (take (length text) (text ++ drop (length text) buffer)) ∙ take-append_seam text (drop (length text) buffer) ∙ h
      here (Some d) text (pre, s, post, e, t, g, m) f on =
          let b = text ++ drop (length text) buffer in
          let p = piece_some c buffer r pre s post e m in
          let z = ap length t in
          let k = length-append text (drop (length text) buffer) in
          let j = length-drop (length text) buffer in
          let q : go d ≡ s ∷ post = ap go (sym g) ∙ rest_is c buffer r pre s post e in
          let y = length-append pre (s ∷ post) in
          let x = ap length e in
          let w = ap length q in
          let v = pre_some pre p in
          rw (ne_eqb (length text) 0 (λ i. omega arith))
          (ap (λ (a : List ℕ). a ++ output n deck window calls b d) (take-append_seam text (drop (length text) buffer))
          ∙ ap (λ (a : List ℕ). text ++ a) (on d b (omega arith) (omega arith) ∙ ap texts q)
          ∙ ap (λ (a : List ℕ). a ++ texts (s ∷ post)) t
          ∙ sym (texts_both pre (s ∷ post))
          ∙ sym (ap texts e))

pub whole_output : WholeOutput
whole_output deck window calls buffer r n l =
    let e = listing_steps deck window calls in
    let a = ap length e in
    let b = length-map (steps deck window calls start) text_of in
    outputs deck window calls n start buffer r (omega arith) ∙ ap concat e
