-- The ids of a deck's transcripts, collected one after the other.
-- Assumes nothing.
use Prim.Native.Nat.{ℕ, ◌+◌, ◌≤◌}
use mathlib.Core.Path.{◌≡◌, refl, sym, ◌∙◌, ap}
use mathlib.Core.List.{List, [], ◌∷◌, ◌++◌, map, append_assoc, append-nil}
use native.Mathlib.Omega.{arith}
use lib.ListN.{length, get_or, length-map, length-append}
use Rattle.common.specs.Stored.{Pushed}
use Rattle.common.proofs.Stored.{pushed_on}
use Rattle.std.specs.Prelude.{Ok}
use Rattle.deck.specs.declared.Table.{Table}
use Rattle.deck.specs.declared.rows.Rows.{Rows}
use Rattle.deck.specs.Deck.{read_deck, deck_transcripts}
use Rattle.deck.specs.code.Table.{transcript_rows, model_in, transcript_in, deck_table}
use Rattle.deck.proofs.RowOrder.{rows_few}
use Rattle.deck.proofs.Accepted.{table_holds}
use Rattle.contents.specs.Contents.{id_of, deck_ids, deck_content}

-- the elements at the transcripts' rows
abbrev pub at_rows : List ℕ → List Rows → List ℕ
at_rows numbers rs = map (λ r. get_or numbers r.row 0) rs

-- these transcripts are collected, others are left
pub record Collected (t : Table) (before after : List ℕ) (n : ℕ) (taken left : List Rows) : Type 0 where
  pub all : taken ++ left ≡ transcript_rows t
  pub pushed : Pushed before 0 (at_rows t.ids taken) after n

map_more : {A B : Type 0} (f : A → B) (xs : List A) (y : A) → map f (xs ++ (y ∷ [])) ≡ map f xs ++ (f y ∷ [])
map_more f [] y = refl
map_more f (x ∷ xs) y = rw (map_more f xs y)

module _ {t : Table} {before after : List ℕ} {n : ℕ} {taken : List Rows} where
  pub collected_few : {left : List Rows} → Collected t before after n taken left → n + length left ≤ 4096
  collected_few {left} c =
      let b = c.pushed.behind in
      let m = length-map taken (λ r. get_or t.ids r.row 0) in
      let l = ap length c.all in
      let a = length-append taken left in
      let f = rows_few 4096 t.kinds 0 in
      omega arith

  pub collected_more : {next : List ℕ} {m : ℕ} {left rest : List Rows} {r : Rows} → Collected t before after n taken left → left ≡ r ∷ rest
      → Pushed after n (get_or t.ids r.row 0 ∷ []) next m → Collected t before next m (taken ++ (r ∷ [])) rest
  collected_more {r = r} c e p = record {
    all = append_assoc taken (r ∷ []) _ ∙ ap (λ (l : List Rows). taken ++ l) (sym e) ∙ c.all;
    pushed = rw (map_more (λ r. get_or t.ids r.row 0) taken r) (pushed_on c.pushed p);
  }

  pub collected_all : {left : List Rows} → Collected t before after n taken left → left ≡ [] → Pushed before 0 (at_rows t.ids (transcript_rows t)) after n × (n ≤ 4096)
  collected_all c e =
      let f = collected_few c in
      let q : taken ≡ transcript_rows t = sym (append-nil taken) ∙ ap (λ (l : List Rows). taken ++ l) (sym e) ∙ c.all in
      (rw q at c.pushed, omega arith)

-- the ids of a table's transcripts
ids_at : (t : Table) (rs : List Rows) → map id_of (map (transcript_in t) rs) ≡ at_rows t.ids rs
unfolding transcript_in model_in
ids_at t [] = refl
ids_at t (r ∷ rs) = ap (λ (l : List ℕ). get_or t.ids r.row 0 ∷ l) (ids_at t rs)

module _ (d : List ℕ) (h : read_deck d ≡ Ok tt) {t : Table} (e : t ≡ deck_table d) where
  pub accepted_ids : at_rows t.ids (transcript_rows t) ≡ deck_ids d
  accepted_ids = rw (h, e) (sym (ids_at (deck_table d) (transcript_rows (deck_table d))) ∙ ap (map id_of) (table_holds d h))

  count_is : length (deck_ids d) ≡ length (deck_transcripts d)
  count_is = rw h (length-map (deck_transcripts d) id_of)

  pub accepted_count : {n : ℕ} → n ≡ length (at_rows t.ids (transcript_rows t)) → Ok n ≡ deck_content d
  accepted_count {n} q = rw h (ap Ok (q ∙ ap length accepted_ids ∙ count_is))
