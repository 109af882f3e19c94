-- One transcript in a table: its records one behind the other, at some row.
-- Assumes nothing.
use Prim.Native.Nat.{ℕ, ◌+◌, ◌<◌}
use mathlib.Core.Path.{◌≡◌, refl, sym, ◌∙◌, ap}
use mathlib.Core.Bool.{Bool, true, false}
use mathlib.Core.List.{List, [], ◌∷◌, ◌++◌, append_assoc}
use native.Mathlib.Omega.{arith}
use lib.ListN.{length, length-append, length-map}
use lib.Dec.{eqb}
use borrow.Author.Tests.{eq-eqb, ne_eqb}
use Rattle.deck.specs.declared.rows.Rows.{Rows}
use Rattle.deck.specs.Records.{kind_of, mark_of, word}
use Rattle.deck.specs.Walk.{Parts}
use Rattle.deck.specs.code.Reached.{bounds_list}
use Rattle.deck.specs.Deck.{cds_at, transcript_of}
use Rattle.deck.specs.code.Table.{column, number_of, rows_at, bounds_between, model_in, transcript_in, table_of}
use Rattle.deck.proofs.Grown.{Kinds}
use Rattle.deck.proofs.Runs.{rows_made}
use Rattle.deck.proofs.KindRuns.{first_kind, first_other}
use Rattle.deck.proofs.Positions.{exons_map, segments_map, even_maps, at_part, at_run, at_bounds, at_row, few_bounds}

-- the records of transcript p behind `pre`, and others behind them
module _ (d pre : List ℕ) (p : Parts) (rest : List ℕ) (h : Kinds d p) (o : List ℕ)
    (eo : o ≡ pre ++ (p.transcript ∷ (p.exons ++ (bounds_list p.bounds ++ (p.segments ++ (p.selenocysteine ++ rest))))))
    (room : length o < 4096) (other : (k : ℕ) → 1 < k → first_kind d rest ≡ k → ⊥) where
  abbrev xs : List ℕ
  xs = p.exons

  abbrev bs : List ℕ
  bs = bounds_list p.bounds

  abbrev gs : List ℕ
  gs = p.segments

  abbrev us : List ℕ
  us = p.selenocysteine

  abbrev l1 : List ℕ
  l1 = pre ++ (p.transcript ∷ [])

  e1 : o ≡ l1 ++ (xs ++ (bs ++ (gs ++ (us ++ rest))))
  e1 = eo ∙ sym (append_assoc pre (p.transcript ∷ []) (xs ++ (bs ++ (gs ++ (us ++ rest)))))

  e2 : o ≡ (l1 ++ xs) ++ (bs ++ (gs ++ (us ++ rest)))
  e2 = e1 ∙ sym (append_assoc l1 xs (bs ++ (gs ++ (us ++ rest))))

  e3 : o ≡ ((l1 ++ xs) ++ bs) ++ (gs ++ (us ++ rest))
  e3 = e2 ∙ sym (append_assoc (l1 ++ xs) bs (gs ++ (us ++ rest)))

  e4 : o ≡ (((l1 ++ xs) ++ bs) ++ gs) ++ (us ++ rest)
  e4 = e3 ∙ sym (append_assoc ((l1 ++ xs) ++ bs) gs (us ++ rest))

  n1 : length pre + 1 ≡ length l1
  n1 = sym (length-append pre (p.transcript ∷ []))

  n2 : length pre + 1 + length xs ≡ length (l1 ++ xs)
  n2 = let e = n1 in let f = length-append l1 xs in omega arith

  n3 : length pre + 1 + length xs + length bs ≡ length ((l1 ++ xs) ++ bs)
  n3 = let e = n2 in let f = length-append (l1 ++ xs) bs in omega arith

  n4 : length pre + 1 + length xs + length bs + length gs ≡ length (((l1 ++ xs) ++ bs) ++ gs)
  n4 = let e = n3 in let f = length-append ((l1 ++ xs) ++ bs) gs in omega arith

  all : length o ≡ length pre + 1 + length xs + length bs + length gs + length us + length rest
  all =
      let e = n4 in
      let f = length-append us rest in
      ap length e4 ∙ length-append (((l1 ++ xs) ++ bs) ++ gs) (us ++ rest) ∙ omega arith

  -- its rows
  abbrev pub rows : Rows
  rows = record {
    row = length pre;
    exons = length pre + 1 + length xs;
    bounds = length pre + 1 + length xs + length bs;
    segments = length pre + 1 + length xs + length bs + length gs;
    bases = length pre + 1 + length xs + length bs + length gs + length us;
  }

  no_2 : first_kind d (gs ++ (us ++ rest)) ≡ 2 → ⊥
  no_2 = first_other d 4 2 gs (us ++ rest) h.segments (λ e. omega arith) (first_other d 5 2 us rest h.selenocysteine (λ e. omega arith) (other 2 (omega arith)))

  no_3 : first_kind d (bs ++ (gs ++ (us ++ rest))) ≡ 3 → ⊥
  no_3 =
      first_other d 2 3 bs (gs ++ (us ++ rest)) h.bounds (λ e. omega arith)
      (first_other d 4 3 gs (us ++ rest) h.segments (λ e. omega arith) (first_other d 5 3 us rest h.selenocysteine (λ e. omega arith) (other 3 (omega arith))))

  no_4 : first_kind d (us ++ rest) ≡ 4 → ⊥
  no_4 = first_other d 5 4 us rest h.selenocysteine (λ e. omega arith) (other 4 (omega arith))

  pub block_rows : rows_at (column (kind_of d) o) (length pre) ≡ rows
  block_rows =
      let a = all in
      sym (rows_made (column (kind_of d) o) (length pre)
      (at_run l1 xs (bs ++ (gs ++ (us ++ rest))) e1 n1 d 3 (omega arith) h.exons no_3)
      (at_bounds (l1 ++ xs) bs (gs ++ (us ++ rest)) e2 n2 d (omega arith) (few_bounds p.bounds) h.bounds no_2)
      (at_run ((l1 ++ xs) ++ bs) gs (us ++ rest) e3 n3 d 4 (omega arith) h.segments no_4)
      (at_run (((l1 ++ xs) ++ bs) ++ gs) us rest e4 n4 d 5 (omega arith) h.selenocysteine (other 5 (omega arith))))

  -- the bounds
  cds_here : bounds_between (column (λ i. word d i 4) o) (column (λ i. word d i 8) o) rows.exons rows.bounds ≡ cds_at d p.bounds
  cds_here = here (eqb p.bounds 0) refl
    where
      here : (s : Bool) → eqb p.bounds 0 ≡ s → bounds_between (column (λ i. word d i 4) o) (column (λ i. word d i 8) o) rows.exons rows.bounds ≡ cds_at d p.bounds
      here true e =
          let q : rows.bounds ≡ rows.exons = rw e (omega arith) in
          rw (eq-eqb rows.bounds rows.exons q, e)
      here false e =
          let q : rows.bounds ≡ rows.exons → ⊥ = (λ z. let y : rows.bounds ≡ rows.exons + 1 = rw e in omega arith) in
          let w : o ≡ (l1 ++ xs) ++ (p.bounds ∷ (gs ++ (us ++ rest))) = rw e at e2 in
          rw (ne_eqb rows.bounds rows.exons q, at_row (l1 ++ xs) p.bounds (gs ++ (us ++ rest)) w n2 (λ i. word d i 4), at_row (l1 ++ xs) p.bounds (gs ++ (us ++ rest)) w n2 (λ i. word d i 8), e)

  -- the transcript itself
  pub block_transcript : transcript_in (table_of d o) (rows_at (column (kind_of d) o) (length pre)) ≡ transcript_of d p
  unfolding transcript_in model_in transcript_of
  block_transcript =
      let k = h.transcripts.0.0 in
      rw (
        block_rows,
        at_part l1 xs (bs ++ (gs ++ (us ++ rest))) e1 n1 (λ i. word d i 4),
        at_part l1 xs (bs ++ (gs ++ (us ++ rest))) e1 n1 (λ i. word d i 8),
        at_part ((l1 ++ xs) ++ bs) gs (us ++ rest) e3 n3 (mark_of d),
        at_part ((l1 ++ xs) ++ bs) gs (us ++ rest) e3 n3 (number_of d),
        at_part ((l1 ++ xs) ++ bs) gs (us ++ rest) e3 n3 (λ i. word d i 4),
        at_part ((l1 ++ xs) ++ bs) gs (us ++ rest) e3 n3 (λ i. word d i 8),
        at_part (((l1 ++ xs) ++ bs) ++ gs) us rest e4 n4 (λ i. word d i 4),
        at_row pre p.transcript (xs ++ (bs ++ (gs ++ (us ++ rest)))) eo refl (λ i. word d i 4),
        at_row pre p.transcript (xs ++ (bs ++ (gs ++ (us ++ rest)))) eo refl (number_of d),
        at_row pre p.transcript (xs ++ (bs ++ (gs ++ (us ++ rest)))) eo refl (mark_of d),
        cds_here,
        exons_map d xs,
        segments_map d gs h.segments,
        even_maps (λ i. word d i 4) (λ i. word d i 8) (mark_of d) (number_of d) xs gs,
        length-map xs,
        k,
      )
