-- The table of a deck holds its transcripts, in chain order.
-- Assumes nothing.
use Prim.Native.Nat.{ℕ, ◌+◌, ◌<◌}
use mathlib.Core.Path.{◌≡◌, refl, sym, ◌∙◌, ap}
use mathlib.Core.List.{List, [], ◌∷◌, ◌++◌, map, append_assoc}
use native.Mathlib.Omega.{arith}
use lib.ListN.{length, length-append}
use Rattle.deck.specs.Records.{kind_of}
use Rattle.deck.specs.Walk.{Parts}
use Rattle.deck.specs.code.Reached.{bounds_list, records_of}
use Rattle.deck.specs.Deck.{transcript_of, admit_all}
use Rattle.deck.specs.code.Table.{column, table_of, rows_at, transcript_in, rows_onward, admit_rows}
use Rattle.deck.proofs.Grown.{AllKinds}
use Rattle.deck.proofs.RowOrder.{rows_here, rows_none}
use Rattle.deck.proofs.KindRuns.{first_kind, row_other}
use Rattle.deck.proofs.Block.{block_rows, block_transcript}
use Rattle.deck.proofs.Positions.{at_row, at_first}

-- transcripts begin with a record of kind 1
first_transcript : (d : List ℕ) (ps : List Parts) → AllKinds d ps → (k : ℕ) → 1 < k → first_kind d (records_of ps) ≡ k → ⊥
unfolding records_of
first_transcript d [] h k l e = omega arith
first_transcript d (p ∷ ps) h k l e = let i = h.0.transcripts.0.0 in omega arith

-- one transcript's records in front of the others'
block_front : (p : Parts) (rest : List ℕ)
    → (p.transcript ∷ (p.exons ++ (bounds_list p.bounds ++ (p.segments ++ p.selenocysteine)))) ++ rest
    ≡ p.transcript ∷ (p.exons ++ (bounds_list p.bounds ++ (p.segments ++ (p.selenocysteine ++ rest))))
block_front p rest =
    ap (λ (l : List ℕ). p.transcript ∷ l)
    (append_assoc p.exons (bounds_list p.bounds ++ (p.segments ++ p.selenocysteine)) rest
    ∙ ap (λ (l : List ℕ). p.exons ++ l)
    (append_assoc (bounds_list p.bounds) (p.segments ++ p.selenocysteine) rest
    ∙ ap (λ (l : List ℕ). bounds_list p.bounds ++ l) (append_assoc p.segments p.selenocysteine rest)))

block_length : (p : Parts)
    → length (p.transcript ∷ (p.exons ++ (bounds_list p.bounds ++ (p.segments ++ p.selenocysteine))))
    ≡ 1 + length p.exons + length (bounds_list p.bounds) + length p.segments + length p.selenocysteine
block_length p =
    let a = length-append p.exons (bounds_list p.bounds ++ (p.segments ++ p.selenocysteine)) in
    let b = length-append (bounds_list p.bounds) (p.segments ++ p.selenocysteine) in
    let c = length-append p.segments p.selenocysteine in
    omega arith

-- the transcripts behind `pre`
pub rows_transcripts : (d pre : List ℕ) (ps : List Parts) (o : List ℕ) → AllKinds d ps → o ≡ pre ++ records_of ps → length o < 4096
    → (map (transcript_in (table_of d o)) (rows_onward (column (kind_of d) o) (length pre)) ≡ map (transcript_of d) ps)
    × (admit_rows o (table_of d o) (rows_onward (column (kind_of d) o) (length pre)) ≡ admit_all d ps)
unfolding records_of admit_rows admit_all
rows_transcripts d pre [] o h e room =
    let n : length pre < 4096 = (let l = ap length e in let m = length-append pre [] in omega arith) in
    let r = rows_none (column (kind_of d) o) (length pre) (λ i z. row_other d pre [] 1 n (λ y. omega arith) (rw e at z)) in
    (rw r, rw r)
rows_transcripts d pre (p ∷ ps) o h e room =
    let block = p.transcript ∷ (p.exons ++ (bounds_list p.bounds ++ (p.segments ++ p.selenocysteine))) in
    let eo = e ∙ ap (λ (l : List ℕ). pre ++ l) (block_front p (records_of ps)) in
    let after : o ≡ (pre ++ block) ++ records_of ps = e ∙ sym (append_assoc pre block (records_of ps)) in
    let n = length-append pre block in
    let b = block_length p in
    let m = ap length after ∙ length-append (pre ++ block) (records_of ps) in
    let k = at_row pre p.transcript (p.exons ++ (bounds_list p.bounds ++ (p.segments ++ (p.selenocysteine ++ records_of ps)))) eo refl (kind_of d) in
    let r = rows_here (column (kind_of d) o) (length pre) (omega arith) (k ∙ h.0.transcripts.0.0) in
    let w = block_rows d pre p (records_of ps) h.0 o eo room (first_transcript d ps h.1) in
    let q : (rows_at (column (kind_of d) o) (length pre)).bases ≡ length (pre ++ block) = rw w (omega arith) in
    let f : (rows_at (column (kind_of d) o) (length pre)).row ≡ length pre = rw w in
    let t = block_transcript d pre p (records_of ps) h.0 o eo room (first_transcript d ps h.1) in
    let i = at_first pre p.transcript (p.exons ++ (bounds_list p.bounds ++ (p.segments ++ (p.selenocysteine ++ records_of ps)))) eo in
    let on = rows_transcripts d (pre ++ block) ps o h.1 after room in
    (rw (r, t, q, on.0), rw (r, t, f, i, q, on.1))
