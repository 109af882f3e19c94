-- The rows of a transcript, and the transcript from its parts.
-- Assumes nothing.
use Prim.Native.Nat.{ℕ, ◌+◌}
use mathlib.Core.Path.{◌≡◌}
use mathlib.Core.List.{List}
use Rattle.transcript.specs.declared.TranscriptModel.{TranscriptModel}
use Rattle.transcript.specs.Transcript.{lent}
use Rattle.deck.specs.declared.Table.{Table}
use Rattle.deck.specs.declared.rows.Rows.{Rows}
use Rattle.deck.specs.code.Table.{run_end, bounds_end, rows_at, part, model_in, transcript_in}

pub rows_made : (kinds : List ℕ) (k : ℕ) {a b g s : ℕ} → a ≡ run_end kinds 3 (k + 1) → b ≡ bounds_end kinds a → g ≡ run_end kinds 4 b → s ≡ run_end kinds 5 g
    → ◌≡◌ {A = Rows} (record { row = k; exons = a; bounds = b; segments = g; bases = s }) (rows_at kinds k)
unfolding rows_at
rows_made kinds k ea eb eg es = rw (es, eg, eb, ea)

module _ (t : Table) (r : Rows) where
  -- a transcript lent part by part
  pub lent_in : {m : TranscriptModel} {ss es ps is gs ge us : List ℕ} → m ≡ model_in t r
      → ss ≡ part (r.row + 1) r.exons t.starts → es ≡ part (r.row + 1) r.exons t.ends
      → ps ≡ part r.bounds r.segments t.marks → is ≡ part r.bounds r.segments t.numbers
      → gs ≡ part r.bounds r.segments t.starts → ge ≡ part r.bounds r.segments t.ends → us ≡ part r.segments r.bases t.starts
      → lent m ss es ps is gs ge us ≡ transcript_in t r
  unfolding transcript_in
  lent_in em es ee ep ei egs ege eu = rw (em, es, ee, ep, ei, egs, ege, eu)
