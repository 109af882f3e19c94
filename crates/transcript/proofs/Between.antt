-- The exons of an admitted transcript: there are some, and a base between the transcript's bounds lies between their outer edges.
-- Assumes nothing.
use Prim.Native.Nat.{ℕ, ◌≤◌, ◌<◌}
use mathlib.Core.Path.{◌∙◌}
use native.Mathlib.Omega.{arith}
use lib.ListN.{length, length-map}
use Rattle.transcript.specs.declared.Strand.{Strand}
use Rattle.transcript.specs.Limits.{coordinate_limit}
use Rattle.transcript.specs.Transcript.{Transcript}
use Rattle.transcript.specs.Orient.{interval, orient, orient_base, orient_exon, oriented}
use Rattle.transcript.specs.Bases.{first_start, last_end}
use Rattle.transcript.proofs.Orient.{inside_start, inside_end, inside_by, inside_orient}
use Rattle.transcript.proofs.Facts.{Facts}

module _ (t : Transcript) (f : Facts t) where
  pub some_exon : 0 < length (oriented t).exons
  unfolding oriented
  some_exon = let m = length-map t.exons (orient_exon t.model.strand) in let n = f.some in omega arith

  pub between_edges : (p : ℕ) → t.model.tx_start ≤ p → p < t.model.tx_end
      → (first_start (oriented t).exons ≤ orient_base t.model.strand p) × (orient_base t.model.strand p < last_end (oriented t).exons)
  between_edges p h l = rw (← f.begins, ← f.finishes) (go t.model.strand t.model.tx_start t.model.tx_end h l f.tx_end_low)
    where
      go : (σ : Strand) (s e : ℕ) → s ≤ p → p < e → e ≤ coordinate_limit → ((orient σ s e).start ≤ orient_base σ p) × (orient_base σ p < (orient σ s e).end)
      go σ s e h l m =
          let i = inside_orient σ s e p m ∙ inside_by p (interval s e) h l in
          (inside_start (orient_base σ p) (orient σ s e) i, inside_end (orient_base σ p) (orient σ s e) i)
