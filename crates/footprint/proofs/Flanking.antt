-- Where an interval lies beside another, a case at a time.
-- Assumes nothing.
use Prim.Native.Nat.{◌<◌}
use mathlib.Core.Path.{◌≡◌, ◌∙◌}
use borrow.Author.Tests.{lt-leb}
use Rattle.transcript.specs.Transcript.{Transcript}
use Rattle.transcript.specs.Orient.{Interval, interval, orient, oriented}
use Rattle.transcript.proofs.Facts.{Facts}
use Rattle.footprint.specs.declared.Flank.{Flank}
use Rattle.footprint.specs.declared.Ranges.{Ranges}
use Rattle.footprint.specs.Flank.{flank_of, classify_flank}

module _ (r : Ranges) (x q : Interval) where
  pub within : x.start < q.end → q.start < x.end → Flank.Overlaps ≡ flank_of r x q
  within h l = rw (lt-leb q.end x.start h, lt-leb x.end q.start l)

-- beside an admitted transcript: its bounds are its outer exon edges
pub by_bounds : (r : Ranges) (t : Transcript) {x q : Interval} (f : Interval) → Facts t → x ≡ orient t.model.strand t.model.tx_start t.model.tx_end → q ≡ f → flank_of r x q ≡ classify_flank r (oriented t) f
unfolding classify_flank
by_bounds r t f k h e = let o = h ∙ (λ j. interval (k.begins j) (k.finishes j)) in λ j. flank_of r (o j) (e j)
