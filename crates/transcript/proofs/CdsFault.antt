-- Refusals 10, 11 and 12, a case at a time.
-- Assumes nothing.
use Prim.Native.Nat.{ℕ, ◌-◌}
use mathlib.Core.Path.{◌≡◌, sym, ◌∙◌, ap}
use mathlib.Core.Bool.{Bool, true, false}
use mathlib.Core.List.{List}
use Rattle.transcript.specs.declared.Strand.{Strand}
use Rattle.transcript.specs.Orient.{Interval, interval, orient_base}
use Rattle.transcript.specs.Bases.{inside, inside_any}
use Rattle.transcript.specs.Cuts.{Cut, cuts, same_cuts}
use Rattle.transcript.specs.code.Lent.{cds_fault, any_lent, exons_in, oriented_in, holds}
use Rattle.transcript.specs.declared.Intervals.{Intervals}
use Rattle.transcript.specs.Admission.{bad_exon}
use Rattle.common.specs.Lists.{any}
use Rattle.transcript.proofs.Listed.{any_exons}
use Rattle.transcript.proofs.LentSegments.{holds_oriented}

module _ (coding : Bool) (cds : Interval) (xs : List Interval) (gs : List Cut) (c : coding ≡ true) where
  pub lacks_first_lem : inside_any cds.start xs ≡ false → 10 ≡ cds_fault coding cds xs gs
  lacks_first_lem a = rw (c, a)

  module _ (a : inside_any cds.start xs ≡ true) where
    pub lacks_last_lem : inside_any (cds.end - 1) xs ≡ false → 11 ≡ cds_fault coding cds xs gs
    lacks_last_lem b = rw (c, a, b)

    module _ (b : inside_any (cds.end - 1) xs ≡ true) where
      pub lacks_cuts : same_cuts gs (cuts cds 0 xs) ≡ false → 12 ≡ cds_fault coding cds xs gs
      lacks_cuts s = rw (c, a, b, s)

      pub lacks_none : same_cuts gs (cuts cds 0 xs) ≡ true → 0 ≡ cds_fault coding cds xs gs
      lacks_none s = rw (c, a, b, s)

-- a coordinate that an interval holds, in oriented coordinates
module _ (σ : Strand) (x : Intervals) (p : ℕ) (b : Bool) (h : any_lent (λ s e. inside p (interval s e)) x ≡ b) (edges : any bad_exon (exons_in x) ≡ false) where
  pub inside_at : (q : ℕ) → orient_base σ p ≡ q → inside_any q (oriented_in σ x) ≡ b
  inside_at q e =
      ap (λ (n : ℕ). inside_any n (oriented_in σ x)) (sym e)
      ∙ sym (holds_oriented σ (exons_in x) p edges) ∙ any_exons (holds p) x.starts.now x.ends.now ∙ h
