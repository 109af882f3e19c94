use Rattle.footprint.proofs.Spills.{no_short_gap}
use Rattle.footprint.specs.ShortIntron.{exonic_splice_spill}
use Rattle.transcript.specs.Orient.{interval}
use borrow.Author.Tests.{not-true}
use mathlib.Core.Path.{sym, ◌∙◌}
use Prim.Native.Nat.{◌+◌}
use Rattle.std.proofs.Common.{ap}
use Rattle.std.specs.Prelude.{not}
use Rattle.consequence.proofs.spill.spill_at.Goals as goal

pub returns-then-not-short : goal.returns-then-not-short
returns-then-not-short c = let b = c.args in λ t e h. sym (no_short_gap t (interval b.p (b.p + 1)) (sym h ∙ not-true b.short (ap not c.if-not-short.true)))

pub returns : goal.returns
unfolding exonic_splice_spill
returns c =
    let d = c.hits_donor.ensures in
    let a = c.hits_acceptor.ensures in
    λ t e h. rw e (λ j. record { donor = d j; acceptor = a j })
