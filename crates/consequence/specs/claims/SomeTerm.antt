-- What is claimed of the terms of an answered call.
use Rattle.std.specs.Prelude.{Ok}
use Rattle.std.specs.Prelude.{◌≤◌, ◌≡◌}
use Rattle.transcript.specs.Transcript.{Transcript}
use Rattle.footprint.specs.declared.Ranges.{Ranges}
use Rattle.terms.specs.Terms.{most_severe}
use Rattle.consequence.specs.declared.Call.{Call}
use Rattle.consequence.specs.declared.ConsequenceResult.{ConsequenceResult}
use Rattle.consequence.specs.Window.{Window}
use Rattle.consequence.specs.Call.{annotate_snv}

-- it has at least one, and the most severe is one of the 28 ranks
abbrev pub SomeTerm : Type 0
SomeTerm =
    (r : Ranges) (t : Transcript) (w : Window) (q : Call) (a : ConsequenceResult) →
    annotate_snv r t w q ≡ Ok a →
    (1 ≤ most_severe a.consequences.0) × (most_severe a.consequences.0 ≤ 28)
