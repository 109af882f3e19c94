use mathlib.Core.Path.{◌≡◌}
use Rattle.deck.specs.code.Table.{run_end}
use Rattle.deck.proofs.Table.run_end.Given as goal

abbrev pub invariant-loop-i : goal.invariant-loop-i
invariant-loop-i l = run_end l.self.kinds l.byte l.i ≡ run_end l.self.kinds l.byte l.from
