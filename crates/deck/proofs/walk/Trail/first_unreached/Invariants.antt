use Prim.Native.Nat.{◌-◌}
use mathlib.Core.Path.{◌≡◌}
use Rattle.deck.specs.Records.{lowest}
use Rattle.deck.specs.code.Trail.{is_unreached}
use Rattle.deck.proofs.walk.Trail.first_unreached.Given as goal

abbrev pub invariant-loop-i : goal.invariant-loop-i
invariant-loop-i l = lowest (is_unreached l.self) (l.n - l.i) l.i ≡ lowest (is_unreached l.self) l.n 0
