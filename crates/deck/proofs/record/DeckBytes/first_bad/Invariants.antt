use mathlib.Core.Path.{◌≡◌}
use Prim.Native.Nat.{◌-◌}
use Rattle.deck.specs.Records.{bad_record, lowest}
use Rattle.deck.proofs.record.DeckBytes.first_bad.Given as goal

abbrev pub invariant-loop-i : goal.invariant-loop-i
invariant-loop-i l = lowest (bad_record l.self.bytes.now) (l.count - l.i) l.i ≡ lowest (bad_record l.self.bytes.now) l.count 0
