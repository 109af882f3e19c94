use Rattle.std.specs.Prelude.{take}
use Rattle.common.specs.Stored.{Pushed}
use Rattle.common.proofs.text.push_bytes.Given as goal

abbrev pub invariant-loop-b : goal.invariant-loop-b
invariant-loop-b l = Pushed l.initial.out l.at (take l.b-index l.text) l.out l.to
