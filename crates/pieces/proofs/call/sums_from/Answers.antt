use Prim.Native.Nat.{◌-◌}
use native.Mathlib.Omega.{arith}
use lib.ListN.{length, drop, length-drop}
use lib.Seq.{take_all}
use Rattle.pieces.proofs.call.sums_from.Goals as goal

pub returns : goal.returns
returns c =
    let a = c.args in
    let l = a.sums.now in
    let n = length-drop a.row l in
    take_all (length l - a.row) (drop a.row l) (omega arith)
