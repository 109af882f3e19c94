use Prim.Native.Nat.{◌-◌}
use mathlib.Core.Path.{sym}
use lib.ListN.{length, drop, length-drop, drop_of_length-le}
use lib.Seq.{take_all}
use native.Mathlib.Omega.{arith}
use Rattle.pieces.proofs.line.bases_of.Goals as goal

pub returns-then-window-lt10 : goal.returns-then-window-lt10
returns-then-window-lt10 c = sym (drop_of_length-le c.args.window.now {i = 10} (omega arith))

pub returns : goal.returns
returns c =
    let s = c.args.window.now in
    let d = length-drop 10 s in
    take_all (length s - 10) (drop 10 s) (omega arith)
