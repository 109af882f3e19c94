use Prim.Native.Nat.{◌+◌, ◌-◌}
use mathlib.Core.Path.{sym, ◌∙◌}
use native.Mathlib.Omega.{arith}
use native.Mathlib.Numerals.{add-one}
use lib.ListN.{length, drop, length-drop}
use lib.Seq.{take_all}
use Rattle.lines.specs.Line.{space}
use Rattle.listing.proofs.FirstPlace.{found, absent}
use Rattle.listing.proofs.Fields.{fields_cut, fields_last}
use Rattle.listing.proofs.parse.split_field.Goals as goal

pub returns-in_err-k : goal.returns-in_err-k
returns-in_err-k c =
    let s = c.args.s.now in
    rw c.from_residual.ensures (fields_last s (absent space s (sym c.first_of.ensures ∙ c.in_err-k.was)))

pub returns : goal.returns
returns c =
    let s = c.args.s.now in
    let k = c.in_ok-k.k in
    let f = found space s (sym c.first_of.ensures ∙ c.in_ok-k.was) in
    let d = length-drop (k + 1) s in
    rw (take_all (length s - (k + 1)) (drop (k + 1) s) (omega arith), add-one) (fields_cut s k f.0 f.1 f.2)
