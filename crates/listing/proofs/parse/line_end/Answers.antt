use Prim.Native.Nat.{◌-◌}
use mathlib.Core.Path.{sym, ◌∙◌}
use native.Mathlib.Omega.{arith}
use lib.ListN.{length, drop, length-drop}
use lib.Seq.{take_all}
use Rattle.lines.specs.Line.{newline}
use Rattle.listing.proofs.FirstPlace.{found, absent}
use Rattle.listing.proofs.Lines.{line_to, line_last}
use Rattle.listing.proofs.parse.line_end.Goals as goal

pub returns-in-Some : goal.returns-in-Some
returns-in-Some c =
    let a = c.args in
    let s = drop a.at a.s.now in
    let d = length-drop a.at a.s.now in
    let f = found newline s (rw (take_all (length a.s.now - a.at) s (omega arith)) at (sym c.first_of.ensures ∙ c.in-Some.is)) in
    let e = line_to s c.in-Some.k f.0 f.1 f.2 in
    omega arith

pub returns-in-None : goal.returns-in-None
returns-in-None c =
    let a = c.args in
    let s = drop a.at a.s.now in
    let d = length-drop a.at a.s.now in
    let e = line_last s (absent newline s (rw (take_all (length a.s.now - a.at) s (omega arith)) at (sym c.first_of.ensures ∙ c.in-None.is))) in
    omega arith
