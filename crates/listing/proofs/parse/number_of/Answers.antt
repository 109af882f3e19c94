use Prim.Native.Nat.{◌+◌, ◌*◌, ◌-◌}
use mathlib.Core.Path.{sym, ◌∙◌}
use native.Mathlib.Omega.{arith}
use lib.ListN.{get_or, drop}
use Rattle.listing.proofs.Numbers.{number_digits, digit_at, value_on, value_none, value_ge, value_below}
use Rattle.listing.proofs.parse.number_of.Goals as goal

pub overflow_mul-n : goal.overflow_mul-n
overflow_mul-n c =
    let s = c.args.s.now in
    let l = c.loop-b in
    let a = value_on s l.n l.b-index (omega arith) in
    let b = value_ge (drop (l.b-index + 1) s) (l.n * 10 + (get_or s l.b-index 0 - 48)) in
    let d = value_below 19 s c.requires in
    omega arith

pub overflow_sub-b : goal.overflow_sub-b
overflow_sub-b c = (digit_at c.args.s.now c.loop-b.b-index (number_digits 19 c.args.s.now c.requires) (omega arith)).0

pub overflow_add-n : goal.overflow_add-n
overflow_add-n c =
    let s = c.args.s.now in
    let l = c.loop-b in
    let a = value_on s l.n l.b-index (omega arith) in
    let b = value_ge (drop (l.b-index + 1) s) (l.n * 10 + (get_or s l.b-index 0 - 48)) in
    let d = value_below 19 s c.requires in
    omega arith

pub loop-b-preserved : goal.loop-b-preserved
loop-b-preserved c = let l = c.loop-b in rw c.from.ensures (sym (value_on c.args.s.now l.n l.b-index (omega arith)) ∙ l.invariant)

pub returns : goal.returns
returns c = sym (value_none c.args.s.now c.loop-b.n c.loop-b.b-index (omega arith)) ∙ c.loop-b.invariant
