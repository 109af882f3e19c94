use Prim.Native.Nat.{ℕ, ◌+◌}
use mathlib.Core.Path.{refl, sym, ◌∙◌, ap}
use mathlib.Core.Bool.{Bool, ◌||◌}
use native.Mathlib.Omega.{arith}
use lib.ListN.{drop}
use Rattle.std.specs.List.{list_any, zip}
use Rattle.transcript.specs.Orient.{interval}
use Rattle.transcript.specs.Bases.{inside}
use Rattle.transcript.proofs.Beside.{beside_at, beside_end}
use Rattle.transcript.proofs.segments.holds_base.Goals as goal

pub loop-i-init : goal.loop-i-init
loop-i-init c = refl

pub returns-then-lies_in : goal.returns-then-lies_in
returns-then-lies_in c =
    let l = c.loop-i in
    let x = c.args.intervals in
    let f : ℕ × ℕ → Bool = λ q. inside c.args.p (interval q.0 q.1) in
    let a = beside_at f x.starts.now x.ends.now l.i (omega arith) (omega arith) in
    ap (λ (b : Bool). b || list_any f (drop (l.i + 1) (zip x.starts.now x.ends.now))) (sym c.if-lies_in.true ∙ c.lies_in.ensures) ∙ sym a ∙ l.invariant

pub loop-i-preserved : goal.loop-i-preserved
loop-i-preserved c =
    let l = c.loop-i in
    let x = c.args.intervals in
    let f : ℕ × ℕ → Bool = λ q. inside c.args.p (interval q.0 q.1) in
    let a = beside_at f x.starts.now x.ends.now l.i (omega arith) (omega arith) in
    ap (λ (b : Bool). b || list_any f (drop (l.i + 1) (zip x.starts.now x.ends.now))) (sym c.if-lies_in.false ∙ c.lies_in.ensures) ∙ sym a ∙ l.invariant

pub returns : goal.returns
returns c =
    let l = c.loop-i in
    let x = c.args.intervals in
    sym (beside_end (λ q. inside c.args.p (interval q.0 q.1)) x.starts.now x.ends.now l.i (omega arith)) ∙ l.invariant
