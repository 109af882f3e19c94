use mathlib.Core.Path.{sym, ◌∙◌}
use native.Mathlib.Omega.{arith}
use Rattle.locate.proofs.Searching.{end_at_lem}
use Rattle.locate.proofs.search.Ordered.end.Goals as goal

pub end-requires : goal.end-requires
end-requires c = let x = c.stranded.ensures in let e = c.args.self.ready.even in rw (x.1) (c.requires, omega arith)

pub returns : goal.returns
returns c =
    let x = c.args.self in let s = c.stranded.ensures in
    (rw (s.0, s.1) at c.end.ensures) ∙ sym (end_at_lem x.strand x.intervals.starts.now x.intervals.ends.now x.ready c.args.i c.requires)
