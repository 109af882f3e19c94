-- Intervals that can be searched, as a list in strand order.
use Rattle.std.specs.Prelude.{List}
use Rattle.transcript.specs.Orient.{Interval}
use Rattle.transcript.specs.code.Lent.{oriented_in}
use Rattle.locate.specs.declared.search.Ordered.{Ordered}

abbrev pub in_order : Ordered → List Interval
in_order x = oriented_in x.strand x.intervals
