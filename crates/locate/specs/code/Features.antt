-- An exon or an intron, as the code has it.
use Rattle.std.specs.Prelude.{ℕ}
use Rattle.transcript.specs.Orient.{Interval, interval}
use Rattle.locate.specs.declared.Feature.{Feature}

abbrev pub feature : ℕ → Interval → Feature
feature i x = record { index = i; start = x.start; end = x.end }

abbrev pub bases_of : Feature → Interval
bases_of x = interval x.start x.end
