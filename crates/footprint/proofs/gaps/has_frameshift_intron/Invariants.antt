use Rattle.std.specs.Prelude.{◌≡◌, drop}
use Rattle.common.specs.Lists.{any}
use Rattle.footprint.specs.code.Lent.{gaps_in}
use Rattle.footprint.specs.ShortIntron.{is_frameshift_gap}
use Rattle.footprint.proofs.gaps.has_frameshift_intron.Given as goal

abbrev pub invariant-loop-i : goal.invariant-loop-i
invariant-loop-i l = any is_frameshift_gap (drop l.i (gaps_in l.exons.strand l.exons.intervals)) ≡ any is_frameshift_gap (gaps_in l.exons.strand l.exons.intervals)
