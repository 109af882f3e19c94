use Rattle.std.proofs.Common.{Some}
use native.Mathlib.Omega.{arith}
use Rattle.common.proofs.Stored.{pushed_on}
use Rattle.codon.specs.Display.{format_codons}
use Rattle.lines.proofs.Shown.{codon_length_lem}
use Rattle.lines.proofs.Longest.{codons_length}
use Rattle.lines.proofs.columns.push_codons.Goals as goal

pub push-after-requires : goal.push-after-requires
push-after-requires c = omega (arith, codon_length_lem c.in-Some.c.reference c.in-Some.c.place, c.push_codon-slash.ensures.behind)

pub push_codon-requires : goal.push_codon-requires
push_codon-requires c = omega (arith, codon_length_lem c.in-Some.c.reference c.in-Some.c.place, c.push_codon-slash.ensures.behind, c.push-after.ensures.behind)

pub returns-in-None : goal.returns-in-None
unfolding format_codons
returns-in-None c = record { pushed = rw c.in-None.is c.push.ensures; upper_bound = omega arith }

pub returns-in-Some : goal.returns-in-Some
unfolding format_codons
returns-in-Some c =
    let p = pushed_on c.push_codon-slash.ensures (pushed_on c.push-after.ensures c.push_codon.ensures) in
    let b = p.behind in
    let l = codons_length (Some c.in-Some.c) in
    record { pushed = rw c.in-Some.is p; upper_bound = omega arith }
