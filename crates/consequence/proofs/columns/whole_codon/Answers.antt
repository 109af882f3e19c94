-- Field by field.
use Rattle.std.proofs.Common.{Some, None}
use Prim.Native.Nat.{◌+◌}
use mathlib.Core.Path.{◌∙◌, ap}
use mathlib.Core.Bool.{Bool, cond}
use Rattle.terms.specs.Terms.{only}
use Rattle.terms.specs.Coding.{coding_term}
use Rattle.consequence.proofs.columns.whole_codon.Goals as goal
use Rattle.codon.specs.Display.{change_at}

pub returns : goal.returns
returns c = λ t b hs hp.
    let a = c.args in
    let e = c.shows_codon.ensures t b.number hp in
    let l = c.shown_letters.ensures t b.number hp in
    let h = c.of.ensures ∙ ap only (c.coding_term.ensures ∙ ap (λ (s : Bool). coding_term s a.reference_letter a.altered_letter) hs) in
    λ j. record {
      position = Some (b.offset.0 + 1);
      number = cond (e j) (Some b.number) None;
      codons = cond (e j) (Some (change_at a.c a.altered b.position)) None;
      letters = l j;
      terms = h j;
    }
