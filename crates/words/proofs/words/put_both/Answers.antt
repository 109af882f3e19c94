use mathlib.Core.Path.{refl, ◌∙◌, ap}
use lib.Seq.{sets}
use Rattle.std.proofs.Common.{List, ℤ, ◌+◌}
use lib.ListN.{length}
use Rattle.words.proofs.Putting.{put_behind}
use Rattle.words.proofs.words.put_both.Goals as goal

pub returns : goal.returns
returns c =
    let a = c.args in
    c.put_all-2.ensures
    ∙ ap (λ (l : List ℤ). sets l (a.at + length a.first.now) a.second.now) c.put_all.ensures
    ∙ put_behind a.out.now a.first.now a.second.now a.at (a.at + length a.first.now) refl
