use mathlib.Core.Path.{◌≡◌, sym, ◌∙◌, subst}
use Rattle.locate.specs.declared.ExonOrIntron.{ExonOrIntron}
use Rattle.transcript.specs.code.Lent.{lent_exons, oriented_in}
use Rattle.locate.specs.Find.{find_exon_or_intron}
use Rattle.locate.specs.code.Search.{exon_or_intron, FoundAt}
use Rattle.transcript.proofs.OnParts.{on}
use Rattle.locate.proofs.LentTranscript.{ad}
use Rattle.locate.proofs.PlaceCases.{is_up, is_down, from_first, is_exon_lem, is_intron, is_outside_lem, holds_exon}
use Rattle.locate.proofs.place.place_of_base.Goals as goal
use Rattle.locate.proofs.place.place_of_base.Goals.{Start, After-find-found}

-- what is known of an answer of the search
abbrev At : Start → ExonOrIntron → Type 0
At b r = FoundAt (lent_exons b.args.admitted.transcript.now.model.strand b.args.admitted.transcript.now.exons.starts.now b.args.admitted.transcript.now.exons.ends.now) b.args.p r

-- what the search gives, of the transcript's own lists
found : (c : After-find-found) → (c.find-found.result ≡ exon_or_intron (find_exon_or_intron (oriented_in c.args.admitted.transcript.now.model.strand c.args.admitted.transcript.now.exons) c.args.p))
    × FoundAt (oriented_in c.args.admitted.transcript.now.model.strand c.args.admitted.transcript.now.exons) c.args.p c.find-found.result
found c = let x = c.exons.ensures in rw (x.0, x.1) at c.find-found.ensures

pub returns-then-p-first : goal.returns-then-p-first
returns-then-p-first c = c.upstream_place.ensures ∙ on c.args.admitted.transcript.now is_up c.args.admitted.admitted c.args.p c.start_of-first.result c.end_of-last.result c.start_of-first.ensures c.end_of-last.ensures c.args.ranges c.if-p-first.true

pub returns-then-last-p : goal.returns-then-last-p
returns-then-last-p c = c.downstream_place.ensures ∙ on c.args.admitted.transcript.now is_down c.args.admitted.admitted c.args.p c.start_of-first.result c.end_of-last.result c.start_of-first.ensures c.end_of-last.ensures c.args.ranges c.if-p-first.false c.if-last-p.true

pub find-found-requires : goal.find-found-requires
find-found-requires c = (let x = c.exons.ensures in record { some = rw x.1 (on c.args.admitted.transcript.now ad c.args.admitted.admitted).some; ends_bound = rw (x.0, x.1) (on c.args.admitted.transcript.now from_first c.args.admitted.admitted c.args.p c.start_of-first.result c.end_of-last.result c.start_of-first.ensures c.end_of-last.ensures c.if-p-first.false) })

pub exon_base-requires : goal.exon_base-requires
exon_base-requires c =
    let k = subst (At (goal.at.exon_base-requires c).Start) c.in-Exon.is (found (goal.at.exon_base-requires c).After-find-found).1 in
    record { indexed = c.requires.indexed; holds = on c.args.admitted.transcript.now holds_exon c.args.admitted.admitted c.args.p c.start_of-first.result c.end_of-last.result c.start_of-first.ensures c.end_of-last.ensures _ k }

pub classify_intronic-requires : goal.classify_intronic-requires
classify_intronic-requires c = subst (At (goal.at.classify_intronic-requires c).Start) c.in-Intron.is (found (goal.at.classify_intronic-requires c).After-find-found).1

pub returns-in-Exon : goal.returns-in-Exon
returns-in-Exon c =
    c.exon_base.ensures ∙ on c.args.admitted.transcript.now is_exon_lem c.args.admitted.admitted c.args.p c.start_of-first.result c.end_of-last.result c.start_of-first.ensures c.end_of-last.ensures c.args.ranges _ (sym (found (goal.at.returns-in-Exon c).After-find-found).0 ∙ c.in-Exon.is) c.if-p-first.false c.if-last-p.false

pub returns-in-Intron : goal.returns-in-Intron
returns-in-Intron c =
    c.classify_intronic.ensures ∙ on c.args.admitted.transcript.now is_intron c.args.admitted.admitted c.args.p c.start_of-first.result c.end_of-last.result c.start_of-first.ensures c.end_of-last.ensures c.args.ranges _ (sym (found (goal.at.returns-in-Intron c).After-find-found).0 ∙ c.in-Intron.is) c.if-p-first.false c.if-last-p.false

pub returns-in-Outside : goal.returns-in-Outside
returns-in-Outside c =
    on c.args.admitted.transcript.now is_outside_lem c.args.admitted.admitted c.args.p c.start_of-first.result c.end_of-last.result c.start_of-first.ensures c.end_of-last.ensures c.args.ranges (sym (found (goal.at.returns-in-Outside c).After-find-found).0 ∙ c.in-Outside.is) c.if-p-first.false c.if-last-p.false
