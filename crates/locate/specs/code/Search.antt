-- Exons that can be searched, what a search over their starts finds, and the exon or intron of a base with its edges.
use Rattle.std.specs.Prelude.{ℕ, ◌+◌, ◌≤◌, ◌<◌, ◌≡◌, true, false, cond, List, length, get_or, leb}
use Rattle.common.specs.Lists.{any}
use Rattle.transcript.specs.declared.Strand.{Strand}
use Rattle.transcript.specs.code.Lent.{lent_exons}
use Rattle.locate.specs.declared.ExonOrIntron.{ExonOrIntron}
use Rattle.locate.specs.declared.Feature.{Feature}
use Rattle.locate.specs.declared.VariantLocation.{VariantLocation}
use Rattle.footprint.specs.declared.Ranges.{Ranges}
use Rattle.transcript.specs.Limits.{top, max_exons}
use Rattle.transcript.specs.Transcript.{exons_of}
use Rattle.transcript.specs.Orient.{Interval, interval, Oriented}
use Rattle.transcript.specs.Admission.{bad_exon, ascending}
use Rattle.locate.specs.Find.{Found, in_exon, in_intron, outside}
use Rattle.locate.specs.code.Features.{feature}

-- intervals of good edges, in order
pub record Ready (strand : Strand) (starts ends : List ℕ) : Type 0 where
  pub few : length starts ≤ max_exons
  pub even : length starts ≡ length ends
  pub edges : any bad_exon (exons_of starts ends) ≡ false
  pub order : ascending 0 (lent_exons strand starts ends) ≡ true

-- the first n intervals start at or before the base, and the others after it
pub record Started (xs : List Interval) (p n : ℕ) : Type 0 where
  pub before : (k : ℕ) → k < n → (get_or xs k (interval 0 0)).start ≤ p
  pub after : (k : ℕ) → n ≤ k → k < length xs → p < (get_or xs k (interval 0 0)).start

-- interval i, which has that start, is the last that starts at or before the base
pub record LastStart (xs : List Interval) (p i start : ℕ) : Type 0 where
  pub index : i < length xs
  pub started : Started xs p (i + 1)
  pub start_is : start ≡ (get_or xs i (interval 0 0)).start

-- the answer, as the code has it
abbrev pub exon_or_intron : Found → ExonOrIntron
exon_or_intron (in_exon i x) = ExonOrIntron.Exon (feature i x)
exon_or_intron (in_intron i gap) = ExonOrIntron.Intron (feature i gap)
exon_or_intron outside = ExonOrIntron.Outside

-- what an answer about a base has: the exon's own edges, or a gap within the limit, around the base
abbrev pub FoundAt : List Interval → ℕ → ExonOrIntron → Type 0
FoundAt xs p (ExonOrIntron.Exon x) =
    (x.index < length xs) × (x.start ≡ (get_or xs x.index (interval 0 0)).start) × (x.end ≡ (get_or xs x.index (interval 0 0)).end) × (x.start ≤ p) × (p < x.end)
FoundAt xs p (ExonOrIntron.Intron x) = (x.index < max_exons) × (x.start ≤ p) × (p < x.end) × (x.end ≤ top)
FoundAt xs p ExonOrIntron.Outside = Unit {0}

-- an exon of a transcript, which holds the base
pub record Holds (o : Oriented) (x : Feature) (p : ℕ) : Type 0 where
  pub index : x.index < length o.exons
  pub start_is : x.start ≡ (get_or o.exons x.index (interval 0 0)).start
  pub end_is : x.end ≡ (get_or o.exons x.index (interval 0 0)).end
  pub from : x.start ≤ p
  pub to : p < x.end

-- outside a transcript, d bases upstream or downstream of it
abbrev pub upstream_by : Ranges → ℕ → VariantLocation
upstream_by r d = cond (leb d r.flank) (VariantLocation.Upstream d) VariantLocation.Distal

abbrev pub downstream_by : Ranges → ℕ → VariantLocation
downstream_by r d = cond (leb d r.flank) (VariantLocation.Downstream d) VariantLocation.Distal
