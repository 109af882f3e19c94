-- The links of a transcript one behind the other.
use Rattle.std.specs.Prelude.{ℕ, cond, List, eqb}
use Rattle.deck.specs.declared.links.Link.{Link}
use Rattle.deck.specs.declared.kind.Kind.{Kind}
use Rattle.deck.specs.declared.kind.Kind.TheVariants.{Head, Transcript, Bounds, Exon, Segment, Selenocysteine}
use Rattle.deck.specs.Records.{next_of, half}

-- a link, or another where it ends its chain
abbrev pub link_or : Link → Link → Link
link_or l next = cond (eqb l.to 0) next l

-- an exon of transcript t, or its bounds where the exons are at their end
abbrev pub exon_link : List ℕ → ℕ → ℕ → ℕ → Link
exon_link d t from to = link_or (record { kind = Exon; from = from; to = to }) (record { kind = Bounds; from = t; to = half d t 12 })

-- a segment of bounds b, or the first selenocysteine base where the segments are at their end
abbrev pub segment_link : List ℕ → ℕ → ℕ → ℕ → Link
segment_link d b from to =
    link_or (record { kind = Segment; from = from; to = to }) (record { kind = Selenocysteine; from = b; to = half d b 14 })

-- the link behind record `at`, which is of the kind given
abbrev pub next_link : List ℕ → ℕ → ℕ → Kind → ℕ → Link
next_link d t b Exon at = exon_link d t at (next_of d at)
next_link d t b Bounds at = segment_link d at at (half d at 12)
next_link d t b Segment at = segment_link d b at (next_of d at)
next_link d t b Head at = record { kind = Selenocysteine; from = at; to = next_of d at }
next_link d t b Transcript at = record { kind = Selenocysteine; from = at; to = next_of d at }
next_link d t b Selenocysteine at = record { kind = Selenocysteine; from = at; to = next_of d at }

abbrev pub bounds_after : ℕ → Kind → ℕ → ℕ
bounds_after b Head at = b
bounds_after b Transcript at = b
bounds_after b Bounds at = at
bounds_after b Exon at = b
bounds_after b Segment at = b
bounds_after b Selenocysteine at = b
