-- The lists of a transcript as a struct lends them.
use Rattle.std.specs.Prelude.{List}
use denote.Triple.Both.{Both}
use Rattle.common.specs.Slices.{Lent}
use Rattle.transcript.specs.Transcript.{Transcript}
use Rattle.contents.specs.declared.TranscriptLists.{TranscriptLists}
use Rattle.contents.specs.Contents.{Stored}

-- what it leaves behind its references, field by field
abbrev pub ListsLeft : Type 0
ListsLeft = Lent × (Lent × (Lent × (Lent × (Lent × (Lent × (Lent × (Lent × Unit {0})))))))

-- all of the transcript stands there
abbrev pub StoredIn : List Transcript → Both TranscriptLists ListsLeft → Type 0
StoredIn ts lists =
    let e = lists.entry in
    let x = lists.exit in
    let segments = x.1.1.1 in
    Stored ts
    (record { entry = e.scalars; exit = x.0 }) (record { entry = e.exon_starts; exit = x.1.0 }) (record { entry = e.exon_ends; exit = x.1.1.0 })
    (record { entry = e.seg_phases; exit = segments.0 }) (record { entry = e.seg_exons; exit = segments.1.0 })
    (record { entry = e.seg_starts; exit = segments.1.1.0 }) (record { entry = e.seg_ends; exit = segments.1.1.1.0 })
    (record { entry = e.selenocysteine; exit = segments.1.1.1.1.0 })
