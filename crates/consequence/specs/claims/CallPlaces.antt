-- What is claimed of the location of an answered call.
use Rattle.std.specs.Prelude.{Ok}
use Rattle.std.specs.Prelude.{ℕ, ◌+◌, ◌≤◌, true, ◌≡◌}
use Rattle.transcript.specs.Limits.{coordinate_limit}
use Rattle.transcript.specs.Transcript.{Transcript, pad_of}
use Rattle.footprint.specs.declared.Ranges.{Ranges}
use Rattle.locate.specs.PlaceKind.{is_cds_exon, place_offset}
use Rattle.locate.specs.claims.CodingBases.{is_coding, coding_before}
use Rattle.consequence.specs.declared.Call.{Call}
use Rattle.consequence.specs.declared.ConsequenceResult.{ConsequenceResult}
use Rattle.consequence.specs.Window.{Window}
use Rattle.consequence.specs.Call.{annotate_snv}

-- it is CdsExon exactly where a segment holds the called base
abbrev pub CodingCalls : Type 0
CodingCalls =
    (r : Ranges) (t : Transcript) (w : Window) (q : Call) (a : ConsequenceResult) →
    annotate_snv r t w q ≡ Ok a →
    is_cds_exon a.location ≡ is_coding t.segments q.position

-- its padded offset is the pad and the number of coding bases before the called base in strand order; all of them are below the limit
abbrev pub CallOffsetsCount : Type 0
CallOffsetsCount =
    (r : Ranges) (t : Transcript) (w : Window) (q : Call) (a : ConsequenceResult) (n : ℕ) →
    annotate_snv r t w q ≡ Ok a →
    is_cds_exon a.location ≡ true →
    coordinate_limit ≤ n →
    place_offset a.location ≡ pad_of t.segments + coding_before t q.position n
