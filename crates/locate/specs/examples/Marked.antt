-- The marked entries of document 01, proved of the definitions as one list.
use Rattle.std.specs.Prelude.{true, false, Some, Ok, [], ◌∷◌, ◌++◌, map, ◌≡◌, refl, pos, negsuc}
use Rattle.transcript.specs.declared.Strand.TheVariants.{Plus}
use Rattle.locate.specs.declared.SpliceSide.TheVariants.{Donor, Acceptor}
use Rattle.locate.specs.declared.VariantLocation.TheVariants.{Upstream, Downstream, Distal, FivePrimeUtr, CdsExon, ThreePrimeUtr, SpliceDonor, SpliceAcceptor, SpliceRegion, Intron, FrameshiftIntron}
use Rattle.footprint.specs.Ranges.{source_ranges}
use Rattle.transcript.specs.Transcript.{Transcript, exons_of, segments_of}
use Rattle.transcript.specs.Orient.{oriented}
use Rattle.transcript.specs.Admission.{bad_counts, bad_coordinates, ascending, index_fault, admission}
use Rattle.transcript.specs.Cuts.{cuts, same_cuts}
use Rattle.transcript.specs.Bases.{bases_in, end_after}
use Rattle.locate.specs.Find.{find_after, find_exon_or_intron}
use Rattle.locate.specs.Intronic.{classify_distances}
use Rattle.locate.specs.Place.{interval_index, exonic, locate}
use Rattle.transcript.specs.Question.{question_refusal}
use Rattle.locate.specs.Query.{locate_variant, locate_position}

-- T1: exons [100,130) and [160,190), CDS [110,170), phases 0 and 1, start complete
unfoldable pub t1 : Transcript
t1 = record {
  model = record { id = 7; chromosome = 1; strand = Plus; exon_count = 2; tx_start = 100; tx_end = 190; cds = Some (record { cds_genomic_start = 110; cds_genomic_end = 170 }); cds_start_complete = true };
  exons = exons_of (100 ∷ 160 ∷ []) (130 ∷ 190 ∷ []);
  segments = segments_of (0 ∷ 1 ∷ []) (0 ∷ 1 ∷ []) (110 ∷ 160 ∷ []) (130 ∷ 170 ∷ []);
  selenocysteine = [];
}

-- exons [100,130) and [143,160), a gap of 13
unfoldable pub short_gap : Transcript
short_gap = record {
  model = record { id = 8; chromosome = 1; strand = Plus; exon_count = 2; tx_start = 100; tx_end = 160; cds = Some (record { cds_genomic_start = 110; cds_genomic_end = 150 }); cds_start_complete = true };
  exons = exons_of (100 ∷ 143 ∷ []) (130 ∷ 160 ∷ []);
  segments = segments_of (0 ∷ 1 ∷ []) (0 ∷ 1 ∷ []) (110 ∷ 143 ∷ []) (130 ∷ 150 ∷ []);
  selenocysteine = [];
}

pub marked : map (locate_position source_ranges t1 1) (99 ∷ 109 ∷ 110 ∷ 126 ∷ 127 ∷ 131 ∷ 132 ∷ 142 ∷ 143 ∷ 158 ∷ 170 ∷ 5189 ∷ 5190 ∷ [])
    ++ map (locate_position source_ranges short_gap 1) (136 ∷ [])
    ≡ Ok (Upstream 1)
    ∷ Ok (FivePrimeUtr 0 (negsuc 0) false)
    ∷ Ok (CdsExon 0 0 (record { 0 = 0 }) 1 0 false)
    ∷ Ok (CdsExon 0 0 (record { 0 = 16 }) 6 1 false)
    ∷ Ok (CdsExon 0 0 (record { 0 = 17 }) 6 2 true)
    ∷ Ok (SpliceDonor 0 2)
    ∷ Ok (SpliceRegion 0 Donor (pos 3))
    ∷ Ok (Intron 0 (pos 13))
    ∷ Ok (SpliceRegion 0 Acceptor (negsuc 16))
    ∷ Ok (SpliceAcceptor 0 2)
    ∷ Ok (ThreePrimeUtr 1 (pos 1) false)
    ∷ Ok (Downstream 5000)
    ∷ Ok Distal
    ∷ Ok (FrameshiftIntron 0 (pos 7))
    ∷ []
unfolding t1 short_gap exons_of segments_of oriented bad_counts bad_coordinates ascending index_fault cuts same_cuts admission bases_in end_after find_after find_exon_or_intron classify_distances interval_index exonic locate question_refusal locate_variant
marked = refl
