-- The names of the Sequence Ontology's terms.
use Rattle.std.specs.Prelude.{ℕ, zero, suc, List, [], ◌∷◌, get_or}
use Prim.Native.String.{String}
use Rattle.common.specs.Text.{bytes}

-- the names of the ranks 1 to 28
unfoldable pub term_names : List String
term_names =
    "transcript_ablation"
    ∷ "transcript_amplification"
    ∷ "splice_acceptor_variant"
    ∷ "splice_donor_variant"
    ∷ "stop_gained"
    ∷ "frameshift_variant"
    ∷ "stop_lost"
    ∷ "start_lost"
    ∷ "inframe_insertion"
    ∷ "inframe_deletion"
    ∷ "missense_variant"
    ∷ "protein_altering_variant"
    ∷ "splice_region_variant"
    ∷ "start_retained_variant"
    ∷ "stop_retained_variant"
    ∷ "incomplete_terminal_codon_variant"
    ∷ "synonymous_variant"
    ∷ "coding_sequence_variant"
    ∷ "5_prime_UTR_variant"
    ∷ "3_prime_UTR_variant"
    ∷ "non_coding_transcript_exon_variant"
    ∷ "intron_variant"
    ∷ "non_coding_transcript_variant"
    ∷ "upstream_gene_variant"
    ∷ "downstream_gene_variant"
    ∷ "feature_truncation"
    ∷ "feature_elongation"
    ∷ "intergenic_variant"
    ∷ []

-- the name of the term of a rank, empty for a number that is no rank
unfoldable pub term_name : ℕ → List ℕ
unfolding term_names
term_name zero = []
term_name (suc k) = bytes (get_or term_names k "")
