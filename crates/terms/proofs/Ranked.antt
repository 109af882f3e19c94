-- A rank is one term's: the terms in the order of their ranks, read by rank.
-- Assumes nothing.
use Prim.Native.Nat.{ℕ, ◌-◌}
use mathlib.Core.Path.{◌≡◌, refl, sym, ◌∙◌, ap}
use mathlib.Core.List.{List, [], ◌∷◌}
use lib.ListN.{get_or}
use Rattle.terms.specs.declared.Consequence.{Consequence}
use Rattle.terms.specs.declared.Consequence.TheVariants.{TranscriptAblation, TranscriptAmplification, SpliceAcceptorVariant, SpliceDonorVariant, StopGained, FrameshiftVariant, StopLost, StartLost, InframeInsertion, InframeDeletion, MissenseVariant, ProteinAlteringVariant, SpliceRegionVariant, StartRetainedVariant, StopRetainedVariant, IncompleteTerminalCodonVariant, SynonymousVariant, CodingSequenceVariant, FivePrimeUtrVariant, ThreePrimeUtrVariant, NonCodingTranscriptExonVariant, IntronVariant, NonCodingTranscriptVariant, UpstreamGeneVariant, DownstreamGeneVariant, FeatureTruncation, FeatureElongation, IntergenicVariant}
use Rattle.terms.specs.Severity.{severity_rank}
use Rattle.terms.specs.claims.Held.{RanksDiffer}

unfoldable in_order : List Consequence
in_order =
    TranscriptAblation
    ∷ TranscriptAmplification
    ∷ SpliceAcceptorVariant
    ∷ SpliceDonorVariant
    ∷ StopGained
    ∷ FrameshiftVariant
    ∷ StopLost
    ∷ StartLost
    ∷ InframeInsertion
    ∷ InframeDeletion
    ∷ MissenseVariant
    ∷ ProteinAlteringVariant
    ∷ SpliceRegionVariant
    ∷ StartRetainedVariant
    ∷ StopRetainedVariant
    ∷ IncompleteTerminalCodonVariant
    ∷ SynonymousVariant
    ∷ CodingSequenceVariant
    ∷ FivePrimeUtrVariant
    ∷ ThreePrimeUtrVariant
    ∷ NonCodingTranscriptExonVariant
    ∷ IntronVariant
    ∷ NonCodingTranscriptVariant
    ∷ UpstreamGeneVariant
    ∷ DownstreamGeneVariant
    ∷ FeatureTruncation
    ∷ FeatureElongation
    ∷ IntergenicVariant
    ∷ []

unfoldable ranked : ℕ → Consequence
ranked n = get_or in_order (n - 1) TranscriptAblation

ranked_rank : (c : Consequence) → ranked (severity_rank c) ≡ c
unfolding ranked in_order
ranked_rank TranscriptAblation = refl
ranked_rank TranscriptAmplification = refl
ranked_rank SpliceAcceptorVariant = refl
ranked_rank SpliceDonorVariant = refl
ranked_rank StopGained = refl
ranked_rank FrameshiftVariant = refl
ranked_rank StopLost = refl
ranked_rank StartLost = refl
ranked_rank InframeInsertion = refl
ranked_rank InframeDeletion = refl
ranked_rank MissenseVariant = refl
ranked_rank ProteinAlteringVariant = refl
ranked_rank SpliceRegionVariant = refl
ranked_rank StartRetainedVariant = refl
ranked_rank StopRetainedVariant = refl
ranked_rank IncompleteTerminalCodonVariant = refl
ranked_rank SynonymousVariant = refl
ranked_rank CodingSequenceVariant = refl
ranked_rank FivePrimeUtrVariant = refl
ranked_rank ThreePrimeUtrVariant = refl
ranked_rank NonCodingTranscriptExonVariant = refl
ranked_rank IntronVariant = refl
ranked_rank NonCodingTranscriptVariant = refl
ranked_rank UpstreamGeneVariant = refl
ranked_rank DownstreamGeneVariant = refl
ranked_rank FeatureTruncation = refl
ranked_rank FeatureElongation = refl
ranked_rank IntergenicVariant = refl

pub ranks_differ : RanksDiffer
ranks_differ c d h = sym (ranked_rank c) ∙ ap (λ (n : ℕ). ranked n) h ∙ ranked_rank d
