-- How severe a term is.
use Rattle.std.specs.Prelude.{ℕ}
use Rattle.terms.specs.declared.Consequence.{Consequence}
use Rattle.terms.specs.declared.Consequence.TheVariants.{TranscriptAblation, TranscriptAmplification, SpliceAcceptorVariant, SpliceDonorVariant, StopGained, FrameshiftVariant, StopLost, StartLost, InframeInsertion, InframeDeletion, MissenseVariant, ProteinAlteringVariant, SpliceRegionVariant, StartRetainedVariant, StopRetainedVariant, IncompleteTerminalCodonVariant, SynonymousVariant, CodingSequenceVariant, FivePrimeUtrVariant, ThreePrimeUtrVariant, NonCodingTranscriptExonVariant, IntronVariant, NonCodingTranscriptVariant, UpstreamGeneVariant, DownstreamGeneVariant, FeatureTruncation, FeatureElongation, IntergenicVariant}

-- the severity rank, 1 for the most severe
abbrev pub severity_rank : Consequence → ℕ
severity_rank TranscriptAblation = 1
severity_rank TranscriptAmplification = 2
severity_rank SpliceAcceptorVariant = 3
severity_rank SpliceDonorVariant = 4
severity_rank StopGained = 5
severity_rank FrameshiftVariant = 6
severity_rank StopLost = 7
severity_rank StartLost = 8
severity_rank InframeInsertion = 9
severity_rank InframeDeletion = 10
severity_rank MissenseVariant = 11
severity_rank ProteinAlteringVariant = 12
severity_rank SpliceRegionVariant = 13
severity_rank StartRetainedVariant = 14
severity_rank StopRetainedVariant = 15
severity_rank IncompleteTerminalCodonVariant = 16
severity_rank SynonymousVariant = 17
severity_rank CodingSequenceVariant = 18
severity_rank FivePrimeUtrVariant = 19
severity_rank ThreePrimeUtrVariant = 20
severity_rank NonCodingTranscriptExonVariant = 21
severity_rank IntronVariant = 22
severity_rank NonCodingTranscriptVariant = 23
severity_rank UpstreamGeneVariant = 24
severity_rank DownstreamGeneVariant = 25
severity_rank FeatureTruncation = 26
severity_rank FeatureElongation = 27
severity_rank IntergenicVariant = 28
