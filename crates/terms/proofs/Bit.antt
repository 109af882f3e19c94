-- One bit of a set: its place, and that it can be taken away.
-- Assumes nothing.
use Prim.Native.Nat.{ℕ, zero, suc, ◌*◌, ◌/◌, ◌%◌, ◌^◌, ◌≤◌, ◌<◌}
use mathlib.Core.Path.{◌≡◌, sym, ◌∙◌, ap}
use native.Mathlib.Omega.{arith}
use native.Mathlib.Nat.{pow-suc, one-mul}
use native.Mathlib.Numerals.{one-add}
use lib.Pow.{shr-shr, shl_exact}
use Rattle.terms.specs.declared.Consequence.{Consequence}
use Rattle.terms.specs.declared.Consequence.TheVariants.{TranscriptAblation, TranscriptAmplification, SpliceAcceptorVariant, SpliceDonorVariant, StopGained, FrameshiftVariant, StopLost, StartLost, InframeInsertion, InframeDeletion, MissenseVariant, ProteinAlteringVariant, SpliceRegionVariant, StartRetainedVariant, StopRetainedVariant, IncompleteTerminalCodonVariant, SynonymousVariant, CodingSequenceVariant, FivePrimeUtrVariant, ThreePrimeUtrVariant, NonCodingTranscriptExonVariant, IntronVariant, NonCodingTranscriptVariant, UpstreamGeneVariant, DownstreamGeneVariant, FeatureTruncation, FeatureElongation, IntergenicVariant}
use Rattle.terms.specs.Severity.{severity_rank}

-- a rank is 1 to 28
pub record Rank (n : ℕ) : Type 0 where
  pub low : 1 ≤ n
  pub high : n ≤ 28

pub rank : (t : Consequence) → Rank (severity_rank t)
rank TranscriptAblation = omega arith
rank TranscriptAmplification = omega arith
rank SpliceAcceptorVariant = omega arith
rank SpliceDonorVariant = omega arith
rank StopGained = omega arith
rank FrameshiftVariant = omega arith
rank StopLost = omega arith
rank StartLost = omega arith
rank InframeInsertion = omega arith
rank InframeDeletion = omega arith
rank MissenseVariant = omega arith
rank ProteinAlteringVariant = omega arith
rank SpliceRegionVariant = omega arith
rank StartRetainedVariant = omega arith
rank StopRetainedVariant = omega arith
rank IncompleteTerminalCodonVariant = omega arith
rank SynonymousVariant = omega arith
rank CodingSequenceVariant = omega arith
rank FivePrimeUtrVariant = omega arith
rank ThreePrimeUtrVariant = omega arith
rank NonCodingTranscriptExonVariant = omega arith
rank IntronVariant = omega arith
rank NonCodingTranscriptVariant = omega arith
rank UpstreamGeneVariant = omega arith
rank DownstreamGeneVariant = omega arith
rank FeatureTruncation = omega arith
rank FeatureElongation = omega arith
rank IntergenicVariant = omega arith

-- a shift by one place more is a shift of the half
pub shifted : (n t : ℕ) → n / 2 ^ suc t ≡ n / 2 / 2 ^ t
shifted n t = sym (shr-shr n 1 t ∙ ap (λ (e : ℕ). n / 2 ^ e) (one-add t))

-- a number with a bit that is set is at least that bit
pub held : (t n : ℕ) → n / 2 ^ t % 2 ≡ 1 → 2 ^ t ≤ n
held zero n e = let d : n / 1 ≡ n = omega arith in let e' : n % 2 ≡ 1 = rw d at e in omega arith
held (suc t) n e = let q = pow-suc 2 t in let r = held t (n / 2) (rw (shifted n t) at e) in omega arith

-- what the machine's `1 << t` is
pub bit_is : (t : ℕ) → t < 32 → (1 * 2 ^ t) % 2 ^ 32 ≡ 2 ^ t
bit_is t h = shl_exact {a = 1} 1 t 32 (omega arith) (omega arith) ∙ one-mul (2 ^ t)
