-- What is claimed of two transcripts: what a longer one keeps of a shorter one.
use Rattle.std.specs.Prelude.{ℕ, ◌+◌, ◌-◌, Bool, true, ◌≡◌, length}
use Rattle.footprint.specs.declared.Ranges.{Ranges}
use Rattle.transcript.specs.Transcript.{Transcript}
use Rattle.transcript.specs.Orient.{orient_base, oriented}
use Rattle.transcript.specs.Bases.{first_start, last_end, total_size}
use Rattle.transcript.specs.Admission.{Admitted}
use Rattle.locate.specs.Query.{locate_variant}
use Rattle.consequence.specs.declared.Call.{Call}
use Rattle.consequence.specs.Window.{Window}
use Rattle.consequence.specs.Call.{annotate_snv}
use Rattle.demands.specs.Gains.{place_mark, call_mark, MarkKept, TermsKept}
use Rattle.demands.specs.Longer.{Longer, inside_transcript, near_ends}
use Rattle.demands.specs.Carry.{Added, carry_located, carry_called}

module _ (S L : Transcript) (x : Longer S L) (p : ℕ) where
  -- the mark is gained within 3 bases of an outer end of the longer's inner exons, beyond which an exon was added
  abbrev pub gained : Bool
  gained = near_ends x.before x.after x.begin x.finish (orient_base S.model.strand p)

  -- what the longer adds, seen from base p
  abbrev pub added : Added
  added = record {
    exons5 = length x.before;
    bases5 = total_size x.before + (first_start (oriented S).exons - x.begin);
    exons = length x.before + length x.after;
    mark = gained;
  }

  -- base p is within 3 bases of an outer end of the shorter, beyond which an exon was added
  abbrev pub near_outer_end : Bool
  near_outer_end = near_ends x.before x.after (first_start (oriented S).exons) (last_end (oriented S).exons) (orient_base S.model.strand p)

-- the call of base ref turned into alt at p
abbrev pub call_at : ℕ → ℕ → ℕ → ℕ → Call
call_at chromosome p ref alt = record { chromosome = chromosome; position = p; ref_base = ref; alt_base = alt }

-- the longer's two whole answers are the shorter's, carried; no mark and no term is lost, and the mark and splice_region_variant
-- are gained only near an outer end beyond which an exon was added
pub record Kept (r : Ranges) (S L : Transcript) (x : Longer S L) (w : Window) (chromosome p e ref alt : ℕ) : Type 0 where
  pub place : locate_variant r L chromosome p e ≡ carry_located (added S L x p) (locate_variant r S chromosome p e)
  pub call : annotate_snv r L w (call_at chromosome p ref alt) ≡ carry_called (added S L x p) (annotate_snv r S w (call_at chromosome p ref alt))
  pub near : gained S L x p ≡ true → near_outer_end S L x p ≡ true
  pub mark : MarkKept (place_mark (locate_variant r S chromosome p e)) (place_mark (locate_variant r L chromosome p e)) (near_outer_end S L x p)
  pub mark_of_call : MarkKept (call_mark (annotate_snv r S w (call_at chromosome p ref alt))) (call_mark (annotate_snv r L w (call_at chromosome p ref alt))) (near_outer_end S L x p)
  pub terms : TermsKept (annotate_snv r S w (call_at chromosome p ref alt)) (annotate_snv r L w (call_at chromosome p ref alt)) (near_outer_end S L x p)

-- demand 3: every place question and call at a base inside the shorter, refused ones included, over one window and with all else the same
abbrev pub LongerKeeps : Type 0
LongerKeeps =
    (r : Ranges) (S L : Transcript) (x : Longer S L) → Admitted S → Admitted L →
    (w : Window) (chromosome p e ref alt : ℕ) → inside_transcript S p ≡ true →
    Kept r S L x w chromosome p e ref alt
