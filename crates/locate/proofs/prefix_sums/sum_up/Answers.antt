use mathlib.Core.Path.{◌≡◌, ◌∙◌, ap}
use mathlib.Core.List.{List, map}
use Prim.Native.Nat.{ℕ, suc, ◌≤◌}
use native.Mathlib.Omega.{arith}
use lib.ListN.{length, replicate, length-replicate}
use lib.Seq.{length-sets}
use Rattle.common.specs.Stored.{stored, filled}
use Rattle.common.proofs.Stored.{stored_zeros}
use Rattle.transcript.specs.Transcript.{exons_of}
use Rattle.transcript.specs.code.Lent.{exon_size}
use Rattle.transcript.proofs.LentFacts.{pad_low}
use Rattle.locate.specs.Index.{cumulative}
use Rattle.transcript.proofs.OnParts.{on}
use Rattle.locate.proofs.LentTranscript.{ad}
use Rattle.locate.proofs.PrefixSums.{sums_count}
use Rattle.locate.proofs.LentIndex.{sizes_bound, exon_array, cds_array}
use Rattle.locate.proofs.prefix_sums.sum_up.Goals as goal
use Rattle.locate.proofs.prefix_sums.sum_up.Goals.{Start}

-- values stored into an array of zeros
length_is : (sums : List ℕ) → sums ≡ replicate 513 0 → length sums ≡ 513
length_is sums z = ap length z ∙ length-replicate {A = ℕ} 513 0

filled_is : (sums after vs : List ℕ) (n : ℕ) → sums ≡ replicate 513 0 → after ≡ stored sums 0 vs → length vs ≡ suc n → n ≤ 512 → after ≡ filled 513 vs
filled_is sums after vs n z e l f = e ∙ ap (λ (s : List ℕ). stored s 0 vs) z ∙ stored_zeros 513 vs (omega arith)

kept_length : (sums after vs : List ℕ) → sums ≡ replicate 513 0 → after ≡ stored sums 0 vs → length after ≡ 513
kept_length sums after vs z e = ap length e ∙ length-sets sums 0 vs ∙ length_is sums z

pub store_sums-requires : goal.store_sums-requires
store_sums-requires c =
    let k = on c.args.admitted.transcript.now ad c.args.admitted.admitted in
    let f = k.few in
    let z = length_is c.args.cumulative_exons.now c.requires.zeros.0 in
    let s = sizes_bound c.args.admitted.transcript.now.model.strand (exons_of c.args.admitted.transcript.now.exons.starts.now c.args.admitted.transcript.now.exons.ends.now) k.edges k.order in
    record { even = (k.even, omega arith); good_edges = k.edges; low = omega arith }

pub store_sums-requires-2 : goal.store_sums-requires-2
store_sums-requires-2 c =
    let k = on c.args.admitted.transcript.now ad c.args.admitted.admitted in
    let f = k.few_segments in
    let z = length_is c.args.cumulative_cds.now c.requires.zeros.1 in
    let s = sizes_bound c.args.admitted.transcript.now.model.strand (exons_of c.args.admitted.transcript.now.segments.bases.starts.now c.args.admitted.transcript.now.segments.bases.ends.now) k.segment_edges k.segment_order in
    let p = pad_low c.args.admitted.transcript.now.segments.phases.now in
    let e = c.pad_of-pad.ensures in
    record { even = (k.even_segments_lem.ends, omega arith); good_edges = k.segment_edges; low = omega arith }

pub returns : goal.returns
returns c =
    let k = on c.args.admitted.transcript.now ad c.args.admitted.admitted in
    let pad = c.pad_of-pad in
    let xs = cumulative 0 (map exon_size (exons_of c.args.admitted.transcript.now.exons.starts.now c.args.admitted.transcript.now.exons.ends.now)) in
    let ys = cumulative pad.result (map exon_size (exons_of c.args.admitted.transcript.now.segments.bases.starts.now c.args.admitted.transcript.now.segments.bases.ends.now)) in
    let s = c.store_sums in
    let t = c.store_sums-2 in
    let n = sums_count 0 c.args.admitted.transcript.now.exons.starts.now c.args.admitted.transcript.now.exons.ends.now k.even in
    let m = sums_count pad.result c.args.admitted.transcript.now.segments.bases.starts.now c.args.admitted.transcript.now.segments.bases.ends.now k.even_segments_lem.ends in record {
      sums = (
        filled_is c.args.cumulative_exons.now s.new.sums xs (length c.args.admitted.transcript.now.exons.starts.now) c.requires.zeros.0 s.ensures n k.few ∙ on c.args.admitted.transcript.now exon_array c.args.admitted.admitted,
        filled_is c.args.cumulative_cds.now t.new.sums ys (length c.args.admitted.transcript.now.segments.bases.starts.now) c.requires.zeros.1 t.ensures m k.few_segments ∙ on c.args.admitted.transcript.now cds_array c.args.admitted.admitted pad.result pad.ensures,
      );
      lengths = (
        kept_length c.args.cumulative_exons.now s.new.sums xs c.requires.zeros.0 s.ensures,
        kept_length c.args.cumulative_cds.now t.new.sums ys c.requires.zeros.1 t.ensures,
      );
    }
