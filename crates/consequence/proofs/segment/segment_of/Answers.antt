use Rattle.std.proofs.Common.{ℕ, leb, rules}
use Rattle.std.proofs.lemmas.List.Sorted.{IsPartitionPoint-from_clause}
use Rattle.consequence.proofs.SegmentSearch.{parted, held_at}
use Rattle.consequence.proofs.segment.segment_of.Goals as goal

pub returns : goal.returns
returns c = λ up.
    let a = c.args in
    let h = c.requires in
    let e = c.partition_point.ensures in
    held_at a.sums.now a.count a.k h.0 h.2 c.partition_point.result e.bound h.3
    (IsPartitionPoint-from_clause (λ (s : ℕ). leb s a.k) _ _ e.partitioned (parted a.sums.now a.count a.k h.0 h.2 up) (λ x r q z. search rules))
