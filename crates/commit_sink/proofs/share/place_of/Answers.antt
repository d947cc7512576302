use Rattle.std.proofs.Common.{rules, leb, slice_index_or}
use Rattle.std.proofs.lemmas.Bool.{leb-true, leb-false}
use Rattle.std.proofs.lemmas.List.Sorted.{IsPartitionPoint-from_clause, IsPartitionedBy-leb}
use Rattle.commit_sink.proofs.share.place_of.Goals as goal

pub returns : goal.returns
returns c =
    let p = IsPartitionPoint-from_clause (λ e. leb e.rows c.args.index) c.args.ends.now c.partition_point.result c.partition_point.ensures.partitioned
    (IsPartitionedBy-leb (λ e. e.rows) c.args.ends.now c.args.index c.requires) (λ a r f called. search rules) in
    record {
      within = c.partition_point.ensures.bound;
      below = λ k d from before. leb-true (slice_index_or c.args.ends.now k d).rows c.args.index (p.0 k d from before);
      above = λ k d from before. leb-false (slice_index_or c.args.ends.now k d).rows c.args.index (p.1 k d from before);
    }
