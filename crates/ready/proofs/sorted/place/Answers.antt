use Rattle.std.proofs.Common.{rules, tests}
use Rattle.std.proofs.lemmas.List.Sorted.{IsPartitionPoint-from_clause}
use Rattle.ready.specs.Sorting.{goes_before}
use Rattle.ready.proofs.SortLaws.{ahead_from_point, sound_parted}
use Rattle.ready.proofs.sorted.place.Goals as goal

pub returns : goal.returns
returns c =
    ahead_from_point c.args.priority c.args.line.now c.partition_point.result c.partition_point.ensures.bound
    (IsPartitionPoint-from_clause (goes_before c.args.priority) c.args.line.now c.partition_point.result c.partition_point.ensures.partitioned
    (sound_parted c.args.priority c.args.line.now c.requires) (λ a r f h. search (rules, tests)))
