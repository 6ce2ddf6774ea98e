use Rattle.std.proofs.Common.{◌≡◌, ◌*◌, take}
use Rattle.std.specs.List.{flat_map, AllByRecursion}
use Rattle.batches.specs.Layout.{row_bytes}
use Rattle.batches.specs.Writing.{Fit}
use Rattle.batches.proofs.writer.write_rows.Given as goal

abbrev pub invariant-loop-k : goal.invariant-loop-k
invariant-loop-k l = record {
  after : take (24 * l.k) l.out ≡ flat_map row_bytes (take l.k l.records);
  fit : AllByRecursion Fit (take l.k l.records);
}
