use Rattle.std.proofs.Common.{◌≡◌, map, take}
use Rattle.batches.specs.Layout.{code_byte}
use Rattle.batches.proofs.writer.write_codes.Given as goal

abbrev pub invariant-loop-k : goal.invariant-loop-k
invariant-loop-k l = take l.k l.out ≡ map code_byte (take l.k l.records)
