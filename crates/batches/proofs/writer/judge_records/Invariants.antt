use Rattle.std.proofs.Common.{◌≡◌, drop}
use Rattle.calls.specs.Faults.{fault}
use Rattle.batches.specs.Verdicts.{first_fault}
use Rattle.batches.proofs.writer.judge_records.Given as goal

-- the records that are left give the verdict of them all
abbrev pub invariant-loop-k : goal.invariant-loop-k
invariant-loop-k g l =
    first_fault (fault g.M.Message.reading) 0 l.records ≡ first_fault (fault g.M.Message.reading) l.k (drop l.k l.records)
