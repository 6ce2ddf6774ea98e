use Rattle.std.proofs.Common.{◌≡◌}
use Rattle.calls.specs.Faults.{fault}
use Rattle.batches.specs.Readers.{left, left_from}
use Rattle.batches.specs.Verdicts.{first_fault}
use Rattle.batches.proofs.reader.Reader.judge.Given as goal

-- the rows that are left give the verdict of them all
abbrev pub invariant-loop-index : goal.invariant-loop-index
invariant-loop-index g l =
    first_fault (fault g.M.Message.reading) l.self.row (left l.self) ≡ first_fault (fault g.M.Message.reading) l.index (left_from l.self l.index)
