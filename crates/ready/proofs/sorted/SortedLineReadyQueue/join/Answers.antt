use Rattle.std.proofs.Common.{arith}
use Rattle.fixed.specs.FixedVecs.{elements}
use Rattle.ready.proofs.SortLaws.{joins}
use Rattle.ready.proofs.sorted.SortedLineReadyQueue.join.Goals as goal

pub invariant_of-self : goal.invariant_of-self
invariant_of-self c =
    record {
      in_order =
          (joins c.args.task.task c.args.task.priority c.place-place.result (elements c.args.self.now.line) c.as_slice-line.result.now
          (elements c.insert.new.self) c.args.self.now.in_order (omega arith) (omega arith) c.as_slice-line.ensures.value c.if-lists.ensures
          c.place-place.ensures c.insert.ensures).1;
    }

pub returns-clause-after : goal.returns-clause-after
returns-clause-after c =
    (joins c.args.task.task c.args.task.priority c.place-place.result (elements c.args.self.now.line) c.as_slice-line.result.now
    (elements c.insert.new.self) c.args.self.now.in_order (omega arith) (omega arith) c.as_slice-line.ensures.value c.if-lists.ensures
    c.place-place.ensures c.insert.ensures).0
