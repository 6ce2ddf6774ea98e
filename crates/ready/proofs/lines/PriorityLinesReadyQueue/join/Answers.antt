use Rattle.std.proofs.Common.{sym, ap, ◌∙◌, subst, arith}
use Rattle.ready.specs.Tables.{IsWhole, line_of}
use Rattle.ready.proofs.TableLaws.{joins}
use Rattle.ready.proofs.lines.PriorityLinesReadyQueue.join.Goals as goal

pub push-requires : goal.push-requires
push-requires c =
    (joins c.args.self.now.table c.args.self.now.whole (omega arith) (omega arith) c.args.task (omega arith) (omega arith) (sym c.if-lists.ensures)).can

pub invariant_of-self : goal.invariant_of-self
invariant_of-self c =
    let j = joins c.args.self.now.table c.args.self.now.whole (omega arith) (omega arith) c.args.task (omega arith) (omega arith) (sym c.if-lists.ensures) in
    record { whole = subst IsWhole (sym c.push.ensures) j.whole }

pub returns-clause-after : goal.returns-clause-after
returns-clause-after c =
    let j = joins c.args.self.now.table c.args.self.now.whole (omega arith) (omega arith) c.args.task (omega arith) (omega arith) (sym c.if-lists.ensures) in
    ap line_of c.push.ensures ∙ j.line
