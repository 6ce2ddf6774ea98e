use Rattle.std.proofs.Common.{Some, sym, ap, ◌∙◌, subst, arith}
use Rattle.ready.specs.Order.{first, rest}
use Rattle.ready.specs.Tables.{IsWhole, line_of}
use Rattle.ready.proofs.TableLaws.{empty_line, serves}
use Rattle.ready.proofs.lines.PriorityLinesReadyQueue.take_best.Goals as goal

pub returns-in_err-priority : goal.returns-in_err-priority
returns-in_err-priority c =
    let none = empty_line c.args.self.now.table c.args.self.now.whole (omega arith) c.in_err-priority.ensures in
    record { answer = c.from_residual.ensures ∙ sym (ap first none); after = none ∙ sym (ap rest none) }

pub pull-requires : goal.pull-requires
pull-requires c =
    (serves c.args.self.now.table c.args.self.now.whole (omega arith) c.in_ok-priority.priority c.in_ok-priority.ensures).can

pub invariant_of-self : goal.invariant_of-self
invariant_of-self c =
    let s = serves c.args.self.now.table c.args.self.now.whole (omega arith) c.in_ok-priority.priority c.in_ok-priority.ensures in
    record { whole = subst IsWhole (sym c.pull.ensures.after) s.whole }

pub returns : goal.returns
returns c =
    let s = serves c.args.self.now.table c.args.self.now.whole (omega arith) c.in_ok-priority.priority c.in_ok-priority.ensures in
    record {
      answer = ap Some c.pull.ensures.answer ∙ sym (ap first s.line);
      after = ap line_of c.pull.ensures.after ∙ sym (ap rest s.line);
    }
