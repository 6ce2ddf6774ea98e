use Rattle.std.proofs.Common.{◌∙◌, arith}
use Rattle.ready.proofs.TableLaws.{best_is}
use Rattle.ready.proofs.lines.PriorityLinesReadyQueue.best.Goals as goal

pub returns : goal.returns
returns c = c.best_line.ensures ∙ best_is c.args.self.now.table c.args.self.now.whole (omega arith)
