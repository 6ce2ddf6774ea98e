use Rattle.std.proofs.Common.{◌∙◌, ap₂}
use Rattle.ready.specs.Settling.{best_runs}
use Rattle.ready.proofs.SettleLaws.{settled_best}
use Rattle.ready.proofs.settle.settle.Goals as goal

pub returns-clause-best : goal.returns-clause-best
returns-clause-best g c may =
    ap₂ best_runs c.preempt.ensures.after c.preempt.ensures.answer
    ∙ settled_best (g.Q.ReadyQueue.line c.args.queue.now) c.args.running (g.met.Q.ReadyQueue.is_sound c.args.queue.now) may
