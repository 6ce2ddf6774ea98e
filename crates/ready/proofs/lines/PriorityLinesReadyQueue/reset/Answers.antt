use Rattle.ready.proofs.TableLaws.{idle_whole}
use Rattle.ready.proofs.lines.PriorityLinesReadyQueue.reset.Goals as goal

pub invariant_of-self : goal.invariant_of-self
invariant_of-self c = record { whole = idle_whole c.clear.new.self c.clear.ensures.idle }
