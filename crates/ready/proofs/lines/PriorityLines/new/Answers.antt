use Rattle.ready.proofs.TableLaws.{idle_whole}
use Rattle.ready.proofs.lines.PriorityLines.new.Goals as goal

pub invariant_of-result : goal.invariant_of-result
invariant_of-result c = record { whole = idle_whole c.empty.result c.empty.ensures }
