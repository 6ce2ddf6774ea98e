-- What a sorted line holds. Assumes nothing.
--   line_in q   the ready tasks, the one to run next in front
use Rattle.std.specs.Prelude.{List}
use Rattle.fixed.specs.FixedVecs.{elements}
use Rattle.ready.specs.declared.sorted.SortedLine.{SortedLine}
use Rattle.ready.specs.declared.task.ReadyTask.{ReadyTask}

abbrev pub line_in : SortedLine → List ReadyTask
line_in q = elements q.line
