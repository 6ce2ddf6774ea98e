-- What the priority lines hold. Assumes nothing.
--   line_in q   the ready tasks, the one to run next in front
use Rattle.std.specs.Prelude.{List}
use Rattle.ready.specs.Tables.{line_of}
use Rattle.ready.specs.declared.lines.PriorityLines.{PriorityLines}
use Rattle.ready.specs.declared.task.ReadyTask.{ReadyTask}

abbrev pub line_in : PriorityLines → List ReadyTask
line_in q = line_of q.table
