-- The records of tasks and blocks as lists, and changed. Assumes nothing.
--   tasks_of t, blocks_of b   the records, by number
--   with_tray_item i r   a task's record with item i in its tray
--   with_priority p r    a task's record with priority p
--   started p            the record of a task that starts with priority p
--   in_hand_of t r       a block's record with the block in the hand of task t
--   carrying c           the record of a block that carries c, in nobody's hand
--   task_changed f t l, block_changed f b l   the list with one record changed by f
use Rattle.std.specs.Prelude.{ℕ, List, Some, None, slice_index_or, slice_set}
use Rattle.fixed.specs.FixedVecs.{elements}
use Rattle.plain.specs.Lookups.{idle_block, no_task}
use Rattle.plain.specs.declared.records.BlockRecord.{BlockRecord}
use Rattle.plain.specs.declared.records.Carries.{Carries}
use Rattle.plain.specs.declared.records.TaskRecord.{TaskRecord}
use Rattle.plain.specs.declared.records.TrayItem.{TrayItem}
use Rattle.records.specs.declared.blocks.Blocks.{Blocks}
use Rattle.records.specs.declared.tasks.Tasks.{Tasks}

abbrev pub tasks_of : Tasks → List TaskRecord
tasks_of t = elements t.records

abbrev pub blocks_of : Blocks → List BlockRecord
blocks_of b = elements b.records

abbrev pub with_tray_item : TrayItem → TaskRecord → TaskRecord
with_tray_item i r = record { priority = r.priority; tray = Some i }

abbrev pub with_priority : ℕ → TaskRecord → TaskRecord
with_priority p r = record { priority = p; tray = r.tray }

abbrev pub started : ℕ → TaskRecord
started p = record { priority = p; tray = None }

abbrev pub in_hand_of : ℕ → BlockRecord → BlockRecord
in_hand_of t r = record { carries = r.carries; holder = Some t }

abbrev pub carrying : Carries → BlockRecord
carrying c = record { carries = c; holder = None }

abbrev pub task_changed : (TaskRecord → TaskRecord) → ℕ → List TaskRecord → List TaskRecord
task_changed f t l = slice_set l t (f (slice_index_or l t no_task))

abbrev pub block_changed : (BlockRecord → BlockRecord) → ℕ → List BlockRecord → List BlockRecord
block_changed f b l = slice_set l b (f (slice_index_or l b idle_block))
