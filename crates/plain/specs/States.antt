-- A plain station with the two tables that are brought to it, and the same with one part changed. Assumes nothing.
--   Exchange     whether it is open, and its line: blocks with items, or waiting tasks, never both
--   State        the station, and behind it the two tables
--   with_X v s   the state s with v for its part X
use Rattle.std.specs.Prelude.{ℕ, Bool, List, Option}
use Rattle.ready.specs.declared.task.ReadyTask.{ReadyTask}
use Rattle.plain.specs.declared.records.AlarmRecord.{AlarmRecord}
use Rattle.plain.specs.declared.records.Binding.{Binding}
use Rattle.plain.specs.declared.records.BlockRecord.{BlockRecord}
use Rattle.plain.specs.declared.records.ExchangeState.{ExchangeState}
use Rattle.plain.specs.declared.records.Holds.{Holds}
use Rattle.plain.specs.declared.records.Sizes.{Sizes}
use Rattle.plain.specs.declared.records.TaskRecord.{TaskRecord}

pub record Exchange : Type 0 where
  pub state : ExchangeState
  pub holds : Holds
  -- the first to leave in front
  pub line : List ℕ

pub record State (M : Type 0) : Type 0 where
  pub sizes : Sizes
  -- the running task, with its priority
  pub running : Option ReadyTask
  -- the ready tasks with their priorities, the next to run in front
  pub ready : List ReadyTask
  -- a record for each task
  pub tasks : List TaskRecord
  pub exchanges : List Exchange
  -- the names registered, in the order of registering
  pub names : List Binding
  -- the running alarms, in the order in which they were set
  pub alarms : List AlarmRecord
  -- for each block what it carries, the reply exchange of a request among it, and in whose hand it is
  pub blocks : List BlockRecord
  -- for each block whether it is free
  pub free : List Bool
  -- the message table: a place for each block
  pub messages : List M
  -- the tray table: a place for each task
  pub trays : List M

module _ {M : Type 0} where
  abbrev pub with_running : Option ReadyTask → State M → State M
  with_running v s =
      record { sizes = s.sizes; running = v; ready = s.ready; tasks = s.tasks; exchanges = s.exchanges; names = s.names; alarms = s.alarms; blocks = s.blocks; free = s.free; messages = s.messages; trays = s.trays }

  abbrev pub with_ready : List ReadyTask → State M → State M
  with_ready v s =
      record { sizes = s.sizes; running = s.running; ready = v; tasks = s.tasks; exchanges = s.exchanges; names = s.names; alarms = s.alarms; blocks = s.blocks; free = s.free; messages = s.messages; trays = s.trays }

  abbrev pub with_tasks : List TaskRecord → State M → State M
  with_tasks v s =
      record { sizes = s.sizes; running = s.running; ready = s.ready; tasks = v; exchanges = s.exchanges; names = s.names; alarms = s.alarms; blocks = s.blocks; free = s.free; messages = s.messages; trays = s.trays }

  abbrev pub with_exchanges : List Exchange → State M → State M
  with_exchanges v s =
      record { sizes = s.sizes; running = s.running; ready = s.ready; tasks = s.tasks; exchanges = v; names = s.names; alarms = s.alarms; blocks = s.blocks; free = s.free; messages = s.messages; trays = s.trays }

  abbrev pub with_names : List Binding → State M → State M
  with_names v s =
      record { sizes = s.sizes; running = s.running; ready = s.ready; tasks = s.tasks; exchanges = s.exchanges; names = v; alarms = s.alarms; blocks = s.blocks; free = s.free; messages = s.messages; trays = s.trays }

  abbrev pub with_alarms : List AlarmRecord → State M → State M
  with_alarms v s =
      record { sizes = s.sizes; running = s.running; ready = s.ready; tasks = s.tasks; exchanges = s.exchanges; names = s.names; alarms = v; blocks = s.blocks; free = s.free; messages = s.messages; trays = s.trays }

  abbrev pub with_blocks : List BlockRecord → State M → State M
  with_blocks v s =
      record { sizes = s.sizes; running = s.running; ready = s.ready; tasks = s.tasks; exchanges = s.exchanges; names = s.names; alarms = s.alarms; blocks = v; free = s.free; messages = s.messages; trays = s.trays }

  abbrev pub with_free : List Bool → State M → State M
  with_free v s =
      record { sizes = s.sizes; running = s.running; ready = s.ready; tasks = s.tasks; exchanges = s.exchanges; names = s.names; alarms = s.alarms; blocks = s.blocks; free = v; messages = s.messages; trays = s.trays }

  abbrev pub with_messages : List M → State M → State M
  with_messages v s =
      record { sizes = s.sizes; running = s.running; ready = s.ready; tasks = s.tasks; exchanges = s.exchanges; names = s.names; alarms = s.alarms; blocks = s.blocks; free = s.free; messages = v; trays = s.trays }

  abbrev pub with_trays : List M → State M → State M
  with_trays v s =
      record { sizes = s.sizes; running = s.running; ready = s.ready; tasks = s.tasks; exchanges = s.exchanges; names = s.names; alarms = s.alarms; blocks = s.blocks; free = s.free; messages = s.messages; trays = v }
