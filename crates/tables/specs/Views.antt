-- The plain station that the tables stand for, with the two tables of messages. Assumes nothing.
--   sizes_of s                 the three sizes
--   shown marks line s ms ts   the state, where marks tells what is free in a pool, and line what stands in a queue
use Rattle.std.specs.Prelude.{Bool, List, length}
use Rattle.plain.specs.States.{State}
use Rattle.plain.specs.declared.records.Sizes.{Sizes}
use Rattle.ready.specs.declared.task.ReadyTask.{ReadyTask}
use Rattle.lines.specs.Exchanges.{exchanges_of}
use Rattle.records.specs.AlarmLists.{alarms_of}
use Rattle.records.specs.Records.{blocks_of, tasks_of}
use Rattle.records.specs.Registers.{bindings_of}
use Rattle.tables.specs.declared.tables.Tables.{Tables}

module _ {P Q : Type 0} where
  abbrev pub sizes_of : Tables P Q → Sizes
  sizes_of s = record { tasks = length (tasks_of s.tasks); exchanges = length (exchanges_of s.exchanges); blocks = length (blocks_of s.blocks) }

  abbrev pub shown : {M : Type 0} → (P → List Bool) → (Q → List ReadyTask) → Tables P Q → List M → List M → State M
  shown marks line s ms ts =
      record {
        sizes = sizes_of s;
        running = s.running;
        ready = line s.queue;
        tasks = tasks_of s.tasks;
        exchanges = exchanges_of s.exchanges;
        names = bindings_of s.register;
        alarms = alarms_of s.alarms;
        blocks = blocks_of s.blocks;
        free = marks s.pool;
        messages = ms;
        trays = ts;
      }
