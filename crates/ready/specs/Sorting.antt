-- Where a pair goes in a sorted line. Assumes nothing.
--   goes_before p x   x runs before one that joins with priority p
--   ahead p l         how many in front run before one that joins with priority p
use Rattle.std.specs.Prelude.{ℕ, Bool, List, nat_le}
use Rattle.std.specs.List.{prefix_len}
use Rattle.ready.specs.declared.task.ReadyTask.{ReadyTask}

abbrev pub goes_before : ℕ → ReadyTask → Bool
goes_before p x = nat_le x.priority p

abbrev pub ahead : ℕ → List ReadyTask → ℕ
ahead p l = prefix_len (goes_before p) l
