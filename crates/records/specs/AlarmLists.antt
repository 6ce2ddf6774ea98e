-- The running alarms as a list, and where one stands. Assumes nothing.
--   alarms_of a       the running alarms, in the order in which they were set
--   alarm_place b l   where the alarm of block b stands in l, or none
use Rattle.std.specs.Prelude.{ℕ, List, Option, nat_eq, position}
use Rattle.fixed.specs.FixedVecs.{elements}
use Rattle.plain.specs.declared.records.AlarmRecord.{AlarmRecord}
use Rattle.records.specs.declared.alarms.Alarms.{Alarms}

abbrev pub alarms_of : Alarms → List AlarmRecord
alarms_of a = elements a.alarms

abbrev pub alarm_place : ℕ → List AlarmRecord → Option ℕ
alarm_place b l = position (λ a. nat_eq b a.block) l
