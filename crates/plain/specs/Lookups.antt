-- What can be asked of a state, and where things are. Assumes nothing.
--   exchange_at s e, task_at s t, block_at s b   the record; past the end a closed exchange, a task of priority 0, a block with a message
--   items x, waiting x      the blocks with items, or the tasks, in an exchange's line, the first to leave in front
--   first_waiting s e, first_item s e   the first of them, or none
--   runs s t                task t runs
--   TaskPlace, place_of s t where the task is
--   live s t                it is running, ready or waiting
--   exchange_of s name      the exchange that the name is tied to, or none
--   alarm_of s b            the running alarm of the block, or none
--   reply_to s b            the reply exchange of the unanswered request that the block carries, or none
--   in_hand s t b           the block is in the hand of task t
--   bound_X s e             how many items, tasks, alarms, names or owed replies are bound to the exchange
use Rattle.std.specs.Prelude.{ℕ, ◌+◌, Bool, true, false, cond, ◌||◌, List, [], ◌∷◌, length, Some, None, count_by, Option, ◌==◌, nat_eq, slice_index_or}
use Rattle.messages.specs.Bytes.{same_bytes}
use Rattle.ready.specs.Order.{listed}
use Rattle.ready.specs.declared.task.ReadyTask.{ReadyTask}
use Rattle.plain.specs.States.{Exchange, State}
use Rattle.plain.specs.declared.records.AlarmRecord.{AlarmRecord}
use Rattle.plain.specs.declared.records.Binding.{Binding}
use Rattle.plain.specs.declared.records.BlockRecord.{BlockRecord}
use Rattle.plain.specs.declared.records.Carries.{Carries}
use Rattle.plain.specs.declared.records.Carries.TheVariants as carries
use Rattle.plain.specs.declared.records.ExchangeState.{ExchangeState}
use Rattle.plain.specs.declared.records.ExchangeState.TheVariants.{Closed, Open}
use Rattle.plain.specs.declared.records.Holds.{Holds}
use Rattle.plain.specs.declared.records.Holds.TheVariants.{Items, Tasks}
use Rattle.plain.specs.declared.records.TaskRecord.{TaskRecord}

-- ---- exchanges

abbrev pub closed_exchange : Exchange
closed_exchange = record { state = Closed; holds = Items; line = [] }

abbrev pub items_in : Holds → List ℕ → List ℕ
items_in Items l = l
items_in Tasks l = []

abbrev pub tasks_in : Holds → List ℕ → List ℕ
tasks_in Items l = []
tasks_in Tasks l = l

abbrev pub items : Exchange → List ℕ
items x = items_in x.holds x.line

abbrev pub waiting : Exchange → List ℕ
waiting x = tasks_in x.holds x.line

abbrev pub first_of : List ℕ → Option ℕ
first_of [] = None
first_of (n ∷ ns) = Some n

abbrev pub is_open : ExchangeState → Bool
is_open Closed = false
is_open Open = true

abbrev pub occurrences : ℕ → List ℕ → ℕ
occurrences n l = count_by (nat_eq n) l

abbrev pub contains : ℕ → List ℕ → Bool
contains n [] = false
contains n (x ∷ xs) = n == x || contains n xs

-- ---- records

abbrev pub no_task : TaskRecord
no_task = record { priority = 0; tray = None }

abbrev pub idle_block : BlockRecord
idle_block = record { carries = carries.Message; holder = None }

-- ---- places of a task

pub data TaskPlace : Type 0 where
  Running : TaskPlace
  Ready : TaskPlace
  WaitingAt : (exchange : ℕ) → TaskPlace
  Absent : TaskPlace

abbrev pub not_absent : TaskPlace → Bool
not_absent Running = true
not_absent Ready = true
not_absent (WaitingAt e) = true
not_absent Absent = false

-- the first of these exchanges, counted from e, at which the task waits
abbrev pub waiting_place : ℕ → ℕ → List Exchange → TaskPlace
waiting_place t e [] = Absent
waiting_place t e (x ∷ xs) = cond (contains t (waiting x)) (WaitingAt e) (waiting_place t (e + 1) xs)

abbrev pub is_task : ℕ → Option ReadyTask → Bool
is_task t None = false
is_task t (Some x) = t == x.task

-- ---- names, alarms, requests

abbrev pub tied_in : List ℕ → List Binding → Option ℕ
tied_in name [] = None
tied_in name (b ∷ bs) = cond (same_bytes b.name name) (Some b.exchange) (tied_in name bs)

abbrev pub alarm_in : ℕ → List AlarmRecord → Option AlarmRecord
alarm_in b [] = None
alarm_in b (a ∷ as') = cond (b == a.block) (Some a) (alarm_in b as')

abbrev pub owed_by : Carries → Option ℕ
owed_by carries.Message = None
owed_by (carries.Request e) = Some e
owed_by (carries.Reply status) = None
owed_by carries.Alarm = None

-- whether it is there and equals n
abbrev pub is_number : ℕ → Option ℕ → Bool
is_number n None = false
is_number n (Some k) = n == k

module _ {M : Type 0} (s : State M) where
  abbrev pub exchange_at : ℕ → Exchange
  exchange_at e = slice_index_or s.exchanges e closed_exchange

  abbrev pub task_at : ℕ → TaskRecord
  task_at t = slice_index_or s.tasks t no_task

  abbrev pub block_at : ℕ → BlockRecord
  block_at b = slice_index_or s.blocks b idle_block

  abbrev pub first_waiting : ℕ → Option ℕ
  first_waiting e = first_of (waiting (exchange_at e))

  abbrev pub first_item : ℕ → Option ℕ
  first_item e = first_of (items (exchange_at e))

  abbrev pub runs : ℕ → Bool
  runs t = is_task t s.running

  abbrev pub place_of : ℕ → TaskPlace
  place_of t = cond (runs t) Running (cond (listed t s.ready) Ready (waiting_place t 0 s.exchanges))

  abbrev pub live : ℕ → Bool
  live t = not_absent (place_of t)

  abbrev pub exchange_of : List ℕ → Option ℕ
  exchange_of name = tied_in name s.names

  abbrev pub alarm_of : ℕ → Option AlarmRecord
  alarm_of b = alarm_in b s.alarms

  abbrev pub reply_to : ℕ → Option ℕ
  reply_to b = owed_by (block_at b).carries

  abbrev pub in_hand : ℕ → ℕ → Bool
  in_hand t b = is_number t (block_at b).holder

  -- ---- what is bound to an exchange

  abbrev pub bound_items : ℕ → ℕ
  bound_items e = length (items (exchange_at e))

  abbrev pub bound_tasks : ℕ → ℕ
  bound_tasks e = length (waiting (exchange_at e))

  abbrev pub bound_alarms : ℕ → ℕ
  bound_alarms e = count_by (λ a. nat_eq e a.exchange) s.alarms

  abbrev pub bound_names : ℕ → ℕ
  bound_names e = count_by (λ b. nat_eq e b.exchange) s.names

  abbrev pub bound_replies : ℕ → ℕ
  bound_replies e = count_by (λ r. is_number e (owed_by r.carries)) s.blocks
