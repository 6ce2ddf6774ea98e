-- How items and tasks move: put, take, settle and what they are made of. Assumes nothing.
--   line_capacity      what a line can hold; no run from an opening meets it
--   item_of b c        the item of a block that carries c, without its message
--   hands_out n c m s  the pool hands out block n: it is no longer free, carries c, and its place holds m
--   takes t b s        task t takes the item of block b
--   receives t m s     task t takes a message that no block carries
--   readied t s        task t joins the ready queue with its own priority
--   put e b s          the item of block b is put at exchange e
--   post e m n s       a message is put at exchange e, in block n where no task waits
-- The three occasions on which the running task gives way:
--   settles s          in settling, to a better one; where none runs then, the best ready one does
--   yields s           at a Tick, to one that is as good or better
--   steps_down s       in its own Priority call, to a better one
use Rattle.std.specs.Prelude.{ℕ, Bool, true, false, cond, ◌&&◌, List, [], ◌∷◌, ◌++◌, length, Some, None, Option, nat_lt, slice_set}
use Rattle.std.specs.List.{slice_get}
use Rattle.ready.specs.Order.{behind, joined, may_join}
use Rattle.ready.specs.Settling.{as_good_ready, outdone, settled}
use Rattle.ready.specs.declared.task.ReadyTask.{ReadyTask}
use Rattle.plain.specs.Lookups.{block_at, exchange_at, first_waiting, items, task_at, waiting}
use Rattle.plain.specs.States.{Exchange, State, with_blocks, with_exchanges, with_free, with_messages, with_ready, with_running, with_tasks, with_trays}
use Rattle.plain.specs.declared.records.BlockRecord.{BlockRecord}
use Rattle.plain.specs.declared.records.Carries.{Carries}
use Rattle.plain.specs.declared.records.Carries.TheVariants as carries
use Rattle.plain.specs.declared.records.Holds.TheVariants.{Items, Tasks}
use Rattle.plain.specs.declared.records.Kind.TheVariants as kind
use Rattle.plain.specs.declared.records.TaskRecord.{TaskRecord}
use Rattle.plain.specs.declared.records.TrayItem.{TrayItem}

-- ---- lines

-- as many as there are blocks at most
abbrev pub line_capacity : ℕ
line_capacity = 256

abbrev pub joins : ℕ → List ℕ → List ℕ
joins n l = cond (nat_lt (length l) line_capacity) (l ++ n ∷ []) l

abbrev pub behind_first : List ℕ → List ℕ
behind_first [] = []
behind_first (n ∷ ns) = ns

abbrev pub with_item : ℕ → Exchange → Exchange
with_item b x = record { state = x.state; holds = Items; line = joins b (items x) }

abbrev pub with_waiting : ℕ → Exchange → Exchange
with_waiting t x = record { state = x.state; holds = Tasks; line = joins t (waiting x) }

abbrev pub without_first : Exchange → Exchange
without_first x = record { state = x.state; holds = x.holds; line = behind_first x.line }

-- ---- items

-- the number of an item that is told by no block
abbrev pub no_number : ℕ
no_number = 65535

abbrev pub message_item : TrayItem
message_item = record { kind = kind.Message; number = no_number; status = 0 }

abbrev pub item_of : ℕ → Carries → TrayItem
item_of b carries.Message = message_item
item_of b (carries.Request reply) = record { kind = kind.Request; number = b; status = 0 }
item_of b (carries.Reply status) = record { kind = kind.Reply; number = b; status = status }
item_of b carries.Alarm = record { kind = kind.Alarm; number = b; status = 0 }

-- a place written with a message that was found, else left
abbrev pub written_if : {M : Type 0} → ℕ → Option M → List M → List M
written_if n None places = places
written_if n (Some m) places = slice_set places n m

-- the ready queue and the running task after the running one has given way, where the test says so. One that may not join goes on running
abbrev pub aside : (List ReadyTask → ReadyTask → Bool) → List ReadyTask → Option ReadyTask → List ReadyTask × Option ReadyTask
aside gives_way l None = (l, None)
aside gives_way l (Some x) =
    cond (gives_way l x && may_join x.task x.priority l) (behind x.task x.priority l, None) (l, Some x)

module _ {M : Type 0} where
  -- ---- parts of a state

  abbrev pub with_exchange : ℕ → Exchange → State M → State M
  with_exchange e x s = with_exchanges (slice_set s.exchanges e x) s

  abbrev pub with_task : ℕ → TaskRecord → State M → State M
  with_task t r s = with_tasks (slice_set s.tasks t r) s

  abbrev pub with_block : ℕ → BlockRecord → State M → State M
  with_block b r s = with_blocks (slice_set s.blocks b r) s

  abbrev pub with_tray : ℕ → TrayItem → State M → State M
  with_tray t i s = with_task t (record { priority = (task_at s t).priority; tray = Some i }) s

  -- ---- blocks

  abbrev pub hands_out : ℕ → Carries → M → State M → State M
  hands_out n c m s =
      with_messages (slice_set s.messages n m)
      (with_block n (record { carries = c; holder = None }) (with_free (slice_set s.free n false) s))

  abbrev pub returns : ℕ → State M → State M
  returns b s = with_free (slice_set s.free b true) s

  abbrev pub in_the_hand : ℕ → ℕ → State M → State M
  in_the_hand t b s = with_block b (record { carries = (block_at s b).carries; holder = Some t }) s

  abbrev pub out_of_hand : ℕ → Carries → State M → State M
  out_of_hand b c s = with_block b (record { carries = c; holder = None }) s

  -- ---- take

  -- a request's block is then in the task's hand, any other block is free again
  abbrev pub keeps : ℕ → ℕ → Carries → State M → State M
  keeps t b carries.Message s = returns b s
  keeps t b (carries.Request reply) s = in_the_hand t b s
  keeps t b (carries.Reply status) s = returns b s
  keeps t b carries.Alarm s = returns b s

  abbrev pub takes : ℕ → ℕ → State M → State M
  takes t b s =
      keeps t b (block_at s b).carries
      (with_trays (written_if t (slice_get s.messages b) s.trays) (with_tray t (item_of b (block_at s b).carries) s))

  abbrev pub receives : ℕ → M → State M → State M
  receives t m s = with_trays (slice_set s.trays t m) (with_tray t message_item s)

  -- ---- put

  abbrev pub readied : ℕ → State M → State M
  readied t s = with_ready (joined t (task_at s t).priority s.ready) s

  abbrev pub first_leaves : ℕ → State M → State M
  first_leaves e s = with_exchange e (without_first (exchange_at s e)) s

  abbrev pub queues : ℕ → ℕ → State M → State M
  queues e b s = with_exchange e (with_item b (exchange_at s e)) s

  abbrev pub put_to : Option ℕ → ℕ → ℕ → State M → State M
  put_to None e b s = queues e b s
  put_to (Some t) e b s = readied t (takes t b (first_leaves e s))

  abbrev pub put : ℕ → ℕ → State M → State M
  put e b s = put_to (first_waiting s e) e b s

  abbrev pub post_to : Option ℕ → ℕ → M → ℕ → State M → State M
  post_to None e m n s = queues e n (hands_out n carries.Message m s)
  post_to (Some t) e m n s = readied t (receives t m (first_leaves e s))

  abbrev pub post : ℕ → M → ℕ → State M → State M
  post e m n s = post_to (first_waiting s e) e m n s

  -- ---- which task runs

  abbrev pub with_run : List ReadyTask × Option ReadyTask → State M → State M
  with_run r s = with_running r.1 (with_ready r.0 s)

  abbrev pub settles : State M → State M
  settles s = with_run (settled s.ready s.running) s

  abbrev pub yields : State M → State M
  yields s = with_run (aside as_good_ready s.ready s.running) s

  abbrev pub steps_down : State M → State M
  steps_down s = with_run (aside outdone s.ready s.running) s
