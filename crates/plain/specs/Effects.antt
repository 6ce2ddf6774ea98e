-- What each accepted call does, before it settles, and what it answers. Assumes nothing.
--   Outcome           the answer, and the state after
--   effect s c n      the outcome of the accepted call c, where n is the number that the pool hands out
use Rattle.std.specs.Prelude.{ℕ, ◌-◌, Bool, cond, List, [], ◌∷◌, ◌++◌, length, Some, None, Option, ◌==◌, nat_le, nat_lt}
use Rattle.std.specs.List.{slice_get}
use Rattle.messages.specs.Bytes.{same_bytes}
use Rattle.ready.specs.Order.{joined, pair}
use Rattle.plain.specs.Calls.{Call}
use Rattle.plain.specs.Calls as call
use Rattle.plain.specs.Lookups.{block_at, exchange_at, exchange_of, first_item, reply_to, task_at}
use Rattle.plain.specs.Moves.{first_leaves, hands_out, item_of, out_of_hand, post, put, returns, steps_down, takes, with_exchange, with_task, with_waiting, yields}
use Rattle.plain.specs.Reasons.{caller}
use Rattle.plain.specs.States.{State, with_alarms, with_names, with_ready, with_running}
use Rattle.plain.specs.declared.answer.Answer.{Answer}
use Rattle.plain.specs.declared.answer.Answer.TheVariants as answer
use Rattle.plain.specs.declared.records.AlarmRecord.{AlarmRecord}
use Rattle.plain.specs.declared.records.Binding.{Binding}
use Rattle.plain.specs.declared.records.Carries.TheVariants as carries
use Rattle.plain.specs.declared.records.ExchangeState.TheVariants.{Closed, Open}
use Rattle.plain.specs.declared.records.Holds.TheVariants.{Items}
use Rattle.plain.specs.declared.records.TrayItem.{TrayItem}

pub record Outcome (M : Type 0) : Type 0 where
  pub answer : Answer M
  pub after : State M

-- ---- names and alarms

abbrev pub without_name : List ℕ → List Binding → List Binding
without_name name [] = []
without_name name (b ∷ bs) = cond (same_bytes b.name name) bs (b ∷ without_name name bs)

abbrev pub without_alarm : ℕ → List AlarmRecord → List AlarmRecord
without_alarm b [] = []
without_alarm b (a ∷ as') = cond (b == a.block) as' (a ∷ without_alarm b as')

-- as many alarms as there are blocks at most; no run from an opening meets it
abbrev pub alarm_capacity : ℕ
alarm_capacity = 256

-- the alarms with one more, set last
abbrev pub with_alarm : AlarmRecord → List AlarmRecord → List AlarmRecord
with_alarm a as' = cond (nat_lt (length as') alarm_capacity) (as' ++ a ∷ []) as'

-- a Tick takes the last tick from it
abbrev pub is_due : AlarmRecord → Bool
is_due a = nat_le a.ticks 1

abbrev pub lowered : AlarmRecord → AlarmRecord
lowered a = record { block = a.block; exchange = a.exchange; ticks = a.ticks - 1 }

-- those that are due, in the order in which they were set, and the others with one tick less
abbrev pub due : List AlarmRecord → List AlarmRecord
due [] = []
due (a ∷ as') = cond (is_due a) (a ∷ due as') (due as')

abbrev pub still_running : List AlarmRecord → List AlarmRecord
still_running [] = []
still_running (a ∷ as') = cond (is_due a) (still_running as') (lowered a ∷ still_running as')

module _ {M : Type 0} where
  abbrev pub done : State M → Outcome M
  done s = record { answer = answer.Done; after = s }

  -- ---- the owner's calls

  abbrev pub start : ℕ → ℕ → State M → State M
  start t p s = with_ready (joined t p s.ready) (with_task t (record { priority = p; tray = None }) s)

  abbrev pub open_exchange : ℕ → State M → State M
  open_exchange e s = with_exchange e (record { state = Open; holds = Items; line = [] }) s

  abbrev pub close_exchange : ℕ → State M → State M
  close_exchange e s = with_exchange e (record { state = Closed; holds = (exchange_at s e).holds; line = (exchange_at s e).line }) s

  abbrev pub register : ℕ → List ℕ → State M → State M
  register e name s = with_names (s.names ++ record { name = name; exchange = e } ∷ []) s

  abbrev pub strike : List ℕ → State M → State M
  strike name s = with_names (without_name name s.names) s

  -- where the bytes are no message, the call is refused
  abbrev pub post_read : ℕ → Option M → ℕ → State M → State M
  post_read e None n s = s
  post_read e (Some m) n s = post e m n s

  abbrev pub put_due : List AlarmRecord → State M → State M
  put_due [] s = s
  put_due (a ∷ as') s = put_due as' (put a.exchange a.block s)

  abbrev pub tick : State M → State M
  tick s = yields (put_due (due s.alarms) (with_alarms (still_running s.alarms) s))

  -- ---- the running task's calls

  abbrev pub takes_first : ℕ → ℕ → ℕ → State M → Outcome M
  takes_first t e b s =
      record { answer = answer.Took (item_of b (block_at s b).carries).kind; after = takes t b (first_leaves e s) }

  abbrev pub waits : ℕ → ℕ → State M → State M
  waits t e s = with_running None (with_exchange e (with_waiting t (exchange_at s e)) s)

  abbrev pub wait : Option ℕ → ℕ → State M → Outcome M
  wait None e s = done (waits (caller s) e s)
  wait (Some b) e s = takes_first (caller s) e b s

  -- where there is no item, the call is refused
  abbrev pub check : Option ℕ → ℕ → State M → Outcome M
  check None e s = done s
  check (Some b) e s = takes_first (caller s) e b s

  -- where the name is not registered, or the bytes are no message, the call is refused
  abbrev pub request : ℕ → Option ℕ → Option M → ℕ → State M → State M
  request r None m n s = s
  request r (Some e) None n s = s
  request r (Some e) (Some m) n s = put e n (hands_out n (carries.Request r) m s)

  -- where the block carries no request, the call is refused
  abbrev pub respond : Option ℕ → ℕ → ℕ → State M → State M
  respond None b status s = s
  respond (Some r) b status s = put r b (out_of_hand b (carries.Reply status) s)

  abbrev pub move : ℕ → ℕ → State M → State M
  move b e s = put e b (out_of_hand b (block_at s b).carries s)

  abbrev pub alarm : ℕ → ℕ → Option M → ℕ → State M → State M
  alarm e ticks None n s = s
  alarm e ticks (Some m) n s =
      with_alarms (with_alarm (record { block = n; exchange = e; ticks = ticks }) s.alarms) (hands_out n carries.Alarm m s)

  abbrev pub cancel : ℕ → State M → State M
  cancel b s = returns b (with_alarms (without_alarm b s.alarms) s)

  abbrev pub change_priority : ℕ → State M → State M
  change_priority p s =
      steps_down
      (with_running (Some (pair (caller s) p)) (with_task (caller s) (record { priority = p; tray = (task_at s (caller s)).tray }) s))

  abbrev pub end : State M → State M
  end s = with_running None s

  -- an empty tray tells nothing
  abbrev pub shown : Option TrayItem → Option M → Answer M
  shown None m = answer.Done
  shown (Some i) None = answer.Done
  shown (Some i) (Some m) = answer.Tray i m

  abbrev pub tray : State M → Answer M
  tray s = shown (task_at s (caller s)).tray (slice_get s.trays (caller s))

  -- ---- all 18

  module _ (reading : List ℕ → Option M) where
    abbrev pub effect : State M → Call → ℕ → Outcome M
    effect s (call.Start t p) n = done (start t p s)
    effect s (call.Open e) n = done (open_exchange e s)
    effect s (call.Close e) n = done (close_exchange e s)
    effect s (call.Register e name) n = done (register e name s)
    effect s (call.Strike name) n = done (strike name s)
    effect s (call.Post e message) n = done (post_read e (reading message) n s)
    effect s call.Tick n = done (tick s)
    effect s (call.Send e message) n = done (post_read e (reading message) n s)
    effect s (call.Wait e) n = wait (first_item s e) e s
    effect s (call.Check e) n = check (first_item s e) e s
    effect s (call.Request e name message) n =
        record { answer = answer.Block n; after = request e (exchange_of s name) (reading message) n s }
    effect s (call.Respond b status) n = done (respond (reply_to s b) b status s)
    effect s (call.Move b e) n = done (move b e s)
    effect s (call.Alarm e ticks message) n = record { answer = answer.Block n; after = alarm e ticks (reading message) n s }
    effect s (call.Cancel b) n = done (cancel b s)
    effect s (call.Priority p) n = done (change_priority p s)
    effect s call.End n = done (end s)
    effect s call.Tray n = record { answer = tray s; after = s }
