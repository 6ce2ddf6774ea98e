-- Why a call is refused: for each number a reason in the words of its rule, and the least that holds. Assumes nothing.
--   task_call c        a call of the running task, one of 8 to 18
--   exchange_named c   the exchange whose number stands in the call and which has to be open: in any call but Open
--   needs_block s c    the call takes a block from the pool
--   is_bound s e       something is bound to the exchange
--   holds r s c        the reason of refusal r holds for call c
--   refusal_of s c     the least refusal whose reason holds, or none
use Rattle.std.specs.Prelude.{ℕ, Bool, false, cond, not, ◌&&◌, ◌||◌, List, [], ◌∷◌, length, is_some, Some, None, count_by, Option, ◌==◌, nat_le}
use Rattle.messages.specs.Names.{service_name}
use Rattle.calls.specs.Codes.{code_number, uses}
use Rattle.calls.specs.declared.code.CallCode.TheVariants as code
use Rattle.calls.specs.declared.refusal.Refusal.{Refusal}
use Rattle.calls.specs.declared.refusal.Refusal.TheVariants as refusal
use Rattle.ready.specs.declared.task.ReadyTask.{ReadyTask}
use Rattle.plain.specs.Calls.{Call, among, code_in, is, record_of}
use Rattle.plain.specs.Lookups.{alarm_of, bound_alarms, bound_items, bound_names, bound_replies, bound_tasks, exchange_at, exchange_of, first_item, first_waiting, in_hand, is_number, is_open, live}
use Rattle.plain.specs.States.{State}

-- ---- what a call names

abbrev pub task_call : Call → Bool
task_call c = nat_le 8 (code_number (code_in c))

abbrev pub n1 : Call → ℕ
n1 c = (record_of c).n1

abbrev pub n2 : Call → ℕ
n2 c = (record_of c).n2

abbrev pub n3 : Call → ℕ
n3 c = (record_of c).n3

abbrev pub name : Call → List ℕ
name c = (record_of c).name

abbrev pub message : Call → List ℕ
message c = (record_of c).message

abbrev pub exchange_named : Call → Option ℕ
exchange_named c =
    cond (is code.Move c) (Some (n2 c))
    (cond (among (code.Close ∷ code.Register ∷ code.Post ∷ code.Send ∷ code.Wait ∷ code.Check ∷ code.Request ∷ code.Alarm ∷ []) c)
    (Some (n1 c)) None)

-- whether it is there and passes the test
abbrev pub holds_of : {A : Type 0} → (A → Bool) → Option A → Bool
holds_of p None = false
holds_of p (Some a) = p a

abbrev pub any_free : List Bool → Bool
any_free [] = false
any_free (b ∷ bs) = b || any_free bs

abbrev pub positive : ℕ → Bool
positive n = not (n == 0)

abbrev pub above_31 : ℕ → Bool
above_31 p = nat_le 32 p

-- how many names can be registered
abbrev pub register_size : ℕ
register_size = 16

-- 255 stands for none
abbrev pub task_of : Option ReadyTask → ℕ
task_of None = 255
task_of (Some x) = x.task

-- ---- the reasons

-- 7: a name that the call uses is not a service name
abbrev pub bad_name : Call → Bool
bad_name c = (uses (code_in c)).name && not (service_name (name c))

-- 8: a message that the call uses is not one of the station's kind
abbrev pub bad_message : {M : Type 0} → (List ℕ → Option M) → Call → Bool
bad_message reading c = (uses (code_in c)).message && not (is_some (reading (message c)))

module _ {M : Type 0} (s : State M) where
  abbrev pub past_tasks : ℕ → Bool
  past_tasks t = nat_le s.sizes.tasks t

  abbrev pub past_exchanges : ℕ → Bool
  past_exchanges e = nat_le s.sizes.exchanges e

  abbrev pub past_blocks : ℕ → Bool
  past_blocks b = nat_le s.sizes.blocks b

  -- the running task, which makes the calls 8 to 18
  abbrev pub caller : ℕ
  caller = task_of s.running

  -- how many requests the task has in hand
  abbrev pub held_by : ℕ → ℕ
  held_by t = count_by (λ r. is_number t r.holder) s.blocks

  abbrev pub is_bound : ℕ → Bool
  is_bound e =
      positive (bound_items s e)
      || (positive (bound_tasks s e)
      || (positive (bound_alarms s e)
      || (positive (bound_names s e)
      || positive (bound_replies s e))))

  -- Post and Send need a block where no task waits, Request and Alarm in every case
  abbrev pub needs_block : Call → Bool
  needs_block c =
      cond (among (code.Post ∷ code.Send ∷ []) c) (not (is_some (first_waiting s (n1 c))))
      (among (code.Request ∷ code.Alarm ∷ []) c)

  -- 2: a brought table is not as long as the station's size
  abbrev pub wrong_tables : Bool
  wrong_tables = not (length s.messages == s.sizes.blocks) || not (length s.trays == s.sizes.tasks)

  -- 9: a task's call while none runs
  abbrev pub none_running : Call → Bool
  none_running c = task_call c && not (is_some s.running)

  -- 10: a task, an exchange or a block is not below its size, a priority is above 31, or the ticks are 0
  abbrev pub out_of_range : Call → Bool
  out_of_range c =
      cond (is code.Start c) (past_tasks (n1 c) || above_31 (n2 c))
      (cond (is code.Move c) (past_blocks (n1 c) || past_exchanges (n2 c))
      (cond (is code.Alarm c) (past_exchanges (n1 c) || n3 c == 0)
      (cond (is code.Priority c) (above_31 (n1 c))
      (cond (among (code.Respond ∷ code.Cancel ∷ []) c) (past_blocks (n1 c))
      (cond (is code.Open c) (past_exchanges (n1 c))
      (holds_of past_exchanges (exchange_named c)))))))

  -- 11: Start of a live task, Open of an open exchange, or Register of a name that is registered
  abbrev pub already_there : Call → Bool
  already_there c =
      cond (is code.Start c) (live s (n1 c))
      (cond (is code.Open c) (is_open (exchange_at s (n1 c)).state)
      (is code.Register c && is_some (exchange_of s (name c))))

  -- 12: an exchange that the call names is closed. One out of range is none
  abbrev pub named_is_closed : Call → Bool
  named_is_closed c = holds_of (λ e. not (past_exchanges e) && not (is_open (exchange_at s e).state)) (exchange_named c)

  -- 13: Strike or Request of a name that is not registered
  abbrev pub unknown_name : Call → Bool
  unknown_name c = among (code.Strike ∷ code.Request ∷ []) c && not (is_some (exchange_of s (name c)))

  -- 14: Close of an exchange to which something is bound
  abbrev pub closes_bound : Call → Bool
  closes_bound c = is code.Close c && is_bound (n1 c)

  -- 15: Register while the register is full
  abbrev pub register_full : Call → Bool
  register_full c = is code.Register c && nat_le register_size (length s.names)

  -- 16: a block is needed and none is free
  abbrev pub no_free_block : Call → Bool
  no_free_block c = needs_block c && not (any_free s.free)

  -- 17: Check finds no item. An exchange out of range is none
  abbrev pub no_item : Call → Bool
  no_item c = is code.Check c && (not (past_exchanges (n1 c)) && not (is_some (first_item s (n1 c))))

  -- 18: Respond or Move of no request in the caller's hand, or Cancel of no running alarm
  abbrev pub not_held : Call → Bool
  not_held c =
      cond (among (code.Respond ∷ code.Move ∷ []) c) (not (in_hand s caller (n1 c)))
      (is code.Cancel c && not (is_some (alarm_of s (n1 c))))

  -- 19: End with a request in hand
  abbrev pub ends_holding : Call → Bool
  ends_holding c = is code.End c && positive (held_by caller)

-- ---- which is given

-- 1 and 3 to 6 are reasons against a draft, a batch or a row, and against no call by itself
abbrev pub holds : {M : Type 0} → (List ℕ → Option M) → State M → Call → Refusal → Bool
holds reading s c refusal.DraftSize = false
holds reading s c refusal.TableLength = wrong_tables s
holds reading s c refusal.BatchShape = false
holds reading s c refusal.ShortBuffer = false
holds reading s c refusal.UnknownCode = false
holds reading s c refusal.UnusedField = false
holds reading s c refusal.BadName = bad_name c
holds reading s c refusal.BadMessage = bad_message reading c
holds reading s c refusal.NoneRunning = none_running s c
holds reading s c refusal.OutOfRange = out_of_range s c
holds reading s c refusal.AlreadyThere = already_there s c
holds reading s c refusal.ExchangeClosed = named_is_closed s c
holds reading s c refusal.UnknownName = unknown_name s c
holds reading s c refusal.ExchangeBound = closes_bound s c
holds reading s c refusal.RegisterFull = register_full s c
holds reading s c refusal.NoFreeBlock = no_free_block s c
holds reading s c refusal.NoItem = no_item s c
holds reading s c refusal.NotHeld = not_held s c
holds reading s c refusal.RequestInHand = ends_holding s c

-- all, by rising number
abbrev pub all_refusals : List Refusal
all_refusals =
    refusal.DraftSize ∷ refusal.TableLength ∷ refusal.BatchShape ∷ refusal.ShortBuffer ∷ refusal.UnknownCode ∷ refusal.UnusedField
    ∷ refusal.BadName ∷ refusal.BadMessage ∷ refusal.NoneRunning ∷ refusal.OutOfRange ∷ refusal.AlreadyThere ∷ refusal.ExchangeClosed
    ∷ refusal.UnknownName ∷ refusal.ExchangeBound ∷ refusal.RegisterFull ∷ refusal.NoFreeBlock ∷ refusal.NoItem ∷ refusal.NotHeld
    ∷ refusal.RequestInHand ∷ []

abbrev pub first_holding : (Refusal → Bool) → List Refusal → Option Refusal
first_holding p [] = None
first_holding p (r ∷ rs) = cond (p r) (Some r) (first_holding p rs)

abbrev pub refusal_of : {M : Type 0} → (List ℕ → Option M) → State M → Call → Option Refusal
refusal_of reading s c = first_holding (holds reading s c) all_refusals
