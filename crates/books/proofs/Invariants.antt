-- What is kept from step to step, in groups that name only the parts of a state that they speak of. The law of the books follows from it,
-- and by itself it is kept by every step. Assumes nothing.
--   Shape      the tables are as long as the sizes say
--   Blocks     each block is in one place; w tells how often it is on its way between two
--   Opens      nothing stands at a closed exchange, and what is bound to an exchange keeps it open
--   Asks       the unanswered requests of the run are those that blocks carry
--   Given      the alarms of the run are those that run
--   Tasks      each task is in one place; w tells how often it is on its way
--   Held       a hand is that of a started task
--   Flow       taken and waiting are put
--   Kept       all of them
use Rattle.std.proofs.Common.{◌≡◌, ℕ, ◌+◌, ◌<◌, ◌≤◌, Bool, true, false, ltb, List, [], ◌++◌, length, get_or, is_some, Some, Option}
use Rattle.std.specs.List.{slice_get, AllByRecursion}
use Rattle.pool.specs.Marks.{marked}
use Rattle.ready.specs.Order.{sound}
use Rattle.ready.specs.Settling.{best_runs}
use Rattle.ready.specs.declared.task.ReadyTask.{ReadyTask}
use Rattle.plain.specs.Effects.{effect}
use Rattle.plain.specs.Calls.{Call}
use Rattle.plain.specs.Lookups.{closed_exchange, idle_block, is_open, is_task, no_task, owed_by}
use Rattle.plain.specs.Moves.{settles}
use Rattle.plain.specs.Openings.{one_if}
use Rattle.plain.specs.States.{Exchange, State}
use Rattle.plain.specs.declared.answer.Answer.TheVariants as answer
use Rattle.plain.specs.declared.records.AlarmRecord.{AlarmRecord}
use Rattle.plain.specs.declared.records.Binding.{Binding}
use Rattle.plain.specs.declared.records.BlockRecord.{BlockRecord}
use Rattle.plain.specs.declared.records.Carries.{Carries}
use Rattle.plain.specs.declared.records.Carries.TheVariants as carries
use Rattle.plain.specs.declared.records.Sizes.{Sizes}
use Rattle.plain.specs.declared.records.TaskRecord.{TaskRecord}
use Rattle.calls.specs.declared.refusal.Refusal.{Refusal}
use Rattle.books.specs.Deeds.{Turns, alarm_given, asked, priority_given, put_at, started, taken_at, unanswered, waiting_items}
use Rattle.books.specs.Laws.{HasPriority, RunningHas, alarms_in, ready_in, tasks_waiting_in, waiting_in}
use Rattle.books.specs.Runs.{History, Step}

-- ---- shorthand

abbrev pub holder_of : List BlockRecord → ℕ → Option ℕ
holder_of bs b = (get_or bs b idle_block).holder

abbrev pub carried : List BlockRecord → ℕ → Carries
carried bs b = (get_or bs b idle_block).carries

abbrev pub owed : List BlockRecord → ℕ → Option ℕ
owed bs b = owed_by (carried bs b)

abbrev pub exchange_in : List Exchange → ℕ → Exchange
exchange_in xs e = get_or xs e closed_exchange

abbrev pub OpenIn : List Exchange → ℕ → Type 0
OpenIn xs e = is_open (exchange_in xs e).state ≡ true

-- nothing is on its way
abbrev pub none_on_way : ℕ → ℕ
none_on_way n = 0

-- ---- the groups

pub record Shape (z : Sizes) (ts : List TaskRecord) (xs : List Exchange) (bs : List BlockRecord) (fr : List Bool) : Type 0 where
  pub tasks : length ts ≡ z.tasks
  pub exchanges : length xs ≡ z.exchanges
  pub blocks : length bs ≡ z.blocks
  pub free : length fr ≡ z.blocks
  pub few_tasks : z.tasks ≤ 64
  pub few_blocks : z.blocks ≤ 256

pub record Blocks (n : ℕ) (xs : List Exchange) (as' : List AlarmRecord) (bs : List BlockRecord) (fr : List Bool) (w : ℕ → ℕ) : Type 0 where
  pub once : (b : ℕ) → one_if (marked fr b) + waiting_in b xs + alarms_in b as' + one_if (is_some (holder_of bs b)) + w b ≡ one_if (ltb b n)
  -- a block that carries a request is not free
  pub used : (b r : ℕ) → owed bs b ≡ Some r → marked fr b ≡ false
  pub alarm : (b : ℕ) → 0 < alarms_in b as' → carried bs b ≡ carries.Alarm
  -- what is in a hand is a request
  pub hand : (b t : ℕ) → holder_of bs b ≡ Some t → is_some (owed bs b) ≡ true

pub record Opens (xs : List Exchange) (ns : List Binding) (as' : List AlarmRecord) (bs : List BlockRecord) : Type 0 where
  pub closed : (e : ℕ) → is_open (exchange_in xs e).state ≡ false → (exchange_in xs e).line ≡ []
  pub names : AllByRecursion (λ b. OpenIn xs b.exchange) ns
  pub alarms : AllByRecursion (λ a. OpenIn xs a.exchange) as'
  pub replies : (b e : ℕ) → owed bs b ≡ Some e → OpenIn xs e

module _ {M : Type 0} (reading : List ℕ → Option M) where
  pub record Asks (h : History M) (bs : List BlockRecord) (ms : List M) : Type 0 where
    pub stands : (b : ℕ) → unanswered h b ≡ is_some (owed bs b)
    pub turns : (b : ℕ) → Turns h b
    pub asked_for : (b r : ℕ) → owed bs b ≡ Some r → asked reading h b ≡ Some (record { reply = r; message = slice_get ms b })

  pub record Given (h : History M) (as' : List AlarmRecord) (ms : List M) : Type 0 where
    pub given : (b : ℕ) → 0 < alarms_in b as' → alarm_given reading h b ≡ slice_get ms b

pub record Tasks {M : Type 0} (h : History M) (n : ℕ) (ts : List TaskRecord) (xs : List Exchange) (l : List ReadyTask) (r : Option ReadyTask) (w : ℕ → ℕ) : Type 0 where
  pub once : (t : ℕ) → one_if (is_task t r) + ready_in t l + tasks_waiting_in t xs + w t ≡ one_if (started h t)
  pub small : (t : ℕ) → started h t ≡ true → t < n
  pub priority : (t : ℕ) → started h t ≡ true → (get_or ts t no_task).priority ≡ priority_given h t
  pub range : (t : ℕ) → started h t ≡ true → priority_given h t < 32
  pub line : sound l ≡ true
  pub ready_priority : AllByRecursion (HasPriority (priority_given h)) l
  pub running_priority : RunningHas (priority_given h) r

pub record Held {M : Type 0} (h : History M) (bs : List BlockRecord) : Type 0 where
  pub held : (b t : ℕ) → holder_of bs b ≡ Some t → started h t ≡ true

pub record Kept {M : Type 0} (reading : List ℕ → Option M) (h : History M) (s : State M) : Type 0 where
  pub shape : Shape s.sizes s.tasks s.exchanges s.blocks s.free
  pub blocks : Blocks s.sizes.blocks s.exchanges s.alarms s.blocks s.free none_on_way
  pub opens : Opens s.exchanges s.names s.alarms s.blocks
  pub asks : Asks reading h s.blocks s.messages
  pub given : Given reading h s.alarms s.messages
  pub tasks : Tasks h s.sizes.tasks s.tasks s.exchanges s.ready s.running none_on_way
  pub held : Held h s.blocks
  pub best : best_runs s.ready s.running ≡ true
  pub flow : (e : ℕ) → OpenIn s.exchanges e → taken_at h e ++ waiting_items s e ≡ put_at reading h e

-- ---- steps as the rules make them

module _ {M : Type 0} (reading : List ℕ → Option M) where
  abbrev pub accepted_step_of : State M → Call → ℕ → Step M
  accepted_step_of s c n =
      record { before = s; call = c; drawn = n; answer = (effect reading s c n).answer; after = settles (effect reading s c n).after }

  abbrev pub refused_step_of : Refusal → State M → Call → ℕ → Step M
  refused_step_of r s c n = record { before = s; call = c; drawn = n; answer = answer.Refused r; after = s }
