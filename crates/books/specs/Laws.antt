-- The law of the books: what holds of a station after every run from its opening. Assumes nothing.
--   X_places s b       how often the block is found free, waiting at exchanges, among the running alarms, in a hand
--   task_places s t    how often the task is found running, ready and waiting
--   Books o h          the books agree after the steps h
use Rattle.std.specs.Prelude.{◌≡◌, ℕ, ◌+◌, ◌<◌, true, false, List, [], ◌++◌, is_some, Some, None, sum_by, count_by, Option, nat_eq}
use Rattle.std.specs.List.{AllByRecursion}
use Rattle.pool.specs.Marks.{marked}
use Rattle.ready.specs.Order.{better}
use Rattle.ready.specs.declared.task.ReadyTask.{ReadyTask}
use Rattle.plain.specs.Lookups.{block_at, exchange_at, in_hand, is_open, items, occurrences, reply_to, runs, waiting}
use Rattle.plain.specs.Openings.{one_if}
use Rattle.plain.specs.States.{Exchange, State}
use Rattle.plain.specs.declared.records.AlarmRecord.{AlarmRecord}
use Rattle.books.specs.Deeds.{Turns, asked, priority_given, put_at, reply_asked, started, taken_at, unanswered, waiting_items}
use Rattle.books.specs.Runs.{History, Opening, now_of}

-- ---- places

abbrev pub waiting_in : ℕ → List Exchange → ℕ
waiting_in b xs = sum_by (λ x. occurrences b (items x)) xs

abbrev pub alarms_in : ℕ → List AlarmRecord → ℕ
alarms_in b as' = count_by (λ a. nat_eq b a.block) as'

abbrev pub tasks_waiting_in : ℕ → List Exchange → ℕ
tasks_waiting_in t xs = sum_by (λ x. occurrences t (waiting x)) xs

abbrev pub ready_in : ℕ → List ReadyTask → ℕ
ready_in t l = count_by (λ x. nat_eq t x.task) l

module _ {M : Type 0} (s : State M) where
  abbrev pub free_places : ℕ → ℕ
  free_places b = one_if (marked s.free b)

  abbrev pub waiting_places : ℕ → ℕ
  waiting_places b = waiting_in b s.exchanges

  abbrev pub alarm_places : ℕ → ℕ
  alarm_places b = alarms_in b s.alarms

  abbrev pub hand_places : ℕ → ℕ
  hand_places b = one_if (is_some (block_at s b).holder)

  abbrev pub block_places : ℕ → ℕ
  block_places b = free_places b + waiting_places b + alarm_places b + hand_places b

  abbrev pub task_places : ℕ → ℕ
  task_places t = one_if (runs s t) + ready_in t s.ready + tasks_waiting_in t s.exchanges

  -- the exchange is open
  abbrev pub OpenAt : ℕ → Type 0
  OpenAt e = is_open (exchange_at s e).state ≡ true

-- no ready task is better than the running one, and none is ready when none runs
abbrev pub BestRuns : List ReadyTask → Option ReadyTask → Type 0
BestRuns l None = l ≡ []
BestRuns l (Some x) = AllByRecursion (λ y. better y.priority x.priority ≡ false) l

-- each has the priority that it was last given
abbrev pub HasPriority : (ℕ → ℕ) → ReadyTask → Type 0
HasPriority given x = x.priority ≡ given x.task

abbrev pub RunningHas : (ℕ → ℕ) → Option ReadyTask → Type 0
RunningHas given None = Unit {0}
RunningHas given (Some x) = HasPriority given x

module _ {M : Type 0} (reading : List ℕ → Option M) where
  -- of an unanswered request: it stands, with its block, at one exchange or in one hand, and its reply goes where it asked
  pub record Stands (s : State M) (h : History M) (b : ℕ) : Type 0 where
    pub once : waiting_places s b + hand_places s b ≡ 1
    pub to : reply_to s b ≡ reply_asked (asked reading h b)
    pub is_asked : is_some (asked reading h b) ≡ true

  pub record Books (o : Opening M) (h : History M) : Type 0 where
    -- each block is free, waiting at one exchange, one running alarm or a request in one hand, and only one of these
    pub one_place_per_block : (b : ℕ) → b < o.sizes.blocks → block_places (now_of o h) b ≡ 1
    -- a hand is that of a task started and not ended since, and what it has is an unanswered request
    pub hands : (t b : ℕ) → in_hand (now_of o h) t b ≡ true → (started h t ≡ true) × (unanswered h b ≡ true)
    -- accepted Requests and Responds of a block take turns, a Request first: each request is answered at most once
    pub answered_at_most_once : (b : ℕ) → Turns h b
    -- a request that is not answered yet stands; one that is answered, or was never made, does not
    pub stands : (b : ℕ) → unanswered h b ≡ true → Stands (now_of o h) h b
    pub answered : (b : ℕ) → unanswered h b ≡ false → reply_to (now_of o h) b ≡ None
    -- the items taken at an open exchange, and behind them those waiting, are in order the items put there since it opened
    pub in_order_and_complete : (e : ℕ) → OpenAt (now_of o h) e → taken_at h e ++ waiting_items (now_of o h) e ≡ put_at reading h e
    -- nothing stands at a closed exchange
    pub closed_empty : (e : ℕ) → is_open (exchange_at (now_of o h) e).state ≡ false → (exchange_at (now_of o h) e).line ≡ []
    -- what a name, a running alarm or an owed reply leads to is open
    pub names_open : AllByRecursion (λ b. OpenAt (now_of o h) b.exchange) (now_of o h).names
    pub alarms_open : AllByRecursion (λ a. OpenAt (now_of o h) a.exchange) (now_of o h).alarms
    pub replies_open : (b e : ℕ) → reply_to (now_of o h) b ≡ Some e → OpenAt (now_of o h) e
    -- a task started and not ended since is running, once ready or waiting at one exchange, and only one of these; another is nowhere
    pub one_place_per_task : (t : ℕ) → task_places (now_of o h) t ≡ one_if (started h t)
    pub best_task_runs : BestRuns (now_of o h).ready (now_of o h).running
    pub ready_priorities : AllByRecursion (HasPriority (priority_given h)) (now_of o h).ready
    pub running_priority : RunningHas (priority_given h) (now_of o h).running
