-- What the moves of a station keep of the groups Tasks and Held: take, put, post, wait, yield and settle. Assumes nothing.
--   Manned h s w    both groups of a state, with w on their way
--   X_manned        the move X keeps them
use Rattle.std.proofs.Common.{◌≡◌, ℕ, ◌<◌, ◌≤◌, true, List, [], ◌∷◌, length, set, is_some, Some, None, Option, sym, refl, ap, subst, arith}
use Rattle.std.specs.List.{slice_get}
use Rattle.ready.specs.Settling.{as_good_ready, outdone}
use Rattle.plain.specs.Effects.{alarm, due, move, post_read, put_due, request, respond, still_running, takes_first, tick, waits}
use Rattle.plain.specs.Lookups.{block_at, exchange_at, first_item, first_of, first_waiting, items_in, tasks_in, task_at, waiting}
use Rattle.plain.specs.Moves.{behind_first, first_leaves, hands_out, item_of, keeps, message_item, out_of_hand, post, post_to, put, put_to, queues, readied, receives, steps_down, takes, with_item, with_tray, without_first, written_if, yields}
use Rattle.plain.specs.Reasons.{caller}
use Rattle.plain.specs.States.{State, with_alarms, with_trays}
use Rattle.plain.specs.declared.records.AlarmRecord.{AlarmRecord}
use Rattle.plain.specs.declared.records.BlockRecord.{BlockRecord}
use Rattle.plain.specs.declared.records.Carries.{Carries}
use Rattle.plain.specs.declared.records.Carries.TheVariants as carries
use Rattle.plain.specs.declared.records.Holds.{Holds}
use Rattle.plain.specs.declared.records.Holds.TheVariants as holds
use Rattle.books.specs.Deeds.{started}
use Rattle.books.specs.Runs.{History}
use Rattle.books.proofs.Invariants.{Held, Tasks, none_on_way}
use Rattle.books.proofs.TaskMoves.{aside_tasks, held_set, joins_ready, leaves_waiting, on_way, on_way_started, others_move, running_started, tray_changes, waits_tasks}

pub record Manned {M : Type 0} (h : History M) (s : State M) (w : ℕ → ℕ) : Type 0 where
  pub tasks : Tasks h s.sizes.tasks s.tasks s.exchanges s.ready s.running w
  pub held : Held h s.blocks
  pub few : s.sizes.tasks ≤ 64

-- ---- lines

first_there : (t : ℕ) (l : List ℕ) → first_of l ≡ Some t → l ≡ t ∷ behind_first l
first_there t [] e = let z : ◌≡◌ {A = ℕ} 0 1 = cc in absurd (omega arith)
first_there t (n ∷ ns) e = cc

none_there : (l : List ℕ) → first_of l ≡ None → l ≡ []
none_there [] e = refl
none_there (n ∷ ns) e = let z : ◌≡◌ {A = ℕ} 0 1 = cc in absurd (omega arith)

waiting_behind_first : (t : ℕ) (us : List ℕ) (o : Holds) (l : List ℕ) → tasks_in o l ≡ t ∷ us → tasks_in o (behind_first l) ≡ us
waiting_behind_first t us holds.Items l e = let z : ◌≡◌ {A = ℕ} 0 1 = cc in absurd (omega arith)
waiting_behind_first t us holds.Tasks l e = ap behind_first e

-- where items stand, none waits
waiting_behind_item : (b : ℕ) (o : Holds) (l : List ℕ) → first_of (items_in o l) ≡ Some b → tasks_in o (behind_first l) ≡ tasks_in o l
waiting_behind_item b holds.Items l e = refl
waiting_behind_item b holds.Tasks l e = let z : ◌≡◌ {A = ℕ} 0 1 = cc in absurd (omega arith)

pub empty_waiting : (o : Holds) (l : List ℕ) → l ≡ [] → tasks_in o l ≡ []
empty_waiting holds.Items l e = refl
empty_waiting holds.Tasks l e = e

module _ {M : Type 0} {h : History M} where
  -- ---- take

  in_the_hand_held : {bs : List BlockRecord} (t b : ℕ) (c : Carries) → started h t ≡ true → Held h bs
      → Held h (set bs b (record { carries = c; holder = Some t }))
  in_the_hand_held t b c is k =
      held_set b (record { carries = c; holder = Some t }) (λ u e. let same : t ≡ u = cc in subst (λ v. started h v ≡ true) same is) k

  -- no hand has the block
  in_no_hand : {bs : List BlockRecord} (b : ℕ) (c : Carries) → Held h bs → Held h (set bs b (record { carries = c; holder = None }))
  in_no_hand b c k = held_set b (record { carries = c; holder = None }) (λ u e. let z : ◌≡◌ {A = ℕ} 0 1 = cc in absurd (omega arith)) k

  keeps_manned : {w : ℕ → ℕ} (t b : ℕ) (c : Carries) (s : State M) → started h t ≡ true → Manned h s w → Manned h (keeps t b c s) w
  keeps_manned t b carries.Message s is k = record { tasks = k.tasks; held = k.held; few = k.few }
  keeps_manned t b (carries.Request reply) s is k =
      record { tasks = k.tasks; held = in_the_hand_held t b (block_at s b).carries is k.held; few = k.few }
  keeps_manned t b (carries.Reply status) s is k = record { tasks = k.tasks; held = k.held; few = k.few }
  keeps_manned t b carries.Alarm s is k = record { tasks = k.tasks; held = k.held; few = k.few }

  takes_manned : {w : ℕ → ℕ} (t b : ℕ) (s : State M) → started h t ≡ true → Manned h s w → Manned h (takes t b s) w
  takes_manned t b s is k =
      keeps_manned t b (block_at s b).carries
      (with_trays (written_if t (slice_get s.messages b) s.trays) (with_tray t (item_of b (block_at s b).carries) s)) is
      (record { tasks = tray_changes t (Some (item_of b (block_at s b).carries)) k.tasks; held = k.held; few = k.few })

  receives_manned : {w : ℕ → ℕ} (t : ℕ) (m : M) (s : State M) → Manned h s w → Manned h (receives t m s) w
  receives_manned t m s k = record { tasks = tray_changes t (Some message_item) k.tasks; held = k.held; few = k.few }

  -- ---- put

  first_task_leaves_manned : (e t : ℕ) (s : State M) → first_waiting s e ≡ Some t → Manned h s none_on_way → Manned h (first_leaves e s) (on_way t)
  first_task_leaves_manned e t s is k =
      let there = first_there t (waiting (exchange_at s e)) is in
      record {
        tasks = leaves_waiting e t (behind_first (waiting (exchange_at s e))) (without_first (exchange_at s e)) there
            (waiting_behind_first t (behind_first (waiting (exchange_at s e))) (exchange_at s e).holds (exchange_at s e).line there) k.tasks;
        held = k.held;
        few = k.few;
      }

  first_item_leaves_manned : {w : ℕ → ℕ} (e b : ℕ) (s : State M) → first_item s e ≡ Some b → Manned h s w → Manned h (first_leaves e s) w
  first_item_leaves_manned e b s is k =
      record {
        tasks = others_move e (without_first (exchange_at s e)) (waiting_behind_item b (exchange_at s e).holds (exchange_at s e).line is) k.tasks;
        held = k.held;
        few = k.few;
      }

  queues_manned : {w : ℕ → ℕ} (e b : ℕ) (s : State M) → first_waiting s e ≡ None → Manned h s w → Manned h (queues e b s) w
  queues_manned e b s is k =
      record {
        tasks = others_move e (with_item b (exchange_at s e)) (sym (none_there (waiting (exchange_at s e)) is)) k.tasks;
        held = k.held;
        few = k.few;
      }

  readied_manned : (t : ℕ) (s : State M) → Manned h s (on_way t) → Manned h (readied t s) none_on_way
  readied_manned t s k =
      record {
        tasks = joins_ready t (task_at s t).priority k.few (k.tasks.priority t (on_way_started t k.tasks)) k.tasks;
        held = k.held;
        few = k.few;
      }

  put_manned : (e b : ℕ) (s : State M) → Manned h s none_on_way → Manned h (put e b s) none_on_way
  put_manned e b s k = go (first_waiting s e) refl
    where
      go : (o : Option ℕ) → first_waiting s e ≡ o → Manned h (put_to o e b s) none_on_way
      go None is = queues_manned e b s is k
      go (Some t) is =
          let left = first_task_leaves_manned e t s is k in
          readied_manned t (takes t b (first_leaves e s)) (takes_manned t b (first_leaves e s) (on_way_started t left.tasks) left)

  hands_out_manned : {w : ℕ → ℕ} (n : ℕ) (c : Carries) (m : M) (s : State M) → Manned h s w → Manned h (hands_out n c m s) w
  hands_out_manned n c m s k = record { tasks = k.tasks; held = in_no_hand n c k.held; few = k.few }

  out_of_hand_manned : {w : ℕ → ℕ} (b : ℕ) (c : Carries) (s : State M) → Manned h s w → Manned h (out_of_hand b c s) w
  out_of_hand_manned b c s k = record { tasks = k.tasks; held = in_no_hand b c k.held; few = k.few }

  post_manned : (e : ℕ) (m : M) (n : ℕ) (s : State M) → Manned h s none_on_way → Manned h (post e m n s) none_on_way
  post_manned e m n s k = go (first_waiting s e) refl
    where
      go : (o : Option ℕ) → first_waiting s e ≡ o → Manned h (post_to o e m n s) none_on_way
      go None is = queues_manned e n (hands_out n carries.Message m s) is (hands_out_manned n carries.Message m s k)
      go (Some t) is = readied_manned t (receives t m (first_leaves e s)) (receives_manned t m (first_leaves e s) (first_task_leaves_manned e t s is k))

  -- ---- calls

  pub post_read_manned : (e : ℕ) (o : Option M) (n : ℕ) (s : State M) → Manned h s none_on_way → Manned h (post_read e o n s) none_on_way
  post_read_manned e None n s k = k
  post_read_manned e (Some m) n s k = post_manned e m n s k

  put_due_manned : (as' : List AlarmRecord) (s : State M) → Manned h s none_on_way → Manned h (put_due as' s) none_on_way
  put_due_manned [] s k = k
  put_due_manned (a ∷ as') s k = put_due_manned as' (put a.exchange a.block s) (put_manned a.exchange a.block s k)

  yields_manned : (s : State M) → Manned h s none_on_way → Manned h (yields s) none_on_way
  yields_manned s k = record { tasks = aside_tasks as_good_ready s.ready s.running k.few k.tasks; held = k.held; few = k.few }

  pub steps_down_manned : (s : State M) → Manned h s none_on_way → Manned h (steps_down s) none_on_way
  steps_down_manned s k = record { tasks = aside_tasks outdone s.ready s.running k.few k.tasks; held = k.held; few = k.few }

  pub takes_first_manned : (e b : ℕ) (s : State M) → is_some s.running ≡ true → first_item s e ≡ Some b → Manned h s none_on_way
      → Manned h (takes_first (caller s) e b s).after none_on_way
  takes_first_manned e b s there is k =
      takes_manned (caller s) b (first_leaves e s) (running_started s.running there k.tasks) (first_item_leaves_manned e b s is k)

  pub waits_manned : (e : ℕ) (s : State M) → is_some s.running ≡ true → e < length s.exchanges → Manned h s none_on_way
      → Manned h (waits (caller s) e s) none_on_way
  waits_manned e s there below k = record { tasks = waits_tasks s.running e there below k.few k.tasks; held = k.held; few = k.few }

  pub request_manned : (r : ℕ) (e : Option ℕ) (m : Option M) (n : ℕ) (s : State M) → Manned h s none_on_way → Manned h (request r e m n s) none_on_way
  request_manned r None m n s k = k
  request_manned r (Some e) None n s k = k
  request_manned r (Some e) (Some m) n s k = put_manned e n (hands_out n (carries.Request r) m s) (hands_out_manned n (carries.Request r) m s k)

  pub respond_manned : (r : Option ℕ) (b status : ℕ) (s : State M) → Manned h s none_on_way → Manned h (respond r b status s) none_on_way
  respond_manned None b status s k = k
  respond_manned (Some r) b status s k = put_manned r b (out_of_hand b (carries.Reply status) s) (out_of_hand_manned b (carries.Reply status) s k)

  pub move_manned : (b e : ℕ) (s : State M) → Manned h s none_on_way → Manned h (move b e s) none_on_way
  move_manned b e s k = put_manned e b (out_of_hand b (block_at s b).carries s) (out_of_hand_manned b (block_at s b).carries s k)

  pub alarm_manned : (e ticks : ℕ) (m : Option M) (n : ℕ) (s : State M) → Manned h s none_on_way → Manned h (alarm e ticks m n s) none_on_way
  alarm_manned e ticks None n s k = k
  alarm_manned e ticks (Some m) n s k = record { tasks = k.tasks; held = in_no_hand n carries.Alarm k.held; few = k.few }

  pub tick_manned : (s : State M) → Manned h s none_on_way → Manned h (tick s) none_on_way
  tick_manned s k =
      yields_manned (put_due (due s.alarms) (with_alarms (still_running s.alarms) s))
      (put_due_manned (due s.alarms) (with_alarms (still_running s.alarms) s) (record { tasks = k.tasks; held = k.held; few = k.few }))
