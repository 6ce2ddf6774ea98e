-- An accepted step keeps each task in one place, each hand that of a started task, and the best task running. Assumes nothing.
--   TasksIn h s    the three of a state, and TasksAfter, of the state after an accepted step
--   X_moved        what the call X leaves, before it settles
--   tasks_step     the theorem
use Rattle.std.proofs.Common.{◌≡◌, ℕ, ◌<◌, Bool, true, false, cond, ◌&&◌, eqb, leb, List, [], ◌∷◌, length, is_some, Some, None, Option, sym, refl, ◌∙◌, arith}
use Rattle.std.proofs.lemmas.Bool.{and_left, and_right, cond-false, cond-true, eq-eqb, eqb-true, leb-false, not-false, or_parts}
use Rattle.calls.specs.declared.code.CallCode.TheVariants as code
use Rattle.ready.specs.Order.{pair}
use Rattle.ready.specs.Settling.{best_runs}
use Rattle.plain.specs.Calls.{Call, is}
use Rattle.plain.specs.Calls as call
use Rattle.plain.specs.Effects.{check, effect, wait}
use Rattle.plain.specs.Lookups.{exchange_at, exchange_of, first_item, reply_to, task_at}
use Rattle.plain.specs.Moves.{settles, with_task}
use Rattle.plain.specs.Reasons.{caller, held_by, n1, n2, refusal_of}
use Rattle.plain.specs.States.{State, with_running}
use Rattle.plain.specs.declared.records.ExchangeState.TheVariants as state
use Rattle.plain.specs.declared.records.Holds.TheVariants as holds
use Rattle.books.specs.Deeds.{accepted_step, ends, priority_given, reprioritizes, started, starts}
use Rattle.books.specs.Runs.{History, Step}
use Rattle.books.proofs.Accepts.{NoReason, no_reason}
use Rattle.books.proofs.Invariants.{Held, Kept, Tasks, accepted_step_of, none_on_way}
use Rattle.books.proofs.TaskMoves.{absent_not_started, end_tasks, held_ended, held_renewed, joins_ready, others_move, priority_tasks, renewed, settled_best_runs, settled_tasks, start_tasks}
use Rattle.books.proofs.TaskStates.{Manned, alarm_manned, empty_waiting, move_manned, post_read_manned, request_manned, respond_manned, steps_down_manned, takes_first_manned, tick_manned, waits_manned}

pub record TasksIn {M : Type 0} (h : History M) (s : State M) : Type 0 where
  pub tasks : Tasks h s.sizes.tasks s.tasks s.exchanges s.ready s.running none_on_way
  pub held : Held h s.blocks
  pub best : best_runs s.ready s.running ≡ true

abbrev pub TasksAfter : {M : Type 0} → (List ℕ → Option M) → History M → State M → Call → ℕ → Type 0
TasksAfter reading h s c n = TasksIn (accepted_step_of reading s c n ∷ h) (accepted_step_of reading s c n).after

settles_manned : {M : Type 0} {h : History M} (s : State M) → Manned h s none_on_way → TasksIn h (settles s)
settles_manned s k =
    record {
      tasks = settled_tasks s.ready s.running k.few k.tasks;
      held = k.held;
      best = settled_best_runs s.ready s.running k.few k.tasks;
    }

-- ---- what a call changes in the history

never : (a x y : Bool) → x ≡ false → (a && (x && y)) ≡ false
never a x y e = and_right a (x && y) (and_left x y e)

module _ {M : Type 0} (st : Step M) (h : History M) where
  started_same : is code.Start st.call ≡ false → is code.End st.call ≡ false → (t : ℕ) → started (st ∷ h) t ≡ started h t
  started_same a b t =
      cond-false (starts st t) true (cond (ends st t) false (started h t)) (never (accepted_step st) (is code.Start st.call) (eqb t (n1 st.call)) a)
      ∙ cond-false (ends st t) false (started h t) (never (accepted_step st) (is code.End st.call) (eqb t (caller st.before)) b)

  given_same : is code.Start st.call ≡ false → is code.Priority st.call ≡ false → (t : ℕ) → priority_given (st ∷ h) t ≡ priority_given h t
  given_same a b t =
      cond-false (starts st t) (n2 st.call) (cond (reprioritizes st t) (n1 st.call) (priority_given h t))
      (never (accepted_step st) (is code.Start st.call) (eqb t (n1 st.call)) a)
      ∙ cond-false (reprioritizes st t) (n1 st.call) (priority_given h t) (never (accepted_step st) (is code.Priority st.call) (eqb t (caller st.before)) b)

module _ {M : Type 0} (reading : List ℕ → Option M) (h : History M) (s : State M) where
  -- a call that starts no task, ends none and changes no priority
  quiet : (c : Call) (n : ℕ) → is code.Start c ≡ false → is code.End c ≡ false → is code.Priority c ≡ false
      → Kept reading h s → Manned (accepted_step_of reading s c n ∷ h) s none_on_way
  quiet c n no_start no_end no_change k =
      let same = started_same (accepted_step_of reading s c n) h no_start no_end in
      record {
        tasks = renewed same (given_same (accepted_step_of reading s c n) h no_start no_change) k.tasks;
        held = held_renewed (λ t is. same t ∙ is) k.held;
        few = k.shape.few_tasks;
      }

  -- ---- each call, before it settles

  abbrev Moved : Call → ℕ → Type 0
  Moved c n = Kept reading h s → NoReason reading s c → Manned (accepted_step_of reading s c n ∷ h) (effect reading s c n).after none_on_way

  start_moved : (t p n : ℕ) → Moved (call.Start t p) n
  start_moved t p n k ok =
      let in_range = or_parts (leb s.sizes.tasks t) (leb 32 p) ok.range in
      let begun = start_tasks t p (record { priority = p; tray = None }) refl (absent_not_started t ok.there k.tasks)
      (leb-false s.sizes.tasks t in_range.0) (leb-false 32 p in_range.1) k.shape.tasks (λ u. refl) (λ u. refl) k.tasks in
      record {
        tasks = joins_ready t p k.shape.few_tasks (sym (cond-true (eqb t t) p (priority_given h t) (eq-eqb t t refl))) begun;
        held = held_renewed (λ u is. still (eqb u t) (started h u) is) k.held;
        few = k.shape.few_tasks;
      }
    where
      still : (b x : Bool) → x ≡ true → cond b true x ≡ true
      still true x is = refl
      still false x is = is

  -- nothing stands at a closed exchange
  open_moved : (e n : ℕ) → Moved (call.Open e) n
  open_moved e n k ok =
      let m = quiet (call.Open e) n refl refl refl k in
      record {
        tasks = others_move e (record { state = state.Open; holds = holds.Items; line = [] })
            (sym (empty_waiting (exchange_at s e).holds (exchange_at s e).line (k.opens.closed e ok.there))) m.tasks;
        held = m.held;
        few = m.few;
      }

  close_moved : (e n : ℕ) → Moved (call.Close e) n
  close_moved e n k ok =
      let m = quiet (call.Close e) n refl refl refl k in
      record {
        tasks = others_move e (record { state = state.Closed; holds = (exchange_at s e).holds; line = (exchange_at s e).line }) refl m.tasks;
        held = m.held;
        few = m.few;
      }

  -- a part of the state changes of which the groups do not speak
  register_moved : (e : ℕ) (name : List ℕ) (n : ℕ) → Moved (call.Register e name) n
  register_moved e name n k ok = let m = quiet (call.Register e name) n refl refl refl k in record { tasks = m.tasks; held = m.held; few = m.few }

  strike_moved : (name : List ℕ) (n : ℕ) → Moved (call.Strike name) n
  strike_moved name n k ok = let m = quiet (call.Strike name) n refl refl refl k in record { tasks = m.tasks; held = m.held; few = m.few }

  cancel_moved : (b n : ℕ) → Moved (call.Cancel b) n
  cancel_moved b n k ok = let m = quiet (call.Cancel b) n refl refl refl k in record { tasks = m.tasks; held = m.held; few = m.few }

  wait_moved : (e n : ℕ) → Moved (call.Wait e) n
  wait_moved e n k ok = go (first_item s e) refl
    where
      there : is_some s.running ≡ true
      there = not-false (is_some s.running) ok.running

      below : e < length s.exchanges
      below = let a = leb-false s.sizes.exchanges e ok.range in let b = k.shape.exchanges in omega arith

      go : (o : Option ℕ) → first_item s e ≡ o → Manned (accepted_step_of reading s (call.Wait e) n ∷ h) (wait o e s).after none_on_way
      go None is = waits_manned e s there below (quiet (call.Wait e) n refl refl refl k)
      go (Some b) is = takes_first_manned e b s there is (quiet (call.Wait e) n refl refl refl k)

  check_moved : (e n : ℕ) → Moved (call.Check e) n
  check_moved e n k ok = go (first_item s e) refl
    where
      go : (o : Option ℕ) → first_item s e ≡ o → Manned (accepted_step_of reading s (call.Check e) n ∷ h) (check o e s).after none_on_way
      go None is = quiet (call.Check e) n refl refl refl k
      go (Some b) is = takes_first_manned e b s (not-false (is_some s.running) ok.running) is (quiet (call.Check e) n refl refl refl k)

  priority_moved : (p n : ℕ) → Moved (call.Priority p) n
  priority_moved p n k ok =
      steps_down_manned
      (with_running (Some (pair (caller s) p)) (with_task (caller s) (record { priority = p; tray = (task_at s (caller s)).tray }) s))
      (record {
        tasks = priority_tasks s.running p (record { priority = p; tray = (task_at s (caller s)).tray }) refl (not-false (is_some s.running) ok.running)
            (leb-false 32 p ok.range) k.shape.tasks (λ u. refl) (λ u. refl) k.tasks;
        held = held_renewed (λ u is. is) k.held;
        few = k.shape.few_tasks;
      })

  end_moved : (n : ℕ) → Moved call.End n
  end_moved n k ok =
      record {
        tasks = end_tasks s.running (not-false (is_some s.running) ok.running) (λ u. refl) (λ u. refl) k.tasks;
        held = held_ended (caller s) (eqb-true (held_by s (caller s)) 0 (not-false (eqb (held_by s (caller s)) 0) ok.hand)) (λ u. refl) k.held;
        few = k.shape.few_tasks;
      }

  moved : (c : Call) (n : ℕ) → Moved c n
  moved (call.Start t p) n k ok = start_moved t p n k ok
  moved (call.Open e) n k ok = open_moved e n k ok
  moved (call.Close e) n k ok = close_moved e n k ok
  moved (call.Register e name) n k ok = register_moved e name n k ok
  moved (call.Strike name) n k ok = strike_moved name n k ok
  moved (call.Post e message) n k ok = post_read_manned e (reading message) n s (quiet (call.Post e message) n refl refl refl k)
  moved call.Tick n k ok = tick_manned s (quiet call.Tick n refl refl refl k)
  moved (call.Send e message) n k ok = post_read_manned e (reading message) n s (quiet (call.Send e message) n refl refl refl k)
  moved (call.Wait e) n k ok = wait_moved e n k ok
  moved (call.Check e) n k ok = check_moved e n k ok
  moved (call.Request e name message) n k ok =
      request_manned e (exchange_of s name) (reading message) n s (quiet (call.Request e name message) n refl refl refl k)
  moved (call.Respond b status) n k ok = respond_manned (reply_to s b) b status s (quiet (call.Respond b status) n refl refl refl k)
  moved (call.Move b e) n k ok = move_manned b e s (quiet (call.Move b e) n refl refl refl k)
  moved (call.Alarm e ticks message) n k ok = alarm_manned e ticks (reading message) n s (quiet (call.Alarm e ticks message) n refl refl refl k)
  moved (call.Cancel b) n k ok = cancel_moved b n k ok
  moved (call.Priority p) n k ok = priority_moved p n k ok
  moved call.End n k ok = end_moved n k ok
  moved call.Tray n k ok = quiet call.Tray n refl refl refl k

pub tasks_step : {M : Type 0} (reading : List ℕ → Option M) (h : History M) (s : State M) (c : Call) (n : ℕ) → Kept reading h s
    → refusal_of reading s c ≡ None → TasksAfter reading h s c n
tasks_step reading h s c n k ok = settles_manned (effect reading s c n).after (moved reading h s c n k (no_reason reading s c ok))
