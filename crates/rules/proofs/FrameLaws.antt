-- What a call leaves alone. Assumes nothing.
use Rattle.std.proofs.Common.{◌≡◌, ℕ, zero, suc, false, not, ◌&&◌, eqb, List, [], ◌∷◌, get_or, set, is_some, Some, None, Option, refl, ap, ◌∙◌}
use Rattle.std.proofs.lemmas.List.{get_or-set_other}
use Rattle.std.proofs.lemmas.Bool.{eqb-false, or_from, or_parts}
use Rattle.std.specs.List.{slice_get}
use Rattle.calls.specs.declared.refusal.Refusal.{Refusal}
use Rattle.plain.specs.Calls.{Call}
use Rattle.plain.specs.Calls as call
use Rattle.plain.specs.Effects.{check, due, effect, post_read, put_due, request, respond, still_running, wait, alarm}
use Rattle.plain.specs.Lookups.{block_at, closed_exchange, contains, exchange_at, exchange_of, first_item, first_of, first_waiting, is_number, no_task, reply_to, task_at, tasks_in, waiting}
use Rattle.plain.specs.Moves.{behind_first, first_leaves, item_of, keeps, out_of_hand, post_to, put, put_to, takes, with_item, with_tray, without_first, written_if}
use Rattle.plain.proofs.KeepLaws.{keeps_part}
use Rattle.plain.proofs.PlaceLaws.{nth-set_other}
use Rattle.plain.specs.Outcomes.{outcome_by}
use Rattle.plain.specs.Reasons.{caller, needs_block, refusal_of}
use Rattle.plain.specs.States.{Exchange, State, with_alarms, with_trays}
use Rattle.plain.specs.declared.records.AlarmRecord.{AlarmRecord}
use Rattle.plain.specs.declared.records.Carries.{Carries}
use Rattle.plain.specs.declared.records.Holds.{Holds}
use Rattle.plain.specs.declared.records.Holds.TheVariants.{Items, Tasks}
use Rattle.rules.specs.Framing.{Frame, named, takers, wakes, wakes_at}

-- ---- places of lists

nth-written_other : {A : Type 0} (xs : List A) (i k : ℕ) (o : Option A) → (k ≡ i → ⊥) → slice_get (written_if i o xs) k ≡ slice_get xs k
nth-written_other xs i k None other = refl
nth-written_other xs i k (Some y) other = nth-set_other xs i k y other

-- ---- a task t in two states: the same record, the same tray place; and the same message table

pub record Alike {M : Type 0} (s u : State M) (t : ℕ) : Type 0 where
  pub task : task_at u t ≡ task_at s t
  pub tray : slice_get u.trays t ≡ slice_get s.trays t
  pub table : u.messages ≡ s.messages

alike_by : {M : Type 0} (s u v : State M) (t : ℕ) → Alike s u t → Alike u v t → Alike s v t
alike_by s u v t a b = record { task = b.task ∙ a.task; tray = b.tray ∙ a.tray; table = b.table ∙ a.table }

-- ---- take

kept_alike : {M : Type 0} (k b t : ℕ) (c : Carries) (s : State M) → Alike s (keeps k b c s) t
kept_alike k b t c s =
    record {
      task = keeps_part (λ u. task_at u t) (λ f bs u. refl) k b c s;
      tray = keeps_part (λ u. slice_get u.trays t) (λ f bs u. refl) k b c s;
      table = keeps_part (λ u. u.messages) (λ f bs u. refl) k b c s;
    }

takes_alike : {M : Type 0} (k b t : ℕ) (s : State M) → (t ≡ k → ⊥) → Alike s (takes k b s) t
takes_alike k b t s other =
    alike_by s (with_trays (written_if k (slice_get s.messages b) s.trays) (with_tray k (item_of b (block_at s b).carries) s)) (takes k b s) t
    (record {
      task = get_or-set_other s.tasks k t _ no_task other;
      tray = nth-written_other s.trays k t (slice_get s.messages b) other;
      table = refl;
    })
    (kept_alike k b t (block_at s b).carries _)

-- ---- put

put_alike : {M : Type 0} (e b t : ℕ) (s : State M) → is_number t (first_waiting s e) ≡ false → Alike s (put e b s) t
put_alike e b t s h = go (first_waiting s e) h
  where
    go : (o : Option ℕ) → is_number t o ≡ false → Alike s (put_to o e b s) t
    go None n = record { task = refl; tray = refl; table = refl }
    go (Some k) n =
        let a = takes_alike k b t (first_leaves e s) (eqb-false t k n) in
        record { task = a.task; tray = a.tray; table = a.table }

-- one that does not wait at an exchange does not wait there after it was changed in such a way
still_away : (xs : List Exchange) (e e' t : ℕ) (x : Exchange) → contains t (waiting (get_or xs e' closed_exchange)) ≡ false
    → (contains t (waiting (get_or xs e closed_exchange)) ≡ false → contains t (waiting x) ≡ false)
    → contains t (waiting (get_or (set xs e x) e' closed_exchange)) ≡ false
still_away [] e e' t x away by = away
still_away (y ∷ ys) zero zero t x away by = by away
still_away (y ∷ ys) zero (suc e') t x away by = away
still_away (y ∷ ys) (suc e) zero t x away by = away
still_away (y ∷ ys) (suc e) (suc e') t x away by = still_away ys e e' t x away by

away_behind : (k : Holds) (l : List ℕ) (t : ℕ) → contains t (tasks_in k l) ≡ false → contains t (tasks_in k (behind_first l)) ≡ false
away_behind Items l t h = refl
away_behind Tasks [] t h = refl
away_behind Tasks (n ∷ ns) t h = (or_parts (eqb t n) (contains t ns) h).1

pub kept_exchanges : {M : Type 0} (k b : ℕ) (c : Carries) (s : State M) → (keeps k b c s).exchanges ≡ s.exchanges
kept_exchanges k b c s = keeps_part (λ u. u.exchanges) (λ f bs u. refl) k b c s

put_away : {M : Type 0} (e b e' t : ℕ) (s : State M) → contains t (waiting (exchange_at s e')) ≡ false
    → contains t (waiting (exchange_at (put e b s) e')) ≡ false
put_away e b e' t s away = go (first_waiting s e)
  where
    go : (o : Option ℕ) → contains t (waiting (exchange_at (put_to o e b s) e')) ≡ false
    go None = still_away s.exchanges e e' t (with_item b (exchange_at s e)) away (λ _. refl)
    go (Some k) =
        ap (λ xs. contains t (waiting (get_or xs e' closed_exchange))) (kept_exchanges k b (block_at s b).carries _)
        ∙ still_away s.exchanges e e' t (without_first (exchange_at s e)) away (away_behind (exchange_at s e).holds (exchange_at s e).line t)

not_first : (l : List ℕ) (t : ℕ) → contains t l ≡ false → is_number t (first_of l) ≡ false
not_first [] t h = refl
not_first (n ∷ ns) t h = (or_parts (eqb t n) (contains t ns) h).0

not_woken_after : {M : Type 0} (e b t : ℕ) (as' : List AlarmRecord) (s : State M) → wakes_at s as' t ≡ false → wakes_at (put e b s) as' t ≡ false
not_woken_after e b t [] s h = refl
not_woken_after e b t (a ∷ as') s h =
    let p = or_parts (contains t (waiting (exchange_at s a.exchange))) (wakes_at s as' t) h in
    or_from (contains t (waiting (exchange_at (put e b s) a.exchange))) (wakes_at (put e b s) as' t)
    (put_away e b a.exchange t s p.0) (not_woken_after e b t as' s p.1)

put_due_alike : {M : Type 0} (as' : List AlarmRecord) (t : ℕ) (s : State M) → wakes_at s as' t ≡ false → Alike s (put_due as' s) t
put_due_alike [] t s h = record { task = refl; tray = refl; table = refl }
put_due_alike (a ∷ as') t s h =
    let p = or_parts (contains t (waiting (exchange_at s a.exchange))) (wakes_at s as' t) h in
    alike_by s (put a.exchange a.block s) (put_due (a ∷ as') s) t
    (put_alike a.exchange a.block t s (not_first (waiting (exchange_at s a.exchange)) t p.0))
    (put_due_alike as' t (put a.exchange a.block s) (not_woken_after a.exchange a.block t as' s p.1))

-- ---- the message table

kept_table : {M : Type 0} (k b : ℕ) (c : Carries) (s : State M) → (keeps k b c s).messages ≡ s.messages
kept_table k b c s = (kept_alike k b 0 c s).table

put_table : {M : Type 0} (e b : ℕ) (s : State M) → (put e b s).messages ≡ s.messages
put_table e b s = go (first_waiting s e)
  where
    go : (o : Option ℕ) → (put_to o e b s).messages ≡ s.messages
    go None = refl
    go (Some k) = kept_table k b (block_at s b).carries _

put_due_table : {M : Type 0} (as' : List AlarmRecord) (s : State M) → (put_due as' s).messages ≡ s.messages
put_due_table [] s = refl
put_due_table (a ∷ as') s = put_due_table as' (put a.exchange a.block s) ∙ put_table a.exchange a.block s

-- ---- the calls that put a message

post_task : {M : Type 0} (e n t : ℕ) (m : Option M) (s : State M) → is_number t (first_waiting s e) ≡ false
    → (task_at (post_read e m n s) t ≡ task_at s t) × (slice_get (post_read e m n s).trays t ≡ slice_get s.trays t)
post_task e n t None s h = (refl, refl)
post_task e n t (Some m) s h = go (first_waiting s e) h
  where
    go : (o : Option ℕ) → is_number t o ≡ false → (task_at (post_to o e m n s) t ≡ task_at s t) × (slice_get (post_to o e m n s).trays t ≡ slice_get s.trays t)
    go None k = (refl, refl)
    go (Some w) k = (get_or-set_other s.tasks w t _ no_task (eqb-false t w k), nth-set_other s.trays w t m (eqb-false t w k))

post_table : {M : Type 0} (e n b : ℕ) (m : Option M) (s : State M) → (not (is_some (first_waiting s e)) && eqb b n) ≡ false
    → slice_get (post_read e m n s).messages b ≡ slice_get s.messages b
post_table e n b None s h = refl
post_table e n b (Some m) s h = go (first_waiting s e) h
  where
    go : (o : Option ℕ) → (not (is_some o) && eqb b n) ≡ false → slice_get (post_to o e m n s).messages b ≡ slice_get s.messages b
    go None k = nth-set_other s.messages n b m (eqb-false b n k)
    go (Some w) k = refl

request_task : {M : Type 0} (r n t : ℕ) (o : Option ℕ) (m : Option M) (s : State M) → wakes s o t ≡ false
    → (task_at (request r o m n s) t ≡ task_at s t) × (slice_get (request r o m n s).trays t ≡ slice_get s.trays t)
request_task r n t None m s h = (refl, refl)
request_task r n t (Some e) None s h = (refl, refl)
request_task r n t (Some e) (Some m) s h = let a = put_alike e n t _ h in (a.task, a.tray)

request_table : {M : Type 0} (r n b : ℕ) (o : Option ℕ) (m : Option M) (s : State M) → eqb b n ≡ false
    → slice_get (request r o m n s).messages b ≡ slice_get s.messages b
request_table r n b None m s h = refl
request_table r n b (Some e) None s h = refl
request_table r n b (Some e) (Some m) s h = ap (λ ms. slice_get ms b) (put_table e n _) ∙ nth-set_other s.messages n b m (eqb-false b n h)

respond_task : {M : Type 0} (b status t : ℕ) (o : Option ℕ) (s : State M) → wakes s o t ≡ false
    → (task_at (respond o b status s) t ≡ task_at s t) × (slice_get (respond o b status s).trays t ≡ slice_get s.trays t)
respond_task b status t None s h = (refl, refl)
respond_task b status t (Some r) s h = let a = put_alike r b t _ h in (a.task, a.tray)

respond_table : {M : Type 0} (b status : ℕ) (o : Option ℕ) (s : State M) → (respond o b status s).messages ≡ s.messages
respond_table b status None s = refl
respond_table b status (Some r) s = put_table r b _

-- ---- the calls that take

wait_task : {M : Type 0} (e t : ℕ) (o : Option ℕ) (s : State M) → (is_some o && eqb t (caller s)) ≡ false
    → (task_at (wait o e s).after t ≡ task_at s t) × (slice_get (wait o e s).after.trays t ≡ slice_get s.trays t)
wait_task e t None s h = (refl, refl)
wait_task e t (Some b) s h = let a = takes_alike (caller s) b t (first_leaves e s) (eqb-false t (caller s) h) in (a.task, a.tray)

wait_table : {M : Type 0} (e : ℕ) (o : Option ℕ) (s : State M) → (wait o e s).after.messages ≡ s.messages
wait_table e None s = refl
wait_table e (Some b) s = kept_table (caller s) b (block_at s b).carries _

check_task : {M : Type 0} (e t : ℕ) (o : Option ℕ) (s : State M) → (is_some o && eqb t (caller s)) ≡ false
    → (task_at (check o e s).after t ≡ task_at s t) × (slice_get (check o e s).after.trays t ≡ slice_get s.trays t)
check_task e t None s h = (refl, refl)
check_task e t (Some b) s h = let a = takes_alike (caller s) b t (first_leaves e s) (eqb-false t (caller s) h) in (a.task, a.tray)

check_table : {M : Type 0} (e : ℕ) (o : Option ℕ) (s : State M) → (check o e s).after.messages ≡ s.messages
check_table e None s = refl
check_table e (Some b) s = kept_table (caller s) b (block_at s b).carries _

alarm_table : {M : Type 0} (e ticks n b : ℕ) (m : Option M) (s : State M) → eqb b n ≡ false
    → slice_get (alarm e ticks m n s).messages b ≡ slice_get s.messages b
alarm_table e ticks n b None s h = refl
alarm_table e ticks n b (Some m) s h = nth-set_other s.messages n b m (eqb-false b n h)

alarm_task : {M : Type 0} (e ticks n : ℕ) (m : Option M) (s : State M)
    → ((alarm e ticks m n s).tasks ≡ s.tasks) × ((alarm e ticks m n s).trays ≡ s.trays)
alarm_task e ticks n None s = (refl, refl)
alarm_task e ticks n (Some m) s = (refl, refl)

-- ---- Tick

-- who waits does not depend on the alarms
lowered_wakes : {M : Type 0} (s : State M) (rest as' : List AlarmRecord) (t : ℕ) → wakes_at s as' t ≡ false → wakes_at (with_alarms rest s) as' t ≡ false
lowered_wakes s rest [] t h = refl
lowered_wakes s rest (a ∷ as') t h =
    let p = or_parts (contains t (waiting (exchange_at s a.exchange))) (wakes_at s as' t) h in
    or_from (contains t (waiting (exchange_at s a.exchange))) (wakes_at (with_alarms rest s) as' t) p.0 (lowered_wakes s rest as' t p.1)

tick_alike : {M : Type 0} (s : State M) (t : ℕ) → wakes_at s (due s.alarms) t ≡ false
    → Alike (with_alarms (still_running s.alarms) s) (put_due (due s.alarms) (with_alarms (still_running s.alarms) s)) t
tick_alike s t h =
    put_due_alike (due s.alarms) t (with_alarms (still_running s.alarms) s) (lowered_wakes s (still_running s.alarms) (due s.alarms) t h)

-- ---- all 18

module _ {M : Type 0} (reading : List ℕ → Option M) where
  task_part : (s : State M) (c : Call) (n t : ℕ) → named s c t ≡ false → task_at (effect reading s c n).after t ≡ task_at s t
  task_part s (call.Start t' p) n t h = get_or-set_other s.tasks t' t _ no_task (eqb-false t t' h)
  task_part s (call.Open e) n t h = refl
  task_part s (call.Close e) n t h = refl
  task_part s (call.Register e name) n t h = refl
  task_part s (call.Strike name) n t h = refl
  task_part s (call.Post e m) n t h = (post_task e n t (reading m) s h).0
  task_part s call.Tick n t h = (tick_alike s t h).task
  task_part s (call.Send e m) n t h = (post_task e n t (reading m) s h).0
  task_part s (call.Wait e) n t h = (wait_task e t (first_item s e) s h).0
  task_part s (call.Check e) n t h = (check_task e t (first_item s e) s h).0
  task_part s (call.Request r name m) n t h = (request_task r n t (exchange_of s name) (reading m) s h).0
  task_part s (call.Respond b status) n t h = (respond_task b status t (reply_to s b) s h).0
  task_part s (call.Move b e) n t h = (put_alike e b t (out_of_hand b (block_at s b).carries s) h).task
  task_part s (call.Alarm e ticks m) n t h = ap (λ ts. get_or ts t no_task) (alarm_task e ticks n (reading m) s).0
  task_part s (call.Cancel b) n t h = refl
  task_part s (call.Priority p) n t h = get_or-set_other s.tasks (caller s) t _ no_task (eqb-false t (caller s) h)
  task_part s call.End n t h = refl
  task_part s call.Tray n t h = refl

  tray_part : (s : State M) (c : Call) (n t : ℕ) → takers s c t ≡ false → slice_get (effect reading s c n).after.trays t ≡ slice_get s.trays t
  tray_part s (call.Start t' p) n t h = refl
  tray_part s (call.Open e) n t h = refl
  tray_part s (call.Close e) n t h = refl
  tray_part s (call.Register e name) n t h = refl
  tray_part s (call.Strike name) n t h = refl
  tray_part s (call.Post e m) n t h = (post_task e n t (reading m) s h).1
  tray_part s call.Tick n t h = (tick_alike s t h).tray
  tray_part s (call.Send e m) n t h = (post_task e n t (reading m) s h).1
  tray_part s (call.Wait e) n t h = (wait_task e t (first_item s e) s h).1
  tray_part s (call.Check e) n t h = (check_task e t (first_item s e) s h).1
  tray_part s (call.Request r name m) n t h = (request_task r n t (exchange_of s name) (reading m) s h).1
  tray_part s (call.Respond b status) n t h = (respond_task b status t (reply_to s b) s h).1
  tray_part s (call.Move b e) n t h = (put_alike e b t (out_of_hand b (block_at s b).carries s) h).tray
  tray_part s (call.Alarm e ticks m) n t h = ap (λ ts. slice_get ts t) (alarm_task e ticks n (reading m) s).1
  tray_part s (call.Cancel b) n t h = refl
  tray_part s (call.Priority p) n t h = refl
  tray_part s call.End n t h = refl
  tray_part s call.Tray n t h = refl

  table_part : (s : State M) (c : Call) (n b : ℕ) → (needs_block s c && eqb b n) ≡ false
      → slice_get (effect reading s c n).after.messages b ≡ slice_get s.messages b
  table_part s (call.Start t' p) n b h = refl
  table_part s (call.Open e) n b h = refl
  table_part s (call.Close e) n b h = refl
  table_part s (call.Register e name) n b h = refl
  table_part s (call.Strike name) n b h = refl
  table_part s (call.Post e m) n b h = post_table e n b (reading m) s h
  table_part s call.Tick n b h = ap (λ ms. slice_get ms b) (put_due_table (due s.alarms) (with_alarms (still_running s.alarms) s))
  table_part s (call.Send e m) n b h = post_table e n b (reading m) s h
  table_part s (call.Wait e) n b h = ap (λ ms. slice_get ms b) (wait_table e (first_item s e) s)
  table_part s (call.Check e) n b h = ap (λ ms. slice_get ms b) (check_table e (first_item s e) s)
  table_part s (call.Request r name m) n b h = request_table r n b (exchange_of s name) (reading m) s h
  table_part s (call.Respond b' status) n b h = ap (λ ms. slice_get ms b) (respond_table b' status (reply_to s b') s)
  table_part s (call.Move b' e) n b h = ap (λ ms. slice_get ms b) (put_table e b' _)
  table_part s (call.Alarm e ticks m) n b h = alarm_table e ticks n b (reading m) s h
  table_part s (call.Cancel b') n b h = refl
  table_part s (call.Priority p) n b h = refl
  table_part s call.End n b h = refl
  table_part s call.Tray n b h = refl

  pub frame : (s : State M) (c : Call) (n : ℕ) → Frame reading s c n
  frame s c n =
      record {
        tasks = λ t h. ap_task (refusal_of reading s c) t h;
        trays = λ t h. ap_tray (refusal_of reading s c) t h;
        messages = λ b h. ap_table (refusal_of reading s c) b h;
      }
    where
      ap_task : (o : Option Refusal) (t : ℕ) → named s c t ≡ false → task_at (outcome_by reading o s c n).after t ≡ task_at s t
      ap_task (Some r) t h = refl
      ap_task None t h = task_part s c n t h

      ap_tray : (o : Option Refusal) (t : ℕ) → takers s c t ≡ false → slice_get (outcome_by reading o s c n).after.trays t ≡ slice_get s.trays t
      ap_tray (Some r) t h = refl
      ap_tray None t h = tray_part s c n t h

      ap_table : (o : Option Refusal) (b : ℕ) → (needs_block s c && eqb b n) ≡ false → slice_get (outcome_by reading o s c n).after.messages b ≡ slice_get s.messages b
      ap_table (Some r) b h = refl
      ap_table None b h = table_part s c n b h
