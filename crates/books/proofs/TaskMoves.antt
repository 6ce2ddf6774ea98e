-- How a task moves between its places: running, ready, waiting at an exchange. What each move keeps of the groups Tasks and Held.
-- Assumes nothing.
--   on_way t        task t alone is on its way between two places
--   X_in_Y, none_X  how a count changes, and when it is 0
--   given_X         what follows where one task is given another priority
--   leaves_X        from a place to its way, and joins_X, from its way to a place
--   X_tasks         what a call, or settling, does with the tasks
--   held_X          what becomes of the hands
use Rattle.std.proofs.Common.{◌≡◌, ℕ, ◌+◌, ◌<◌, ◌≤◌, Bool, true, false, cond, ◌&&◌, ◌||◌, eqb, ltb, leb, List, [], ◌∷◌, ◌++◌, length, get_or, set, is_some, Some, None, count_by, Option, sym, refl, ap, ◌∙◌, subst, ⊎_elim, arith}
use Rattle.std.proofs.ByRecursion.{All-weaker}
use Rattle.std.proofs.lemmas.List.{get_or_past, get_or-set_other, get_or-set_same, set_past}
use Rattle.std.proofs.lemmas.List.Sums.{get_or-le-sum_by, sum_by-cons, sum_by-set}
use Rattle.std.proofs.lemmas.Bool.{cases_eq, cases_lt, cond-false, cond-true, eq-eqb, eqb-false, eqb-true, false≢true, lt-ltb, ne_eqb, or_parts}
use Rattle.std.specs.List.{AllByRecursion}
use Rattle.ready.specs.LineLaws.{may_join_yes, sound_behind, sound_rest}
use Rattle.ready.proofs.SettleLaws.{settled_best}
use Rattle.ready.specs.Order.{behind, first, joined, listed, may_join, pair, rest}
use Rattle.ready.specs.Settling.{best_runs, dispatched, gives_way, may_yield, settled}
use Rattle.ready.specs.declared.task.ReadyTask.{ReadyTask}
use Rattle.plain.specs.Lookups.{closed_exchange, contains, idle_block, is_number, is_task, no_task, not_absent, occurrences, waiting, waiting_place}
use Rattle.plain.specs.Lookups as place
use Rattle.plain.specs.Moves.{aside, joins, with_waiting}
use Rattle.plain.specs.Openings.{one_if}
use Rattle.plain.specs.Reasons.{task_of}
use Rattle.plain.specs.States.{Exchange}
use Rattle.plain.specs.declared.records.BlockRecord.{BlockRecord}
use Rattle.plain.specs.declared.records.TaskRecord.{TaskRecord}
use Rattle.plain.specs.declared.records.TrayItem.{TrayItem}
use Rattle.books.specs.Deeds.{priority_given, started}
use Rattle.books.specs.Laws.{HasPriority, RunningHas, ready_in, tasks_waiting_in}
use Rattle.books.specs.Runs.{History}
use Rattle.books.proofs.Counting.{one_if_le, one_if_positive, one_if_zero, one_if_same, occurrences_cons, occurrences_push}
use Rattle.books.proofs.Capacity.{tasks_room}
use Rattle.books.proofs.Invariants.{Held, Tasks, exchange_in, holder_of, none_on_way}

abbrev pub on_way : ℕ → ℕ → ℕ
on_way t u = one_if (eqb u t)

-- ---- counts

ready_in_cons : (u : ℕ) (x : ReadyTask) (l : List ReadyTask) → ready_in u (x ∷ l) ≡ one_if (eqb u x.task) + ready_in u l
ready_in_cons u x l = sum_by-cons (λ y. one_if (eqb u y.task)) x l

ready_in_behind : (u t p : ℕ) (l : List ReadyTask) → ready_in u (behind t p l) ≡ ready_in u l + one_if (eqb u t)
ready_in_behind u t p [] = omega arith
ready_in_behind u t p (x ∷ xs) = go (leb x.priority p) (ready_in_behind u t p xs)
  where
    go : (b : Bool) → ready_in u (behind t p xs) ≡ ready_in u xs + one_if (eqb u t)
        → ready_in u (cond b (x ∷ behind t p xs) (pair t p ∷ x ∷ xs)) ≡ ready_in u (x ∷ xs) + one_if (eqb u t)
    go true e = let a = ready_in_cons u x (behind t p xs) in let b = ready_in_cons u x xs in omega arith
    go false e = let a = ready_in_cons u (pair t p) (x ∷ xs) in omega arith

not_listed : (u : ℕ) (l : List ReadyTask) → ready_in u l ≡ 0 → listed u l ≡ false
not_listed u [] none = refl
not_listed u (x ∷ xs) none = go (eqb u x.task) (ready_in_cons u x xs) (not_listed u xs)
  where
    go : (b : Bool) → ready_in u (x ∷ xs) ≡ one_if b + ready_in u xs → (ready_in u xs ≡ 0 → listed u xs ≡ false) → (b || listed u xs) ≡ false
    go true e later = absurd (omega arith)
    go false e later = later (omega arith)

none_ready : (u : ℕ) (l : List ReadyTask) → listed u l ≡ false → ready_in u l ≡ 0
none_ready u [] none = refl
none_ready u (x ∷ xs) none =
    let parts = or_parts (eqb u x.task) (listed u xs) none in
    let a = ready_in_cons u x xs in
    let b = ap one_if parts.0 in
    let c = none_ready u xs parts.1 in
    omega arith

none_occurs : (u : ℕ) (l : List ℕ) → contains u l ≡ false → occurrences u l ≡ 0
none_occurs u [] none = refl
none_occurs u (x ∷ xs) none =
    let parts = or_parts (eqb u x) (contains u xs) none in
    let a = occurrences_cons u x xs in
    let b = ap one_if parts.0 in
    let c = none_occurs u xs parts.1 in
    omega arith

-- no exchange, counted from e, has the task in its line
none_waits : (u e : ℕ) (xs : List Exchange) → not_absent (waiting_place u e xs) ≡ false → tasks_waiting_in u xs ≡ 0
none_waits u e [] none = refl
none_waits u e (x ∷ xs) none = go (contains u (waiting x)) refl none (λ k. none_waits u (e + 1) xs k)
  where
    counted : tasks_waiting_in u (x ∷ xs) ≡ occurrences u (waiting x) + tasks_waiting_in u xs
    counted = sum_by-cons (λ y. occurrences u (waiting y)) x xs

    go : (b : Bool) → contains u (waiting x) ≡ b → not_absent (cond b (place.WaitingAt e) (waiting_place u (e + 1) xs)) ≡ false
        → (not_absent (waiting_place u (e + 1) xs) ≡ false → tasks_waiting_in u xs ≡ 0) → tasks_waiting_in u (x ∷ xs) ≡ 0
    go true t bad later = absurd (false≢true (sym bad))
    go false t rest later = let a = counted in let b = none_occurs u (waiting x) t in let c = later rest in omega arith

-- an exchange changed within the list
waiting_in_set : (u e : ℕ) (xs : List Exchange) (y : Exchange) → e < length xs
    → tasks_waiting_in u (set xs e y) + occurrences u (waiting (exchange_in xs e)) ≡ tasks_waiting_in u xs + occurrences u (waiting y)
waiting_in_set u e xs y below = sum_by-set (λ x. occurrences u (waiting x)) xs e y closed_exchange below

-- who waits is as before
waiting_in_set_same : (u e : ℕ) (xs : List Exchange) (y : Exchange) → waiting y ≡ waiting (exchange_in xs e)
    → tasks_waiting_in u (set xs e y) ≡ tasks_waiting_in u xs
waiting_in_set_same u e xs y same = ⊎_elim within past (cases_lt e (length xs))
  where
    within : e < length xs → tasks_waiting_in u (set xs e y) ≡ tasks_waiting_in u xs
    within below = let a = waiting_in_set u e xs y below in let b = ap (occurrences u) same in omega arith

    past : length xs ≤ e → tasks_waiting_in u (set xs e y) ≡ tasks_waiting_in u xs
    past over = ap (tasks_waiting_in u) (set_past xs e y over)

-- who waits, waits at an exchange that is there
waits_below : (e t : ℕ) (us : List ℕ) (xs : List Exchange) → waiting (exchange_in xs e) ≡ t ∷ us → e < length xs
waits_below e t us xs there = ⊎_elim (λ k. k) past (cases_lt e (length xs))
  where
    past : length xs ≤ e → e < length xs
    past over =
        let a : waiting closed_exchange ≡ t ∷ us = sym (ap waiting (get_or_past xs e closed_exchange over)) ∙ there in
        let z : ◌≡◌ {A = ℕ} 0 1 = cc in absurd (omega arith)

all_behind : (P : ReadyTask → Type 0) (t p : ℕ) (l : List ReadyTask) → P (pair t p) → AllByRecursion P l → AllByRecursion P (behind t p l)
all_behind P t p [] here rest = (here, tt)
all_behind P t p (x ∷ xs) here rest = go (leb x.priority p) (all_behind P t p xs here rest.1)
  where
    go : (b : Bool) → AllByRecursion P (behind t p xs) → AllByRecursion P (cond b (x ∷ behind t p xs) (pair t p ∷ x ∷ xs))
    go true later = (rest.0, later)
    go false later = (here, rest)

priority_in_set : (ts : List TaskRecord) (t u : ℕ) (x : TaskRecord) → x.priority ≡ (get_or ts t no_task).priority
    → (get_or (set ts t x) u no_task).priority ≡ (get_or ts u no_task).priority
priority_in_set ts t u x same = ⊎_elim at other (cases_eq u t)
  where
    here : (get_or (set ts t x) t no_task).priority ≡ (get_or ts t no_task).priority
    here = ⊎_elim (λ below. ap (λ y. y.priority) (get_or-set_same ts t x no_task below) ∙ same)
        (λ over. ap (λ ys. (get_or ys t no_task).priority) (set_past ts t x over)) (cases_lt t (length ts))

    at : u ≡ t → (get_or (set ts t x) u no_task).priority ≡ (get_or ts u no_task).priority
    at e = subst (λ v. (get_or (set ts t x) v no_task).priority ≡ (get_or ts v no_task).priority) (sym e) here

    other : (u ≡ t → ⊥) → (get_or (set ts t x) u no_task).priority ≡ (get_or ts u no_task).priority
    other apart = ap (λ y. y.priority) (get_or-set_other ts t u x no_task apart)

-- ---- one task is given another priority

module _ (g g' : ℕ → ℕ) (t p : ℕ) (given : (u : ℕ) → g' u ≡ cond (eqb u t) p (g u)) where
  given_same : g' t ≡ p
  given_same = given t ∙ cond-true (eqb t t) p (g t) (eq-eqb t t refl)

  given_other : (u : ℕ) → (u ≡ t → ⊥) → g' u ≡ g u
  given_other u apart = given u ∙ cond-false (eqb u t) p (g u) (ne_eqb u t apart)

  given_range : (u : ℕ) → p < 32 → ((u ≡ t → ⊥) → g u < 32) → g' u < 32
  given_range u here other =
      ⊎_elim (λ e. subst (λ q. q < 32) (sym (ap g' e ∙ given_same)) here) (λ apart. subst (λ q. q < 32) (sym (given_other u apart)) (other apart)) (cases_eq u t)

  given_record : (ts : List TaskRecord) (x : TaskRecord) → x.priority ≡ p → t < length ts → (u : ℕ)
      → ((u ≡ t → ⊥) → (get_or ts u no_task).priority ≡ g u) → (get_or (set ts t x) u no_task).priority ≡ g' u
  given_record ts x is below u was = ⊎_elim at other (cases_eq u t)
    where
      at : u ≡ t → (get_or (set ts t x) u no_task).priority ≡ g' u
      at e =
          subst (λ v. (get_or (set ts t x) v no_task).priority ≡ g' v) (sym e)
          (ap (λ y. y.priority) (get_or-set_same ts t x no_task below) ∙ is ∙ sym given_same)

      other : (u ≡ t → ⊥) → (get_or (set ts t x) u no_task).priority ≡ g' u
      other apart = ap (λ y. y.priority) (get_or-set_other ts t u x no_task apart) ∙ was apart ∙ sym (given_other u apart)

  given_pair : (x : ReadyTask) → eqb t x.task ≡ false → HasPriority g x → HasPriority g' x
  given_pair x apart has = has ∙ sym (given_other x.task (λ e. eqb-false t x.task apart (sym e)))

  given_ready : (l : List ReadyTask) → listed t l ≡ false → AllByRecursion (HasPriority g) l → AllByRecursion (HasPriority g') l
  given_ready [] absent has = tt
  given_ready (x ∷ l) absent has =
      let parts = or_parts (eqb t x.task) (listed t l) absent in
      (given_pair x parts.0 has.0, given_ready l parts.1 has.1)

  given_running : (r : Option ReadyTask) → is_task t r ≡ false → RunningHas g r → RunningHas g' r
  given_running None absent has = tt
  given_running (Some x) absent has = given_pair x absent has

-- ---- moves of one task

-- the two facts of a history that the groups speak of
pub renewed : {M : Type 0} {h h' : History M} {n : ℕ} {ts : List TaskRecord} {xs : List Exchange} {l : List ReadyTask} {r : Option ReadyTask} {w : ℕ → ℕ}
    → ((t : ℕ) → started h' t ≡ started h t) → ((t : ℕ) → priority_given h' t ≡ priority_given h t)
    → Tasks h n ts xs l r w → Tasks h' n ts xs l r w
renewed {h = h} {h' = h'} {l = l} {r = r} same_started same_given k =
    record {
      once = λ t. k.once t ∙ ap one_if (sym (same_started t));
      small = λ t s. k.small t (was t s);
      priority = λ t s. k.priority t (was t s) ∙ sym (same_given t);
      range = λ t s. subst (λ p. p < 32) (sym (same_given t)) (k.range t (was t s));
      line = k.line;
      ready_priority = All-weaker (HasPriority (priority_given h)) (HasPriority (priority_given h')) (λ x e. e ∙ sym (same_given x.task)) l k.ready_priority;
      running_priority = running r k.running_priority;
    }
  where
    was : (t : ℕ) → started h' t ≡ true → started h t ≡ true
    was t s = sym (same_started t) ∙ s

    running : (o : Option ReadyTask) → RunningHas (priority_given h) o → RunningHas (priority_given h') o
    running None p = tt
    running (Some x) p = p ∙ sym (same_given x.task)

pub on_way_started : {M : Type 0} {h : History M} {n : ℕ} {ts : List TaskRecord} {xs : List Exchange} {l : List ReadyTask} {r : Option ReadyTask}
    → (t : ℕ) → Tasks h n ts xs l r (on_way t) → started h t ≡ true
on_way_started {h = h} t k = one_if_positive (started h t) (let a = k.once t in let b = one_if_same t in omega arith)

on_way_unlisted : {M : Type 0} {h : History M} {n : ℕ} {ts : List TaskRecord} {xs : List Exchange} {l : List ReadyTask} {r : Option ReadyTask}
    → (t : ℕ) → Tasks h n ts xs l r (on_way t) → listed t l ≡ false
on_way_unlisted {h = h} {l = l} t k =
    not_listed t l (let a = k.once t in let b = one_if_same t in let c = one_if_le (started h t) in omega arith)

module _ {M : Type 0} {h : History M} {n : ℕ} {ts : List TaskRecord} {xs : List Exchange} {l : List ReadyTask} {r : Option ReadyTask} where
  -- from its way to the ready line
  stands_behind : (t p : ℕ) → n ≤ 64 → p ≡ priority_given h t → Tasks h n ts xs l r (on_way t) → Tasks h n ts xs (behind t p l) r none_on_way
  stands_behind t p few given k =
      let s = on_way_started t k in
      let below = k.small t s in
      let in_range = k.range t s in
      record {
        once = λ u. let a = k.once u in let b = ready_in_behind u t p l in omega arith;
        small = k.small;
        priority = k.priority;
        range = k.range;
        line = sound_behind t p l (lt-ltb t 64 (omega arith)) (lt-ltb p 32 (omega arith)) (on_way_unlisted t k) k.line;
        ready_priority = all_behind (HasPriority (priority_given h)) t p l given k.ready_priority;
        running_priority = k.running_priority;
      }

  may_join_on_way : (t p : ℕ) → n ≤ 64 → p ≡ priority_given h t → Tasks h n ts xs l r (on_way t) → may_join t p l ≡ true
  may_join_on_way t p few given k =
      let s = on_way_started t k in
      let below = k.small t s in
      let in_range = k.range t s in
      may_join_yes t p l (omega arith) (omega arith) (on_way_unlisted t k)

  pub joins_ready : (t p : ℕ) → n ≤ 64 → p ≡ priority_given h t → Tasks h n ts xs l r (on_way t) → Tasks h n ts xs (joined t p l) r none_on_way
  joins_ready t p few given k =
      subst (λ m. Tasks h n ts xs m r none_on_way) (sym (cond-true (may_join t p l) (behind t p l) l (may_join_on_way t p few given k)))
      (stands_behind t p few given k)

  -- only the exchanges change, and with them who waits
  recounted : {w w' : ℕ → ℕ} {xs' : List Exchange} → ((u : ℕ) → tasks_waiting_in u xs' + w' u ≡ tasks_waiting_in u xs + w u)
      → Tasks h n ts xs l r w → Tasks h n ts xs' l r w'
  recounted counts k =
      record {
        once = λ u. let a = k.once u in let b = counts u in omega arith;
        small = k.small;
        priority = k.priority;
        range = k.range;
        line = k.line;
        ready_priority = k.ready_priority;
        running_priority = k.running_priority;
      }

  -- from the front of a waiting line to its way
  pub leaves_waiting : (e t : ℕ) (us : List ℕ) (y : Exchange) → waiting (exchange_in xs e) ≡ t ∷ us → waiting y ≡ us
      → Tasks h n ts xs l r none_on_way → Tasks h n ts (set xs e y) l r (on_way t)
  leaves_waiting e t us y was is k = recounted counts k
    where
      counts : (u : ℕ) → tasks_waiting_in u (set xs e y) + on_way t u ≡ tasks_waiting_in u xs + 0
      counts u =
          let a = waiting_in_set u e xs y (waits_below e t us xs was) in
          let b = ap (occurrences u) was in
          let c = ap (occurrences u) is in
          let d = occurrences_cons u t us in
          omega arith

  -- from its way to the end of a waiting line, which is never full
  joins_waiting : (e t : ℕ) → e < length xs → n ≤ 64
      → Tasks h n ts xs l r (on_way t) → Tasks h n ts (set xs e (with_waiting t (exchange_in xs e))) l r none_on_way
  joins_waiting e t below few k = recounted counts k
    where
      room : length (waiting (exchange_in xs e)) < 256
      room = tasks_room k e t (let a = k.once t in let b = one_if_same t in let c = one_if_le (started h t) in omega arith) few

      at_end : joins t (waiting (exchange_in xs e)) ≡ waiting (exchange_in xs e) ++ t ∷ []
      at_end =
          cond-true (ltb (length (waiting (exchange_in xs e))) 256) (waiting (exchange_in xs e) ++ t ∷ []) (waiting (exchange_in xs e))
          (lt-ltb (length (waiting (exchange_in xs e))) 256 room)

      counts : (u : ℕ) → tasks_waiting_in u (set xs e (with_waiting t (exchange_in xs e))) + 0 ≡ tasks_waiting_in u xs + on_way t u
      counts u =
          let a = waiting_in_set u e xs (with_waiting t (exchange_in xs e)) below in
          let b = ap (occurrences u) at_end in
          let c = occurrences_push u (waiting (exchange_in xs e)) t in
          omega arith

  -- an exchange changes, and who waits there does not
  pub others_move : {w : ℕ → ℕ} → (e : ℕ) (y : Exchange) → waiting y ≡ waiting (exchange_in xs e) → Tasks h n ts xs l r w
      → Tasks h n ts (set xs e y) l r w
  others_move e y same k = recounted (λ u. let a = waiting_in_set_same u e xs y same in omega arith) k

  -- a task's tray changes
  pub tray_changes : {w : ℕ → ℕ} → (t : ℕ) (i : Option TrayItem) → Tasks h n ts xs l r w
      → Tasks h n (set ts t (record { priority = (get_or ts t no_task).priority; tray = i })) xs l r w
  tray_changes t i k =
      record {
        once = k.once;
        small = k.small;
        priority = λ u s. priority_in_set ts t u (record { priority = (get_or ts t no_task).priority; tray = i }) refl ∙ k.priority u s;
        range = k.range;
        line = k.line;
        ready_priority = k.ready_priority;
        running_priority = k.running_priority;
      }

  -- from its way to running
  goes_running : (x : ReadyTask) → x.priority ≡ priority_given h x.task → r ≡ None
      → Tasks h n ts xs l r (on_way x.task) → Tasks h n ts xs l (Some x) none_on_way
  goes_running x given idle k =
      record {
        once = λ u. let a = k.once u in let b = ap (λ o. one_if (is_task u o)) idle in omega arith;
        small = k.small;
        priority = k.priority;
        range = k.range;
        line = k.line;
        ready_priority = k.ready_priority;
        running_priority = given;
      }

module _ {M : Type 0} {h : History M} {n : ℕ} {ts : List TaskRecord} {xs : List Exchange} where
  -- from running to its way
  leaves_running : {l : List ReadyTask} → (x : ReadyTask) → Tasks h n ts xs l (Some x) none_on_way → Tasks h n ts xs l None (on_way x.task)
  leaves_running x k =
      record {
        once = λ u. let a = k.once u in omega arith;
        small = k.small;
        priority = k.priority;
        range = k.range;
        line = k.line;
        ready_priority = k.ready_priority;
        running_priority = tt;
      }

  -- from the front of the ready line to its way
  leaves_ready : (x : ReadyTask) (l : List ReadyTask) {r : Option ReadyTask} → Tasks h n ts xs (x ∷ l) r none_on_way → Tasks h n ts xs l r (on_way x.task)
  leaves_ready x l k =
      record {
        once = λ u. let a = k.once u in let b = ready_in_cons u x l in omega arith;
        small = k.small;
        priority = k.priority;
        range = k.range;
        line = sound_rest x l k.line;
        ready_priority = k.ready_priority.1;
        running_priority = k.running_priority;
      }

  dispatched_tasks : (l : List ReadyTask) → Tasks h n ts xs l None none_on_way → Tasks h n ts xs (rest l) (first l) none_on_way
  dispatched_tasks [] k = k
  dispatched_tasks (x ∷ l) k = goes_running x k.ready_priority.0 refl (leaves_ready x l k)

  -- the running task joins the ready line
  gives_way_tasks : {l : List ReadyTask} → (x : ReadyTask) → n ≤ 64 → Tasks h n ts xs l (Some x) none_on_way
      → Tasks h n ts xs (behind x.task x.priority l) None none_on_way
  gives_way_tasks x few k = stands_behind x.task x.priority few k.running_priority (leaves_running x k)

  pub settled_tasks : (l : List ReadyTask) (r : Option ReadyTask) → n ≤ 64 → Tasks h n ts xs l r none_on_way
      → Tasks h n ts xs (settled l r).0 (settled l r).1 none_on_way
  settled_tasks l None few k = dispatched_tasks l k
  settled_tasks l (Some x) few k = go (gives_way l x)
    where
      after : List ReadyTask × Option ReadyTask
      after = dispatched (behind x.task x.priority l)

      go : (b : Bool) → Tasks h n ts xs (cond b after (l, Some x)).0 (cond b after (l, Some x)).1 none_on_way
      go true = dispatched_tasks (behind x.task x.priority l) (gives_way_tasks x few k)
      go false = k

  pub aside_tasks : (when : List ReadyTask → ReadyTask → Bool) (l : List ReadyTask) (r : Option ReadyTask) → n ≤ 64 → Tasks h n ts xs l r none_on_way
      → Tasks h n ts xs (aside when l r).0 (aside when l r).1 none_on_way
  aside_tasks when l None few k = k
  aside_tasks when l (Some x) few k = go (when l x && may_join x.task x.priority l)
    where
      given_way : List ReadyTask × Option ReadyTask
      given_way = (behind x.task x.priority l, None)

      go : (b : Bool) → Tasks h n ts xs (cond b given_way (l, Some x)).0 (cond b given_way (l, Some x)).1 none_on_way
      go true = gives_way_tasks x few k
      go false = k

  may_yield_running : (l : List ReadyTask) (r : Option ReadyTask) → n ≤ 64 → Tasks h n ts xs l r none_on_way → may_yield l r ≡ true
  may_yield_running l None few k = refl
  may_yield_running l (Some x) few k = may_join_on_way x.task x.priority few k.running_priority (leaves_running x k)

  pub settled_best_runs : (l : List ReadyTask) (r : Option ReadyTask) → n ≤ 64 → Tasks h n ts xs l r none_on_way
      → best_runs (settled l r).0 (settled l r).1 ≡ true
  settled_best_runs l r few k = settled_best l r k.line (may_yield_running l r few k)

  -- ---- the running task's calls

  pub running_started : {l : List ReadyTask} (r : Option ReadyTask) → is_some r ≡ true → Tasks h n ts xs l r none_on_way → started h (task_of r) ≡ true
  running_started None there k = absurd (false≢true there)
  running_started (Some x) there k = on_way_started x.task (leaves_running x k)

  pub waits_tasks : {l : List ReadyTask} (r : Option ReadyTask) (e : ℕ) → is_some r ≡ true → e < length xs → n ≤ 64 → Tasks h n ts xs l r none_on_way
      → Tasks h n ts (set xs e (with_waiting (task_of r) (exchange_in xs e))) l None none_on_way
  waits_tasks None e there below few k = absurd (false≢true there)
  waits_tasks (Some x) e there below few k = joins_waiting e x.task below few (leaves_running x k)

module _ {M : Type 0} {h h' : History M} {n : ℕ} {ts : List TaskRecord} {xs : List Exchange} {l : List ReadyTask} where
  -- the running task ends
  pub end_tasks : (r : Option ReadyTask) → is_some r ≡ true
      → ((u : ℕ) → started h' u ≡ cond (eqb u (task_of r)) false (started h u)) → ((u : ℕ) → priority_given h' u ≡ priority_given h u)
      → Tasks h n ts xs l r none_on_way → Tasks h' n ts xs l None none_on_way
  end_tasks None there ended same k = absurd (false≢true there)
  end_tasks (Some x) there ended same k =
      record {
        once = λ u. once_at u (eqb u x.task) (k.once u) (ended u);
        small = λ u s. k.small u (was u s);
        priority = λ u s. k.priority u (was u s) ∙ sym (same u);
        range = λ u s. subst (λ p. p < 32) (sym (same u)) (k.range u (was u s));
        line = k.line;
        ready_priority = All-weaker (HasPriority (priority_given h)) (HasPriority (priority_given h')) (λ y e. e ∙ sym (same y.task)) l k.ready_priority;
        running_priority = tt;
      }
    where
      once_at : (u : ℕ) (b : Bool) → one_if b + ready_in u l + tasks_waiting_in u xs + 0 ≡ one_if (started h u) → started h' u ≡ cond b false (started h u)
          → 0 + ready_in u l + tasks_waiting_in u xs + 0 ≡ one_if (started h' u)
      once_at u true o e = let a = one_if_le (started h u) in let c = ap one_if e in omega arith
      once_at u false o e = let c = ap one_if e in omega arith

      go : (u : ℕ) (b : Bool) → started h' u ≡ cond b false (started h u) → started h' u ≡ true → started h u ≡ true
      go u true e s = absurd (false≢true (sym e ∙ s))
      go u false e s = sym e ∙ s

      was : (u : ℕ) → started h' u ≡ true → started h u ≡ true
      was u s = go u (eqb u x.task) (ended u) s

  -- the running task's priority changes
  pub priority_tasks : (r : Option ReadyTask) (p : ℕ) (x : TaskRecord) → x.priority ≡ p → is_some r ≡ true → p < 32 → length ts ≡ n
      → ((u : ℕ) → started h' u ≡ started h u) → ((u : ℕ) → priority_given h' u ≡ cond (eqb u (task_of r)) p (priority_given h u))
      → Tasks h n ts xs l r none_on_way → Tasks h' n (set ts (task_of r) x) xs l (Some (pair (task_of r) p)) none_on_way
  priority_tasks None p x here there in_range size same given k = absurd (false≢true there)
  priority_tasks (Some y) p x here there in_range size same given k =
      let below = k.small y.task (running_started (Some y) refl k) in
      record {
        once = λ u. let a = k.once u in let b = ap one_if (same u) in omega arith;
        small = λ u s. k.small u (was u s);
        priority = λ u s. given_record (priority_given h) (priority_given h') y.task p given ts x here (omega arith) u (λ apart. k.priority u (was u s));
        range = λ u s. given_range (priority_given h) (priority_given h') y.task p given u in_range (λ apart. k.range u (was u s));
        line = k.line;
        ready_priority = given_ready (priority_given h) (priority_given h') y.task p given l (on_way_unlisted y.task (leaves_running y k)) k.ready_priority;
        running_priority = sym (given_same (priority_given h) (priority_given h') y.task p given);
      }
    where
      was : (u : ℕ) → started h' u ≡ true → started h u ≡ true
      was u s = sym (same u) ∙ s

  -- a task that is nowhere is started, and on its way
  pub start_tasks : {r : Option ReadyTask} (t p : ℕ) (x : TaskRecord) → x.priority ≡ p → started h t ≡ false → t < n → p < 32 → length ts ≡ n
      → ((u : ℕ) → started h' u ≡ cond (eqb u t) true (started h u)) → ((u : ℕ) → priority_given h' u ≡ cond (eqb u t) p (priority_given h u))
      → Tasks h n ts xs l r none_on_way → Tasks h' n (set ts t x) xs l r (on_way t)
  start_tasks {r = r} t p x here new below in_range size begun given k =
      let absent = k.once t in
      let none = ap one_if new in
      record {
        once = λ u. once_at u (eqb u t) refl (begun u) (k.once u);
        small = λ u s. ⊎_elim (λ e. subst (λ v. v < n) (sym e) below) (λ apart. k.small u (was u apart s)) (cases_eq u t);
        priority = λ u s. given_record (priority_given h) (priority_given h') t p given ts x here (omega arith) u (λ apart. k.priority u (was u apart s));
        range = λ u s. given_range (priority_given h) (priority_given h') t p given u in_range (λ apart. k.range u (was u apart s));
        line = k.line;
        ready_priority = given_ready (priority_given h) (priority_given h') t p given l (not_listed t l (omega arith)) k.ready_priority;
        running_priority = given_running (priority_given h) (priority_given h') t p given r (one_if_zero (is_task t r) (omega arith)) k.running_priority;
      }
    where
      was : (u : ℕ) → (u ≡ t → ⊥) → started h' u ≡ true → started h u ≡ true
      was u apart s = sym (begun u ∙ cond-false (eqb u t) true (started h u) (ne_eqb u t apart)) ∙ s

      once_at : (u : ℕ) (b : Bool) → eqb u t ≡ b → started h' u ≡ cond b true (started h u)
          → one_if (is_task u r) + ready_in u l + tasks_waiting_in u xs + 0 ≡ one_if (started h u)
          → one_if (is_task u r) + ready_in u l + tasks_waiting_in u xs + one_if (eqb u t) ≡ one_if (started h' u)
      once_at u true e is o =
          let a = ap one_if is in
          let b = ap one_if e in
          let c = ap one_if (ap (started h) (eqb-true u t e) ∙ new) in
          omega arith
      once_at u false e is o = let a = ap one_if is in let b = ap one_if e in omega arith

-- a task that is found nowhere is not started
pub absent_not_started : {M : Type 0} {h : History M} {n : ℕ} {ts : List TaskRecord} {xs : List Exchange} {l : List ReadyTask} {r : Option ReadyTask}
    → (t : ℕ) → not_absent (cond (is_task t r) place.Running (cond (listed t l) place.Ready (waiting_place t 0 xs))) ≡ false
    → Tasks h n ts xs l r none_on_way → started h t ≡ false
absent_not_started {h = h} {xs = xs} {l = l} {r = r} t absent k = go (is_task t r) (listed t l) refl refl absent
  where
    go : (a b : Bool) → is_task t r ≡ a → listed t l ≡ b → not_absent (cond a place.Running (cond b place.Ready (waiting_place t 0 xs))) ≡ false → started h t ≡ false
    go true true p q bad = absurd (false≢true (sym bad))
    go true false p q bad = absurd (false≢true (sym bad))
    go false true p q bad = absurd (false≢true (sym bad))
    go false false p q nowhere =
        let a = k.once t in
        let b = ap one_if p in
        let c = none_ready t l q in
        let d = none_waits t 0 xs nowhere in
        one_if_zero (started h t) (omega arith)

-- ---- hands

pub held_set : {M : Type 0} {h : History M} {bs : List BlockRecord} (b : ℕ) (x : BlockRecord) → ((t : ℕ) → x.holder ≡ Some t → started h t ≡ true)
    → Held h bs → Held h (set bs b x)
held_set {h = h} {bs = bs} b x here k = record { held = λ c t e. ⊎_elim (at c t e) (other c t e) (cases_eq c b) }
  where
    other : (c t : ℕ) → holder_of (set bs b x) c ≡ Some t → (c ≡ b → ⊥) → started h t ≡ true
    other c t e apart = k.held c t (sym (ap (λ y. y.holder) (get_or-set_other bs b c x idle_block apart)) ∙ e)

    at : (c t : ℕ) → holder_of (set bs b x) c ≡ Some t → c ≡ b → started h t ≡ true
    at c t e same = ⊎_elim
        (λ below. here t (sym (ap (λ y. y.holder) (get_or-set_same bs b x idle_block below)) ∙ ap (holder_of (set bs b x)) (sym same) ∙ e))
        (λ over. k.held c t (sym (ap (λ ys. holder_of ys c) (set_past bs b x over)) ∙ e))
        (cases_lt b (length bs))

pub held_renewed : {M : Type 0} {h h' : History M} {bs : List BlockRecord} → ((t : ℕ) → started h t ≡ true → started h' t ≡ true) → Held h bs → Held h' bs
held_renewed later k = record { held = λ b t e. later t (k.held b t e) }

-- a task with no request in hand ends
pub held_ended : {M : Type 0} {h h' : History M} {bs : List BlockRecord} (t : ℕ) → count_by (λ x. is_number t x.holder) bs ≡ 0
    → ((u : ℕ) → started h' u ≡ cond (eqb u t) false (started h u)) → Held h bs → Held h' bs
held_ended {h = h} {bs = bs} t none ended k =
    record { held = λ b u e. ended u ∙ cond-false (eqb u t) false (started h u) (ne_eqb u t (apart b u e)) ∙ k.held b u e }
  where
    apart : (b u : ℕ) → holder_of bs b ≡ Some u → u ≡ t → ⊥
    apart b u e same = ⊎_elim within past (cases_lt b (length bs))
      where
        within : b < length bs → ⊥
        within below =
            let a = get_or-le-sum_by (λ x. one_if (is_number t x.holder)) bs b idle_block below in
            let c : one_if (is_number t (holder_of bs b)) ≡ 1 = ap (λ o. one_if (is_number t o)) (e ∙ ap Some same) ∙ one_if_same t in
            omega arith

        past : length bs ≤ b → ⊥
        past over =
            let a : None ≡ Some u = sym (ap (λ y. y.holder) (get_or_past bs b idle_block over)) ∙ e in
            let z : ◌≡◌ {A = ℕ} 0 1 = cc in omega arith
