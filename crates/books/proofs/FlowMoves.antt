-- One put, and the several puts of a Tick, as what lies between two states. Assumes nothing.
--   From u v p     Between, of two states
--   Lines          a task waits at most once, and has its places
--   PutOf u v e b  all that a put of block b at e leaves
use Rattle.std.proofs.Common.{◌≡◌, ℕ, zero, suc, ◌+◌, ◌<◌, ◌≤◌, Bool, true, cond, eqb, ltb, List, [], ◌∷◌, map, length, get_or, set, Some, None, Option, sym, refl, ap, ◌∙◌, subst, arith}
use Rattle.std.proofs.lemmas.Bool.{eq-eqb, ltb-true}
use Rattle.std.proofs.lemmas.List.{get_or-set_same, get_or-set_other, length-set}
use Rattle.std.proofs.ByRecursion.{All-weaker}
use Rattle.std.proofs.lemmas.List.Sums.{sum_by-cons, sum_by-set}
use Rattle.std.specs.List.{slice_get, AllByRecursion}
use Rattle.ready.specs.declared.task.ReadyTask.{ReadyTask}
use Rattle.plain.specs.Effects.{put_due}
use Rattle.plain.specs.Lookups.{closed_exchange, exchange_at, first_of, is_open, items, no_task, occurrences, task_at, waiting}
use Rattle.plain.specs.Moves.{behind_first, first_leaves, item_of, keeps, put, put_to, queues, readied, with_item, with_tray, without_first, written_if}
use Rattle.plain.specs.Openings.{one_if}
use Rattle.plain.specs.States.{Exchange, State, with_blocks, with_free, with_ready, with_trays}
use Rattle.plain.specs.declared.records.AlarmRecord.{AlarmRecord}
use Rattle.plain.specs.declared.records.BlockRecord.{BlockRecord}
use Rattle.plain.specs.declared.records.Carries.{Carries}
use Rattle.plain.specs.declared.records.Carries.TheVariants as carries
use Rattle.plain.specs.declared.records.TaskRecord.{TaskRecord}
use Rattle.plain.specs.declared.records.TrayItem.{TrayItem}
use Rattle.books.specs.Deeds.{Item, alarm_given, alarm_put, due_put, in_tray, item_in, item_with, put_here, tray_shown, waiting_items}
use Rattle.books.specs.Laws.{alarms_in, tasks_waiting_in, waiting_in}
use Rattle.books.specs.Runs.{History}
use Rattle.plain.proofs.PlaceLaws.{nth-set_other, nth-set_same}
use Rattle.books.proofs.Counting.{one_if_positive, occurrences_first, occurrences_push, waiting_le_all}
use Rattle.books.proofs.Accepts.{open_below}
use Rattle.books.proofs.FlowBetween.{Between, delivered, items_behind, joins_room, map_same, no_items, queued, then, unmoved}
use Rattle.books.proofs.FlowLists.{at_set, line_room, nth-there}
use Rattle.books.proofs.Invariants.{OpenIn, carried, exchange_in}

-- ---- a block taken is in the hand or free, and carries what it carried

pub carried_kept : (bs : List BlockRecord) (b k : ℕ) (h : Option ℕ)
    → carried (set bs b (record { carries = carried bs b; holder = h })) k ≡ carried bs k
carried_kept [] b k h = refl
carried_kept (r ∷ bs) zero zero h = refl
carried_kept (r ∷ bs) zero (suc k) h = refl
carried_kept (r ∷ bs) (suc b) zero h = refl
carried_kept (r ∷ bs) (suc b) (suc k) h = carried_kept bs b k h

module _ {M : Type 0} where
  pub record KeepsAs (s v : State M) : Type 0 where
    pub free_after : List Bool
    pub blocks_after : List BlockRecord
    pub is : v ≡ with_free free_after (with_blocks blocks_after s)
    pub same : (k : ℕ) → carried blocks_after k ≡ carried s.blocks k

  pub keeps_as : (t b : ℕ) (c : Carries) (s : State M) → KeepsAs s (keeps t b c s)
  keeps_as t b carries.Message s = record { free_after = set s.free b true; blocks_after = s.blocks; is = refl; same = λ k. refl }
  keeps_as t b (carries.Request r) s =
      record {
        free_after = s.free;
        blocks_after = set s.blocks b (record { carries = carried s.blocks b; holder = Some t });
        is = refl;
        same = λ k. carried_kept s.blocks b k (Some t);
      }
  keeps_as t b (carries.Reply status) s = record { free_after = set s.free b true; blocks_after = s.blocks; is = refl; same = λ k. refl }
  keeps_as t b carries.Alarm s = record { free_after = set s.free b true; blocks_after = s.blocks; is = refl; same = λ k. refl }

-- ---- trays

pub length-written : {M : Type 0} (t : ℕ) (o : Option M) (rs : List M) → length (written_if t o rs) ≡ length rs
length-written t None rs = refl
length-written t (Some m) rs = length-set rs t m

-- the task's tray shows what was given, with its message
pub tray_given : {M : Type 0} (t : ℕ) (ts : List TaskRecord) (rs : List M) (p : ℕ) (i : TrayItem) (o : Option M) (m : M)
    → o ≡ Some m → t < length ts → t < length rs
    → tray_shown (get_or (set ts t (record { priority = p; tray = Some i })) t no_task).tray (slice_get (written_if t o rs) t) ≡ item_with i o ∷ []
tray_given t ts rs p i o m there a b =
    ap (λ r. tray_shown r.tray (slice_get (written_if t o rs) t)) (get_or-set_same ts t (record { priority = p; tray = Some i }) no_task a)
    ∙ ap (λ z. item_with i z ∷ []) (ap (λ z. slice_get (written_if t z rs) t) there ∙ nth-set_same rs t m b ∙ sym there)

pub tray_spared : {M : Type 0} (t u : ℕ) (ts : List TaskRecord) (rs : List M) (r : TaskRecord) (o : Option M) → (u ≡ t → ⊥)
    → tray_shown (get_or (set ts t r) u no_task).tray (slice_get (written_if t o rs) u) ≡ tray_shown (get_or ts u no_task).tray (slice_get rs u)
tray_spared {M} t u ts rs r o other =
    ap (λ z. tray_shown z.tray (slice_get (written_if t o rs) u)) (get_or-set_other ts t u r no_task other) ∙ ap (tray_shown (get_or ts u no_task).tray) (place o)
  where
    place : (z : Option M) → slice_get (written_if t z rs) u ≡ slice_get rs u
    place None = refl
    place (Some m) = nth-set_other rs t u m other

-- ---- lines of the exchanges after one of them changed

-- a line that loses its first task has no items before and after
pub leaves_items : (xs : List Exchange) (e t : ℕ) (l : List ℕ) → e < length xs → waiting (exchange_in xs e) ≡ t ∷ l
    → (k : ℕ) → items (exchange_in (set xs e (without_first (exchange_in xs e))) k) ≡ items (exchange_in xs k)
leaves_items xs e t l below first k =
    at_set xs e (without_first (exchange_in xs e)) closed_exchange k below (λ j b x. items x ≡ items (exchange_in xs j))
    (let none = no_items (exchange_in xs e) t l first in items_behind (exchange_in xs e) ∙ ap behind_first none ∙ sym none)
    (λ other. refl)

pub leaves_states : (xs : List Exchange) (e k : ℕ) (y : Exchange) → e < length xs → y.state ≡ (exchange_in xs e).state
    → (exchange_in (set xs e y) k).state ≡ (exchange_in xs k).state
leaves_states xs e k y below same =
    at_set xs e y closed_exchange k below (λ j b x. x.state ≡ (exchange_in xs j).state) same (λ other. refl)

-- ---- one put

module _ {M : Type 0} where
  abbrev pub From : State M → State M → (ℕ → List (Item M)) → Type 0
  From u v p = Between u.exchanges (in_tray u) (waiting_items u) v.exchanges (in_tray v) (waiting_items v) p

  pub record Lines (xs : List Exchange) (ts : List TaskRecord) (rs : List M) : Type 0 where
    pub once : (t : ℕ) → tasks_waiting_in t xs ≤ 1
    pub places : (t : ℕ) → 0 < tasks_waiting_in t xs → (t < length ts) × (t < length rs)

  pub record PutOf (u v : State M) (e b : ℕ) (i : Item M) : Type 0 where
    pub between : From u v (λ k. put_here k (Some e) i)
    pub states : (k : ℕ) → (exchange_in v.exchanges k).state ≡ (exchange_in u.exchanges k).state
    pub lines : Lines v.exchanges v.tasks v.trays
    pub same_items : (k : ℕ) → item_in v k ≡ item_in u k
    pub same_messages : v.messages ≡ u.messages
    pub more : (k : ℕ) → waiting_in k v.exchanges ≤ waiting_in k u.exchanges + one_if (eqb k b)

  -- the items that wait are the same where lines and items are
  pub same_waiting : (u v : State M) (e : ℕ) → ((k : ℕ) → item_in v k ≡ item_in u k) → items (exchange_at v e) ≡ items (exchange_at u e)
      → waiting_items v e ≡ waiting_items u e
  same_waiting u v e same line = ap (map (item_in v)) line ∙ map_same (item_in v) (item_in u) (items (exchange_at u e)) (each (items (exchange_at u e)))
    where
      each : (l : List ℕ) → AllByRecursion (λ k. item_in v k ≡ item_in u k) l
      each [] = tt
      each (k ∷ l) = (same k, each l)

  pub put_none : (u : State M) (e b : ℕ) → OpenIn u.exchanges e → Lines u.exchanges u.tasks u.trays
      → length (items (exchange_at u e)) < 256 → waiting (exchange_at u e) ≡ [] → PutOf u (queues e b u) e b (item_in u b)
  put_none u e b is_there lines small none =
      record {
        between = between;
        states = λ k. leaves_states u.exchanges e k y below refl;
        lines =
            record {
              once = λ t. let k = between.fewer t in let o = lines.once t in omega arith;
              places = λ t h. let k = between.fewer t in lines.places t (omega arith);
            };
        same_items = λ k. refl;
        same_messages = refl;
        more = λ k.
            let a = sum_by-set (λ x. occurrences k (items x)) u.exchanges e y closed_exchange below in
            let c : occurrences k (items y) ≡ occurrences k (items (exchange_at u e)) + one_if (eqb k b) =
            ap (occurrences k) (joins_room b (items (exchange_at u e)) small) ∙ occurrences_push k (items (exchange_at u e)) b in
            omega arith;
      }
    where
      y : Exchange
      y = with_item b (exchange_at u e)

      below : e < length u.exchanges
      below = open_below u.exchanges e is_there

      between : From u (queues e b u) (λ k. put_here k (Some e) (item_in u b))
      between = queued u.exchanges e b (in_tray u) (item_in u) below none small

  -- task t, the first that waits at e, has taken the item i with the message o; rd, fr and bs are ready queue, free and blocks after
  abbrev pub given_to : List ReadyTask → List Bool → List BlockRecord → ℕ → ℕ → TrayItem → Option M → State M → State M
  given_to rd fr bs e t i o u =
      with_ready rd (with_free fr (with_blocks bs (with_trays (written_if t o u.trays) (with_tray t i (first_leaves e u)))))

  pub put_some : (u : State M) (rd : List ReadyTask) (fr : List Bool) (bs : List BlockRecord) (e b t : ℕ) (l : List ℕ) (i : TrayItem) (o : Option M) (m : M)
      → OpenIn u.exchanges e → Lines u.exchanges u.tasks u.trays → waiting (exchange_at u e) ≡ t ∷ l → o ≡ Some m
      → ((k : ℕ) → carried bs k ≡ carried u.blocks k) → PutOf u (given_to rd fr bs e t i o u) e b (item_with i o)
  put_some u rd fr bs e b t l i o m is_there lines first there same =
      record {
        between = between;
        states = λ k. leaves_states u.exchanges e k y below refl;
        lines =
            record {
              once = λ k. let f = between.fewer k in let c = lines.once k in omega arith;
              places = λ k h.
                  let f = between.fewer k in let c = lines.places k (omega arith) in
                  let p = length-set u.tasks t (record { priority = (task_at u t).priority; tray = Some i }) in
                  let q = length-written t o u.trays in (omega arith, omega arith);
            };
        same_items = same_items;
        same_messages = refl;
        more = λ k.
            let a = sum_by-set (λ x. occurrences k (items x)) u.exchanges e y closed_exchange below in
            let c : occurrences k (items y) ≡ 0 = ap (occurrences k) (items_behind (exchange_at u e) ∙ ap behind_first none) in
            omega arith;
      }
    where
      y : Exchange
      y = without_first (exchange_at u e)

      below : e < length u.exchanges
      below = open_below u.exchanges e is_there

      none : items (exchange_at u e) ≡ []
      none = no_items (exchange_at u e) t l first

      same_items : (k : ℕ) → item_in (given_to rd fr bs e t i o u) k ≡ item_in u k
      same_items k = ap (λ c. item_with (item_of k c) (slice_get u.messages k)) (same k)

      has : (t < length u.tasks) × (t < length u.trays)
      has = lines.places t
          (let a = waiting_le_all t u.exchanges e in let c = occurrences_first t l in
          let g : occurrences t (waiting (exchange_at u e)) ≡ occurrences t (t ∷ l) = ap (occurrences t) first in omega arith)

      between : From u (given_to rd fr bs e t i o u) (λ k. put_here k (Some e) (item_with i o))
      between =
          delivered u.exchanges e t l (in_tray u) (in_tray (given_to rd fr bs e t i o u)) (waiting_items u) (waiting_items (given_to rd fr bs e t i o u))
          (item_with i o) below first lines.once
          (tray_given t u.tasks u.trays (task_at u t).priority i o m there has.0 has.1)
          (λ k other. tray_spared t k u.tasks u.trays (record { priority = (task_at u t).priority; tray = Some i }) o other)
          (λ k. same_waiting u (given_to rd fr bs e t i o u) k same_items (leaves_items u.exchanges e t l below first k))
          (ap (map (item_in u)) none)

  pub put_one : (u : State M) (e b : ℕ) → OpenIn u.exchanges e → Lines u.exchanges u.tasks u.trays → b < length u.messages
      → length (items (exchange_at u e)) < 256 → PutOf u (put e b u) e b (item_in u b)
  put_one u e b is_there lines written small = go (waiting (exchange_at u e)) refl
    where
      go : (l : List ℕ) → waiting (exchange_at u e) ≡ l → PutOf u (put_to (first_of l) e b u) e b (item_in u b)
      go [] none = put_none u e b is_there lines small none
      go (t ∷ l) first =
          let k = keeps_as t b (carried u.blocks b)
          (with_trays (written_if t (slice_get u.messages b) u.trays) (with_tray t (item_of b (carried u.blocks b)) (first_leaves e u))) in
          let m = nth-there u.messages b written in
          subst (λ z. PutOf u (readied t z) e b (item_in u b)) (sym k.is)
          (put_some u _ k.free_after k.blocks_after e b t l (item_of b (carried u.blocks b)) (slice_get u.messages b) m.0
          is_there lines first m.1 k.same)

  -- ---- the puts of a Tick

  pub record PutsOf (u v : State M) (p : ℕ → List (Item M)) : Type 0 where
    pub between : From u v p
    pub states : (k : ℕ) → (exchange_in v.exchanges k).state ≡ (exchange_in u.exchanges k).state

  pub put_all : (reading : List ℕ → Option M) (h : History M) (n : ℕ) (l : List AlarmRecord) (u : State M)
      → AllByRecursion (λ a. OpenIn u.exchanges a.exchange) l
      → AllByRecursion (λ a. item_in u a.block ≡ alarm_put a.block (alarm_given reading h a.block)) l
      → Lines u.exchanges u.tasks u.trays → ((b : ℕ) → waiting_in b u.exchanges + alarms_in b l ≤ one_if (ltb b n))
      → length u.messages ≡ n → n ≤ 256 → PutsOf u (put_due l u) (λ e. due_put reading h e l)
  put_all reading h n [] u opens carry lines room long few =
      record { between = unmoved u.exchanges (in_tray u) (waiting_items u) (waiting_items u) (λ e. refl); states = λ k. refl }
  put_all reading h n (a ∷ l) u opens carry lines room long few =
      let more = put_all reading h n l (put a.exchange a.block u)
      (All-weaker (λ x. OpenIn u.exchanges x.exchange) (λ x. OpenIn (put a.exchange a.block u).exchanges x.exchange)
      (λ x o. ap is_open (one.states x.exchange) ∙ o) l opens.1)
      (All-weaker (λ x. item_in u x.block ≡ alarm_put x.block (alarm_given reading h x.block))
      (λ x. item_in (put a.exchange a.block u) x.block ≡ alarm_put x.block (alarm_given reading h x.block))
      (λ x i. one.same_items x.block ∙ i) l carry.1)
      one.lines
      (λ b. let k = one.more b in let c = counted b in let r = room b in omega arith)
      (ap length one.same_messages ∙ long) few in
      record {
        between = then (subst (λ i. From u (put a.exchange a.block u) (λ k. put_here k (Some a.exchange) i)) carry.0 one.between) more.between;
        states = λ k. more.states k ∙ one.states k;
      }
    where
      counted : (b : ℕ) → alarms_in b (a ∷ l) ≡ one_if (eqb b a.block) + alarms_in b l
      counted b = sum_by-cons (λ x. cond (eqb b x.block) 1 0) a l

      on_way : 0 < alarms_in a.block (a ∷ l)
      on_way = let c = counted a.block in let e = ap one_if (eq-eqb a.block a.block refl) in omega arith

      one : PutOf u (put a.exchange a.block u) a.exchange a.block (item_in u a.block)
      one =
          let r = room a.block in let w = on_way in
          let b = ltb-true a.block n (one_if_positive (ltb a.block n) (omega arith)) in
          let s = line_room n u.exchanges (λ c. alarms_in c (a ∷ l)) room a.exchange a.block on_way in
          put_one u a.exchange a.block opens.0 lines (omega arith) (omega arith)
