-- The law of order is kept by every accepted call: what was taken at an exchange, and behind it what waits there, is in order what was put
-- there, messages included. Assumes nothing.
use Rattle.std.proofs.Common.{◌≡◌, ℕ, ◌+◌, ◌<◌, ◌≤◌, Bool, true, false, cond, not, ◌&&◌, eqb, ltb, leb, List, [], ◌∷◌, ◌++◌, map, length, set, is_some, Some, None, Option, sym, refl, ap, ◌∙◌, subst, arith}
use Rattle.std.proofs.lemmas.Bool.{eqb-true, eqb-false, eq-eqb, leb-false, ltb-true, not-false, or_parts, false≢true}
use Rattle.std.proofs.lemmas.List.{append-nil, append_assoc, get_or-set_same, get_or-set_other, length-set}
use Rattle.std.proofs.ByRecursion.{All-weaker}
use Rattle.std.proofs.lemmas.List.Sums.{sum_by-cons}
use Rattle.std.specs.List.{slice_get, flat_map, AllByRecursion}
use Rattle.messages.specs.Bytes.{same_bytes}
use Rattle.pool.specs.Marks.{marked}
use Rattle.ready.specs.declared.task.ReadyTask.{ReadyTask}
use Rattle.plain.specs.Calls.{Call}
use Rattle.plain.specs.Calls as call
use Rattle.plain.specs.Effects.{Outcome, alarm, check, done, due, effect, is_due, put_due, post_read, request, respond, shown, still_running, takes_first, wait}
use Rattle.plain.specs.Lookups.{closed_exchange, exchange_at, exchange_of, first_of, idle_block, is_number, is_open, is_task, items, occurrences, owed_by, task_at, tied_in, waiting}
use Rattle.plain.specs.Moves.{behind_first, first_leaves, hands_out, item_of, joins, keeps, line_capacity, message_item, out_of_hand, post, post_to, put, settles, with_tray, with_waiting, without_first, written_if}
use Rattle.plain.specs.Openings.{one_if}
use Rattle.plain.specs.Reasons.{caller, needs_block, refusal_of, task_of, wrong_tables}
use Rattle.plain.specs.States.{Exchange, State, with_alarms, with_blocks, with_free, with_messages, with_trays}
use Rattle.plain.specs.declared.answer.Answer.TheVariants as answer
use Rattle.plain.specs.declared.records.AlarmRecord.{AlarmRecord}
use Rattle.plain.specs.declared.records.Binding.{Binding}
use Rattle.plain.specs.declared.records.BlockRecord.{BlockRecord}
use Rattle.plain.specs.declared.records.Carries.{Carries}
use Rattle.plain.specs.declared.records.Carries.TheVariants as carries
use Rattle.plain.specs.declared.records.ExchangeState.TheVariants.{Closed, Open}
use Rattle.plain.specs.declared.records.Holds.TheVariants.{Items}
use Rattle.plain.specs.declared.records.Kind.{Kind}
use Rattle.plain.specs.declared.records.TrayItem.{TrayItem}
use Rattle.books.specs.Deeds.{Item, alarm_given, alarm_put, caller_takes, due_put, gone, in_tray, item_in, item_with, message_asked, message_put, opens, put_at, put_here, puts, reply_asked, reply_put, request_put, started, taken_at, takes, waiting_items}
use Rattle.books.specs.Laws.{alarms_in, waiting_in}
use Rattle.books.specs.Runs.{History, Step}
use Rattle.plain.proofs.PlaceLaws.{nth-set_other, nth-set_same}
use Rattle.books.proofs.Counting.{one_if_true, one_if_le, one_if_positive, occurrences_cons, occurrences_first, items_le_all}
use Rattle.books.proofs.Accepts.{NoReason, no_reason, open_below}
use Rattle.books.proofs.FlowBetween.{items_behind, map_same, no_tasks, taken_in_order, then, unmoved}
use Rattle.books.proofs.FlowLists.{at_set, gone_none, line_room, nth-there}
use Rattle.books.proofs.FlowMoves.{From, KeepsAs, Lines, PutOf, PutsOf, keeps_as, leaves_states, put_all, put_none, put_one, put_some, tray_given}
use Rattle.books.proofs.Invariants.{Kept, OpenIn, accepted_step_of, carried, exchange_in, holder_of, owed}

module _ {M : Type 0} where
  -- the accepted step with this outcome
  abbrev step_with : State M → Call → ℕ → Outcome M → Step M
  step_with s c n o = record { before = s; call = c; drawn = n; answer = o.answer; after = settles o.after }

  abbrev FlowAfter : (List ℕ → Option M) → History M → Step M → Type 0
  FlowAfter reading h st =
      (e : ℕ) → OpenIn st.after.exchanges e → taken_at (st ∷ h) e ++ waiting_items st.after e ≡ put_at reading (st ∷ h) e

  -- ---- one more step

  -- what a step takes, and what waits behind it, is what waited and what it puts
  one_more : (reading : List ℕ → Option M) (h : History M) (st : Step M) (e : ℕ) (w : List (Item M)) → opens st e ≡ false
      → taken_at h e ++ w ≡ put_at reading h e → takes st e ++ waiting_items st.after e ≡ w ++ puts reading h st e
      → taken_at (st ∷ h) e ++ waiting_items st.after e ≡ put_at reading (st ∷ h) e
  one_more reading h st e w not_opened before moved =
      rw (not_opened)
      (append_assoc (taken_at h e) (takes st e) (waiting_items st.after e)
      ∙ ap (λ l. taken_at h e ++ l) moved
      ∙ sym (append_assoc (taken_at h e) w (puts reading h st e))
      ∙ ap (λ l. l ++ puts reading h st e) before)

  -- nobody is gone, and the items waiting stay
  still : (reading : List ℕ → Option M) (h : History M) (st : Step M) (e : ℕ) (k : List ℕ)
      → opens st e ≡ false → caller_takes st e ≡ [] → puts reading h st e ≡ []
      → waiting (exchange_at st.after e) ≡ waiting (exchange_at st.before e) ++ k → waiting_items st.after e ≡ waiting_items st.before e
      → taken_at h e ++ waiting_items st.before e ≡ put_at reading h e
      → taken_at (st ∷ h) e ++ waiting_items st.after e ≡ put_at reading (st ∷ h) e
  still reading h st e k not_opened not_taken not_put line same before =
      one_more reading h st e (waiting_items st.before e) not_opened before
      (ap (λ l. (l ++ flat_map (in_tray st.after) (gone (waiting (exchange_at st.before e)) (waiting (exchange_at st.after e)))) ++ waiting_items st.after e) not_taken
      ∙ ap (λ l. flat_map (in_tray st.after) (gone (waiting (exchange_at st.before e)) l) ++ waiting_items st.after e) line
      ∙ ap (λ l. flat_map (in_tray st.after) l ++ waiting_items st.after e) (gone_none (waiting (exchange_at st.before e)) k)
      ∙ same ∙ sym (append-nil (waiting_items st.before e)) ∙ ap (λ l. waiting_items st.before e ++ l) (sym not_put))

  -- something lies between
  moved_by : (reading : List ℕ → Option M) (h : History M) (st : Step M) (p : ℕ → List (Item M)) (e : ℕ)
      → From st.before st.after p → opens st e ≡ false → caller_takes st e ≡ [] → puts reading h st e ≡ p e
      → taken_at h e ++ waiting_items st.before e ≡ put_at reading h e
      → taken_at (st ∷ h) e ++ waiting_items st.after e ≡ put_at reading (st ∷ h) e
  moved_by reading h st p e between not_opened not_taken is_put before =
      one_more reading h st e (waiting_items st.before e) not_opened before
      (ap (λ l. (l ++ flat_map (in_tray st.after) (gone (waiting (exchange_at st.before e)) (waiting (exchange_at st.after e)))) ++ waiting_items st.after e) not_taken
      ∙ taken_in_order between e ∙ ap (λ l. waiting_items st.before e ++ l) (sym is_put))

-- ---- what the tables and the invariant tell

pub record TableLengths {M : Type 0} (s : State M) : Type 0 where
  pub messages : length s.messages ≡ s.sizes.blocks
  pub trays : length s.trays ≡ s.sizes.tasks

pub table_lengths : {M : Type 0} (s : State M) → wrong_tables s ≡ false → TableLengths s
table_lengths s h =
    let p = or_parts (not (eqb (length s.messages) s.sizes.blocks)) (not (eqb (length s.trays) s.sizes.tasks)) h in
    record {
      messages = eqb-true (length s.messages) s.sizes.blocks (not-false (eqb (length s.messages) s.sizes.blocks) p.0);
      trays = eqb-true (length s.trays) s.sizes.tasks (not-false (eqb (length s.trays) s.sizes.tasks) p.1);
    }

-- an exchange that the call names, that is in range and not refused as closed, is open
open_named : (past is : Bool) → past ≡ false → (not past && not is) ≡ false → is ≡ true
open_named past is inside h = go past is inside h
  where
    go : (p o : Bool) → p ≡ false → (not p && not o) ≡ false → o ≡ true
    go true o i k = let z : ◌≡◌ {A = ℕ} 0 1 = cc in absurd (omega arith)
    go false true i k = refl
    go false false i k = sym k

tied_open : (xs : List Exchange) (name : List ℕ) (ns : List Binding) (e : ℕ) → AllByRecursion (λ b. OpenIn xs b.exchange) ns → tied_in name ns ≡ Some e → OpenIn xs e
tied_open xs name [] e all h = let z : ◌≡◌ {A = ℕ} 0 1 = cc in absurd (omega arith)
tied_open xs name (b ∷ ns) e all h = go (same_bytes b.name name) h (λ k. tied_open xs name ns e all.1 k)
  where
    go : (q : Bool) → cond q (Some b.exchange) (tied_in name ns) ≡ Some e → (tied_in name ns ≡ Some e → OpenIn xs e) → OpenIn xs e
    go true k later = let same : b.exchange ≡ e = cc in subst (λ x. OpenIn xs x) same all.0
    go false k later = later k

apart_from : (b : ℕ) (l : List ℕ) → occurrences b l ≡ 0 → AllByRecursion (λ k. k ≡ b → ⊥) l
apart_from b [] h = tt
apart_from b (x ∷ l) h =
    let c = occurrences_cons b x l in
    ((λ (e : x ≡ b). let d = one_if_true (eqb b x) (eq-eqb b x (sym e)) in omega arith), apart_from b l (omega arith))

module _ {M : Type 0} where
  kept_lines : {reading : List ℕ → Option M} {h : History M} {s : State M} → Kept reading h s → TableLengths s → Lines s.exchanges s.tasks s.trays
  kept_lines {reading} {h} {s} k ls =
      record {
        once = λ t. let o = k.tasks.once t in let m = one_if_le (started h t) in omega arith;
        places = λ t there.
            let o = k.tasks.once t in
            let b = k.tasks.small t (one_if_positive (started h t) (omega arith)) in
            let c = k.shape.tasks in let d = ls.trays in (omega arith, omega arith);
      }

  -- a block that is in no line may change what it carries and its message
  unlined : (u v : State M) (b : ℕ) → ((k : ℕ) → (k ≡ b → ⊥) → item_in v k ≡ item_in u k) → waiting_in b u.exchanges ≡ 0 → (e : ℕ)
      → items (exchange_at v e) ≡ items (exchange_at u e) → waiting_items v e ≡ waiting_items u e
  unlined u v b same none e line =
      ap (map (item_in v)) line
      ∙ map_same (item_in v) (item_in u) (items (exchange_at u e))
      (All-weaker (λ k. k ≡ b → ⊥) (λ k. item_in v k ≡ item_in u k) same (items (exchange_at u e))
      (let i = items_le_all b u.exchanges e in apart_from b (items (exchange_at u e)) (omega arith)))

  pub record WasFree (s : State M) (n : ℕ) : Type 0 where
    pub below : n < s.sizes.blocks
    pub unlined : waiting_in n s.exchanges ≡ 0

  was_free : {reading : List ℕ → Option M} {h : History M} {s : State M} → Kept reading h s → (n : ℕ) → marked s.free n ≡ true → WasFree s n
  was_free {reading} {h} {s} k n free =
      let o = k.blocks.once n in let f = one_if_true (marked s.free n) free in let m = one_if_le (ltb n s.sizes.blocks) in
      record { below = ltb-true n s.sizes.blocks (one_if_positive (ltb n s.sizes.blocks) (omega arith)); unlined = omega arith }

  pub record InHand (s : State M) (b : ℕ) : Type 0 where
    pub held : is_some (holder_of s.blocks b) ≡ true
    pub owes : is_some (owed s.blocks b) ≡ true
    pub below : b < s.sizes.blocks
    pub unlined : waiting_in b s.exchanges ≡ 0

  in_hand_tells : {reading : List ℕ → Option M} {h : History M} {s : State M} → Kept reading h s → (t b : ℕ) → is_number t (holder_of s.blocks b) ≡ true → InHand s b
  in_hand_tells {reading} {h} {s} k t b hand = go (holder_of s.blocks b) refl hand
    where
      go : (o : Option ℕ) → holder_of s.blocks b ≡ o → is_number t o ≡ true → InHand s b
      go None e bad = absurd (false≢true bad)
      go (Some u) e there =
          let held : is_some (holder_of s.blocks b) ≡ true = ap is_some e in
          let f = one_if_true (is_some (holder_of s.blocks b)) held in
          let o = k.blocks.once b in let m = one_if_le (ltb b s.sizes.blocks) in
          record {
            held = held;
            owes = k.blocks.hand b u e;
            below = ltb-true b s.sizes.blocks (one_if_positive (ltb b s.sizes.blocks) (omega arith));
            unlined = omega arith;
          }

  -- a block let out of a hand, with what it carries then
  let_out_items : (s : State M) (b : ℕ) (c : Carries) (k : ℕ) → (k ≡ b → ⊥) → item_in (out_of_hand b c s) k ≡ item_in s k
  let_out_items s b c k other =
      let a : carried (set s.blocks b (record { carries = c; holder = None })) k ≡ carried s.blocks k =
      ap (λ r. r.carries) (get_or-set_other s.blocks b k (record { carries = c; holder = None }) idle_block other) in cc

  let_out_item : (s : State M) (b : ℕ) (c : Carries) → b < length s.blocks → item_in (out_of_hand b c s) b ≡ item_with (item_of b c) (slice_get s.messages b)
  let_out_item s b c p =
      let a : carried (set s.blocks b (record { carries = c; holder = None })) b ≡ c =
      ap (λ r. r.carries) (get_or-set_same s.blocks b (record { carries = c; holder = None }) idle_block p) in cc

  -- handing out block n, with what it carries
  handed_items : (s : State M) (n : ℕ) (c : Carries) (m : M) (k : ℕ) → (k ≡ n → ⊥) → item_in (hands_out n c m s) k ≡ item_in s k
  handed_items s n c m k other =
      let a : carried (set s.blocks n (record { carries = c; holder = None })) k ≡ carried s.blocks k =
      ap (λ r. r.carries) (get_or-set_other s.blocks n k (record { carries = c; holder = None }) idle_block other) in
      let b = nth-set_other s.messages n k m other in cc

  handed_item : (s : State M) (n : ℕ) (c : Carries) (m : M) → n < length s.blocks → n < length s.messages
      → item_in (hands_out n c m s) n ≡ item_with (item_of n c) (Some m)
  handed_item s n c m p q =
      let a : carried (set s.blocks n (record { carries = c; holder = None })) n ≡ c =
      ap (λ r. r.carries) (get_or-set_same s.blocks n (record { carries = c; holder = None }) idle_block p) in
      let b = nth-set_same s.messages n m q in cc

  -- ---- puts

  just_put : {u v : State M} {e b : ℕ} {i : Item M} → PutOf u v e b i → PutsOf u v (λ k. put_here k (Some e) i)
  just_put p = record { between = p.between; states = p.states }

  -- s with other blocks, free ones and messages
  abbrev reworked : List BlockRecord → List Bool → List M → State M → State M
  reworked bs fr ms s = with_messages ms (with_blocks bs (with_free fr s))

  -- block b, which is in no line, changes what it carries and its message before it is put
  changed_then_put : (s v : State M) (bs : List BlockRecord) (fr : List Bool) (ms : List M) (b e : ℕ) (i j : Item M)
      → ((k : ℕ) → (k ≡ b → ⊥) → item_in (reworked bs fr ms s) k ≡ item_in s k) → waiting_in b s.exchanges ≡ 0 → i ≡ j
      → PutOf (reworked bs fr ms s) v e b i → PutsOf s v (λ k. put_here k (Some e) j)
  changed_then_put s v bs fr ms b e i j same none is p =
      record {
        between =
            then (unmoved s.exchanges (in_tray s) (waiting_items s) (waiting_items (reworked bs fr ms s)) (λ k. unlined s (reworked bs fr ms s) b same none k refl))
            (subst (λ z. From (reworked bs fr ms s) v (λ k. put_here k (Some e) z)) is p.between);
        states = p.states;
      }

  -- no line is full where a free block is on its way, or one in a hand
  free_room : {reading : List ℕ → Option M} {h : History M} {s : State M} → Kept reading h s → (n : ℕ) → marked s.free n ≡ true → (e : ℕ)
      → length (items (exchange_at s e)) < 256
  free_room {reading} {h} {s} k n free e =
      let f = one_if_true (marked s.free n) free in
      let r = line_room s.sizes.blocks s.exchanges (λ b. one_if (marked s.free b)) (λ b. let o = k.blocks.once b in omega arith) e n (omega arith) in
      let m = k.shape.few_blocks in omega arith

  hand_room : {reading : List ℕ → Option M} {h : History M} {s : State M} → Kept reading h s → (b : ℕ) → is_some (holder_of s.blocks b) ≡ true → (e : ℕ)
      → length (items (exchange_at s e)) < 256
  hand_room {reading} {h} {s} k b held e =
      let f = one_if_true (is_some (holder_of s.blocks b)) held in
      let r = line_room s.sizes.blocks s.exchanges (λ c. one_if (is_some (holder_of s.blocks c))) (λ c. let o = k.blocks.once c in omega arith) e b (omega arith) in
      let m = k.shape.few_blocks in omega arith

  -- a message
  posted : {reading : List ℕ → Option M} {h : History M} (s : State M) → Kept reading h s → TableLengths s → (e : ℕ) (x : M) (n : ℕ)
      → OpenIn s.exchanges e → (waiting (exchange_at s e) ≡ [] → marked s.free n ≡ true)
      → PutsOf s (post e x n s) (λ k. put_here k (Some e) (message_put (Some x)))
  posted s k ls e x n is_there drawn = go (waiting (exchange_at s e)) refl
    where
      go : (l : List ℕ) → waiting (exchange_at s e) ≡ l → PutsOf s (post_to (first_of l) e x n s) (λ j. put_here j (Some e) (message_put (Some x)))
      go [] none =
          let f = was_free k n (drawn none) in
          let z = k.shape.blocks in let y = ls.messages in let b = f.below in
          changed_then_put s _ _ _ _ n e _ (message_put (Some x)) (handed_items s n carries.Message x) f.unlined
          (handed_item s n carries.Message x (omega arith) (omega arith))
          (put_none (hands_out n carries.Message x s) e n is_there (kept_lines k ls) (free_room k n (drawn none) e) none)
      go (t ∷ l) first =
          just_put (put_some s _ s.free s.blocks e n t l message_item (Some x) x is_there (kept_lines k ls) first refl (λ j. refl))

-- ---- alarms that are due

all_due : (P : AlarmRecord → Type 0) (l : List AlarmRecord) → AllByRecursion P l → AllByRecursion P (due l)
all_due P [] h = tt
all_due P (a ∷ l) h = go (is_due a) (all_due P l h.1)
  where
    go : (b : Bool) → AllByRecursion P (due l) → AllByRecursion P (cond b (a ∷ due l) (due l))
    go true later = (h.0, later)
    go false later = later

alarms_cons : (b : ℕ) (a : AlarmRecord) (l : List AlarmRecord) → alarms_in b (a ∷ l) ≡ one_if (eqb b a.block) + alarms_in b l
alarms_cons b a l = sum_by-cons (λ x. cond (eqb b x.block) 1 0) a l

due_fewer : (b : ℕ) (l : List AlarmRecord) → alarms_in b (due l) ≤ alarms_in b l
due_fewer b [] = omega arith
due_fewer b (a ∷ l) = go (is_due a) (due_fewer b l)
  where
    go : (q : Bool) → alarms_in b (due l) ≤ alarms_in b l → alarms_in b (cond q (a ∷ due l) (due l)) ≤ alarms_in b (a ∷ l)
    go true later = let c = alarms_cons b a l in let d = alarms_cons b a (due l) in omega arith
    go false later = let c = alarms_cons b a l in omega arith

all_running : (l : List AlarmRecord) → AllByRecursion (λ a. 0 < alarms_in a.block l) l
all_running [] = tt
all_running (a ∷ l) = (
  let c = alarms_cons a.block a l in let d = one_if_true (eqb a.block a.block) (eq-eqb a.block a.block refl) in omega arith,
  All-weaker (λ x. 0 < alarms_in x.block l) (λ x. 0 < alarms_in x.block (a ∷ l)) (λ x k. let c = alarms_cons x.block a l in omega arith) l (all_running l),
)

-- ---- steps by what they leave

module _ {M : Type 0} (reading : List ℕ → Option M) (h : History M) (s : State M) (kept : Kept reading h s) where
  -- puts, and no take by the caller
  put_flow : (c : Call) (n : ℕ) (o : Outcome M) (p : ℕ → List (Item M)) → PutsOf s o.after p → ((e : ℕ) → opens (step_with s c n o) e ≡ false)
      → ((e : ℕ) → caller_takes (step_with s c n o) e ≡ []) → ((e : ℕ) → puts reading h (step_with s c n o) e ≡ p e)
      → FlowAfter reading h (step_with s c n o)
  put_flow c n o p put_there not_opened not_taken is_put e is_there =
      moved_by reading h (step_with s c n o) p e put_there.between (not_opened e) (not_taken e) (is_put e)
      (kept.flow e (sym (ap is_open (put_there.states e)) ∙ is_there))

  -- no put and no take, and the exchanges stay
  still_flow : (c : Call) (n : ℕ) (o : Outcome M) → o.after.exchanges ≡ s.exchanges → ((e : ℕ) → waiting_items o.after e ≡ waiting_items s e)
      → ((e : ℕ) → opens (step_with s c n o) e ≡ false) → ((e : ℕ) → caller_takes (step_with s c n o) e ≡ [])
      → ((e : ℕ) → puts reading h (step_with s c n o) e ≡ []) → FlowAfter reading h (step_with s c n o)
  still_flow c n o same items_same not_opened not_taken not_put e is_there =
      still reading h (step_with s c n o) e [] (not_opened e) (not_taken e) (not_put e)
      (ap (λ xs. waiting (exchange_in xs e)) same ∙ sym (append-nil (waiting (exchange_at s e)))) (items_same e)
      (kept.flow e (subst (λ xs. OpenIn xs e) same is_there))

  -- ---- the calls that move nothing

  start_flow : (t p n : ℕ) → FlowAfter reading h (accepted_step_of reading s (call.Start t p) n)
  start_flow t p n = still_flow (call.Start t p) n (effect reading s (call.Start t p) n) refl (λ e. refl) (λ e. refl) (λ e. refl) (λ e. refl)

  register_flow : (x : ℕ) (name : List ℕ) (n : ℕ) → FlowAfter reading h (accepted_step_of reading s (call.Register x name) n)
  register_flow x name n = still_flow (call.Register x name) n (effect reading s (call.Register x name) n) refl (λ e. refl) (λ e. refl) (λ e. refl) (λ e. refl)

  strike_flow : (name : List ℕ) (n : ℕ) → FlowAfter reading h (accepted_step_of reading s (call.Strike name) n)
  strike_flow name n = still_flow (call.Strike name) n (effect reading s (call.Strike name) n) refl (λ e. refl) (λ e. refl) (λ e. refl) (λ e. refl)

  cancel_flow : (b n : ℕ) → FlowAfter reading h (accepted_step_of reading s (call.Cancel b) n)
  cancel_flow b n = still_flow (call.Cancel b) n (effect reading s (call.Cancel b) n) refl (λ e. refl) (λ e. refl) (λ e. refl) (λ e. refl)

  priority_flow : (p n : ℕ) → FlowAfter reading h (accepted_step_of reading s (call.Priority p) n)
  priority_flow p n = still_flow (call.Priority p) n (effect reading s (call.Priority p) n) refl (λ e. refl) (λ e. refl) (λ e. refl) (λ e. refl)

  end_flow : (n : ℕ) → FlowAfter reading h (accepted_step_of reading s call.End n)
  end_flow n = still_flow call.End n (effect reading s call.End n) refl (λ e. refl) (λ e. refl) (λ e. refl) (λ e. refl)

  tray_flow : (n : ℕ) → FlowAfter reading h (accepted_step_of reading s call.Tray n)
  tray_flow n = go (task_at s (caller s)).tray (slice_get s.trays (caller s))
    where
      go : (i : Option TrayItem) (m : Option M) → FlowAfter reading h (step_with s call.Tray n (record { answer = shown i m; after = s }))
      go None m = still_flow call.Tray n (record { answer = answer.Done; after = s }) refl (λ e. refl) (λ e. refl) (λ e. refl) (λ e. refl)
      go (Some i) None = still_flow call.Tray n (record { answer = answer.Done; after = s }) refl (λ e. refl) (λ e. refl) (λ e. refl) (λ e. refl)
      go (Some i) (Some m) = still_flow call.Tray n (record { answer = answer.Tray i m; after = s }) refl (λ e. refl) (λ e. refl) (λ e. refl) (λ e. refl)

  alarm_flow : (x ticks : ℕ) (message : List ℕ) (n : ℕ) → marked s.free n ≡ true
      → FlowAfter reading h (accepted_step_of reading s (call.Alarm x ticks message) n)
  alarm_flow x ticks message n free = go (reading message)
    where
      go : (m : Option M) → FlowAfter reading h (step_with s (call.Alarm x ticks message) n (record { answer = answer.Block n; after = alarm x ticks m n s }))
      go None =
          still_flow (call.Alarm x ticks message) n (record { answer = answer.Block n; after = s }) refl (λ e. refl) (λ e. refl) (λ e. refl) (λ e. refl)
      go (Some m) =
          still_flow (call.Alarm x ticks message) n (record { answer = answer.Block n; after = alarm x ticks (Some m) n s }) refl
          (λ e. unlined s (hands_out n carries.Alarm m s) n (handed_items s n carries.Alarm m) (was_free kept n free).unlined e refl)
          (λ e. refl) (λ e. refl) (λ e. refl)

  -- ---- the owner's Open and Close

  -- what was taken and put counts anew from an Open, and nothing waits there
  open_flow : (x n : ℕ) → NoReason reading s (call.Open x) → FlowAfter reading h (accepted_step_of reading s (call.Open x) n)
  open_flow x n fine e is_there = go (eqb e x) refl
    where
      y : Exchange
      y = record { state = Open; holds = Items; line = [] }

      below : x < length s.exchanges
      below = let a = leb-false s.sizes.exchanges x fine.range in let b = kept.shape.exchanges in omega arith

      st : Step M
      st = accepted_step_of reading s (call.Open x) n

      go : (q : Bool) → eqb e x ≡ q → taken_at (st ∷ h) e ++ waiting_items st.after e ≡ put_at reading (st ∷ h) e
      go true q =
          rw q
          (ap (λ k. map (item_in s) (items (exchange_in (set s.exchanges x y) k))) (eqb-true e x q)
          ∙ ap (λ z. map (item_in s) (items z)) (get_or-set_same s.exchanges x y closed_exchange below))
      go false q =
          let other = get_or-set_other s.exchanges x e y closed_exchange (eqb-false e x q) in
          still reading h st e [] q refl refl (ap waiting other ∙ sym (append-nil (waiting (exchange_at s e))))
          (ap (λ z. map (item_in s) (items z)) other) (kept.flow e (sym (ap (λ z. is_open z.state) other) ∙ is_there))

  close_flow : (x n : ℕ) → NoReason reading s (call.Close x) → FlowAfter reading h (accepted_step_of reading s (call.Close x) n)
  close_flow x n fine e is_there =
      still reading h (accepted_step_of reading s (call.Close x) n) e [] refl refl refl (line ∙ sym (append-nil (waiting (exchange_at s e))))
      (ap (map (item_in s)) lots) (kept.flow e was_open)
    where
      y : Exchange
      y = record { state = Closed; holds = (exchange_at s x).holds; line = (exchange_at s x).line }

      below : x < length s.exchanges
      below = let a = leb-false s.sizes.exchanges x fine.range in let b = kept.shape.exchanges in omega arith

      line : waiting (exchange_in (set s.exchanges x y) e) ≡ waiting (exchange_at s e)
      line = at_set s.exchanges x y closed_exchange e below (λ j b z. waiting z ≡ waiting (exchange_at s j)) refl (λ other. refl)

      lots : items (exchange_in (set s.exchanges x y) e) ≡ items (exchange_at s e)
      lots = at_set s.exchanges x y closed_exchange e below (λ j b z. items z ≡ items (exchange_at s j)) refl (λ other. refl)

      was_open : OpenIn s.exchanges e
      was_open =
          at_set s.exchanges x y closed_exchange e below (λ j b z. is_open z.state ≡ true → OpenIn s.exchanges j)
          (λ bad. absurd (false≢true bad)) (λ other k. k) is_there

  -- ---- the calls that put

  -- Post and Send, whose codes only tell who calls
  message_flow : (c : Call) (x : ℕ) (message : List ℕ) (n : ℕ) → TableLengths s → OpenIn s.exchanges x → is_some (reading message) ≡ true
      → (waiting (exchange_at s x) ≡ [] → marked s.free n ≡ true)
      → ((o : State M) (e : ℕ) → opens (step_with s c n (done o)) e ≡ false)
      → ((o : State M) (e : ℕ) → puts reading h (step_with s c n (done o)) e ≡ put_here e (Some x) (message_put (reading message)))
      → FlowAfter reading h (step_with s c n (done (post_read x (reading message) n s)))
  message_flow c x message n ls is_there known drawn not_opened is_put = go (reading message) refl
    where
      go : (m : Option M) → reading message ≡ m → FlowAfter reading h (step_with s c n (done (post_read x m n s)))
      go None bad = let z : ◌≡◌ {A = Bool} false true = ap is_some (sym bad) ∙ known in absurd (false≢true z)
      go (Some m) is =
          put_flow c n (done (post x m n s)) (λ e. put_here e (Some x) (message_put (Some m))) (posted s kept ls x m n is_there drawn)
          (not_opened (post x m n s)) (λ e. refl)
          (λ e. is_put (post x m n s) e ∙ ap (λ z. put_here e (Some x) (message_put z)) is)

  post_flow : (x : ℕ) (message : List ℕ) (n : ℕ) → NoReason reading s (call.Post x message)
      → (needs_block s (call.Post x message) ≡ true → marked s.free n ≡ true) → FlowAfter reading h (accepted_step_of reading s (call.Post x message) n)
  post_flow x message n fine drawn =
      message_flow (call.Post x message) x message n (table_lengths s fine.tables)
      (open_named (leb s.sizes.exchanges x) (is_open (exchange_at s x).state) fine.range fine.closed)
      (not-false (is_some (reading message)) fine.message) (λ none. drawn (ap (λ l. not (is_some (first_of l))) none)) (λ o e. refl) (λ o e. refl)

  send_flow : (x : ℕ) (message : List ℕ) (n : ℕ) → NoReason reading s (call.Send x message)
      → (needs_block s (call.Send x message) ≡ true → marked s.free n ≡ true) → FlowAfter reading h (accepted_step_of reading s (call.Send x message) n)
  send_flow x message n fine drawn =
      message_flow (call.Send x message) x message n (table_lengths s fine.tables)
      (open_named (leb s.sizes.exchanges x) (is_open (exchange_at s x).state) fine.range fine.closed)
      (not-false (is_some (reading message)) fine.message) (λ none. drawn (ap (λ l. not (is_some (first_of l))) none)) (λ o e. refl) (λ o e. refl)

  request_flow : (r : ℕ) (name message : List ℕ) (n : ℕ) → NoReason reading s (call.Request r name message) → marked s.free n ≡ true
      → FlowAfter reading h (accepted_step_of reading s (call.Request r name message) n)
  request_flow r name message n fine free = go (exchange_of s name) refl (reading message) refl
    where
      ls : TableLengths s
      ls = table_lengths s fine.tables

      f : WasFree s n
      f = was_free kept n free

      go : (x : Option ℕ) → exchange_of s name ≡ x → (m : Option M) → reading message ≡ m
          → FlowAfter reading h (step_with s (call.Request r name message) n (record { answer = answer.Block n; after = request r x m n s }))
      go None to m is =
          still_flow (call.Request r name message) n (record { answer = answer.Block n; after = s }) refl (λ e. refl) (λ e. refl) (λ e. refl)
          (λ e. ap (λ z. put_here e z (request_put n (reading message))) to)
      go (Some x) to None bad =
          let z : ◌≡◌ {A = Bool} false true = ap is_some (sym bad) ∙ not-false (is_some (reading message)) fine.message in absurd (false≢true z)
      go (Some x) to (Some m) is =
          let a = kept.shape.blocks in let b = ls.messages in let d = f.below in
          put_flow (call.Request r name message) n (record { answer = answer.Block n; after = request r (Some x) (Some m) n s })
          (λ e. put_here e (Some x) (request_put n (Some m)))
          (changed_then_put s _ _ _ _ n x _ (request_put n (Some m)) (handed_items s n (carries.Request r) m) f.unlined
          (handed_item s n (carries.Request r) m (omega arith) (omega arith))
          (put_one (hands_out n (carries.Request r) m s) x n (tied_open s.exchanges name s.names x kept.opens.names to) (kept_lines kept ls)
          (let g = length-set s.messages n m in omega arith) (free_room kept n free x)))
          (λ e. refl) (λ e. refl)
          (λ e. ap (λ z. put_here e z (request_put n (reading message))) to ∙ ap (λ z. put_here e (Some x) (request_put n z)) is)

  -- a block let out of a hand and put
  let_out_put : (t b x : ℕ) (c : Carries) → TableLengths s → is_number t (holder_of s.blocks b) ≡ true → OpenIn s.exchanges x
      → PutsOf s (put x b (out_of_hand b c s)) (λ e. put_here e (Some x) (item_with (item_of b c) (slice_get s.messages b)))
  let_out_put t b x c ls hand is_there =
      let i = in_hand_tells kept t b hand in
      let p = kept.shape.blocks in let q = ls.messages in let r = i.below in
      changed_then_put s _ _ _ _ b x _ (item_with (item_of b c) (slice_get s.messages b)) (let_out_items s b c) i.unlined (let_out_item s b c (omega arith))
      (put_one (out_of_hand b c s) x b is_there (kept_lines kept ls) (omega arith) (hand_room kept b i.held x))

  respond_flow : (b status n : ℕ) → NoReason reading s (call.Respond b status) → FlowAfter reading h (accepted_step_of reading s (call.Respond b status) n)
  respond_flow b status n fine = go (owed s.blocks b) refl
    where
      hand : is_number (caller s) (holder_of s.blocks b) ≡ true
      hand = not-false (is_number (caller s) (holder_of s.blocks b)) fine.held

      go : (o : Option ℕ) → owed s.blocks b ≡ o → FlowAfter reading h (step_with s (call.Respond b status) n (done (respond o b status s)))
      go None bad =
          let z : ◌≡◌ {A = Bool} false true = ap is_some (sym bad) ∙ (in_hand_tells kept (caller s) b hand).owes in absurd (false≢true z)
      go (Some r) owes =
          put_flow (call.Respond b status) n (done (respond (Some r) b status s)) (λ e. put_here e (Some r) (reply_put b status (slice_get s.messages b)))
          (let_out_put (caller s) b r (carries.Reply status) (table_lengths s fine.tables) hand (kept.opens.replies b r owes))
          (λ e. refl) (λ e. refl)
          (λ e. ap (λ z. put_here e (reply_asked z) (reply_put b status (message_asked z))) (kept.asks.asked_for b r owes))

  move_flow : (b x n : ℕ) → NoReason reading s (call.Move b x) → FlowAfter reading h (accepted_step_of reading s (call.Move b x) n)
  move_flow b x n fine = go (carried s.blocks b) refl
    where
      hand : is_number (caller s) (holder_of s.blocks b) ≡ true
      hand = not-false (is_number (caller s) (holder_of s.blocks b)) fine.held

      owes : is_some (owed s.blocks b) ≡ true
      owes = (in_hand_tells kept (caller s) b hand).owes

      not_owed : (c : Carries) → carried s.blocks b ≡ c → owed_by c ≡ None → ⊥
      not_owed c is none = let z : ◌≡◌ {A = Bool} false true = ap is_some (sym none) ∙ ap (λ k. is_some (owed_by k)) (sym is) ∙ owes in false≢true z

      go : (c : Carries) → carried s.blocks b ≡ c → FlowAfter reading h (step_with s (call.Move b x) n (done (put x b (out_of_hand b c s))))
      go carries.Message is = absurd (not_owed carries.Message is refl)
      go (carries.Reply status) is = absurd (not_owed (carries.Reply status) is refl)
      go carries.Alarm is = absurd (not_owed carries.Alarm is refl)
      go (carries.Request r) is =
          put_flow (call.Move b x) n (done (put x b (out_of_hand b (carries.Request r) s))) (λ e. put_here e (Some x) (request_put b (slice_get s.messages b)))
          (let_out_put (caller s) b x (carries.Request r) (table_lengths s fine.tables) hand
          (open_named (leb s.sizes.exchanges x) (is_open (exchange_at s x).state)
          (or_parts (leb s.sizes.blocks b) (leb s.sizes.exchanges x) fine.range).1 fine.closed))
          (λ e. refl) (λ e. refl)
          (λ e. ap (λ z. put_here e (Some x) (request_put b (message_asked z))) (kept.asks.asked_for b r (ap owed_by is)))

  tick_flow : (n : ℕ) → NoReason reading s call.Tick → FlowAfter reading h (accepted_step_of reading s call.Tick n)
  tick_flow n fine =
      put_flow call.Tick n (effect reading s call.Tick n) (λ e. due_put reading h e (due s.alarms)) (record { between = all.between; states = all.states })
      (λ e. refl) (λ e. refl) (λ e. refl)
    where
      ls : TableLengths s
      ls = table_lengths s fine.tables

      all : PutsOf (with_alarms (still_running s.alarms) s) (put_due (due s.alarms) (with_alarms (still_running s.alarms) s))
          (λ e. due_put reading h e (due s.alarms))
      all =
          put_all reading h s.sizes.blocks (due s.alarms) (with_alarms (still_running s.alarms) s)
          (all_due (λ a. OpenIn s.exchanges a.exchange) s.alarms kept.opens.alarms)
          (all_due (λ a. item_in s a.block ≡ alarm_put a.block (alarm_given reading h a.block)) s.alarms
          (All-weaker (λ a. 0 < alarms_in a.block s.alarms) (λ a. item_in s a.block ≡ alarm_put a.block (alarm_given reading h a.block))
          (λ a there.
          ap (λ c. item_with (item_of a.block c) (slice_get s.messages a.block)) (kept.blocks.alarm a.block there)
          ∙ ap (alarm_put a.block) (sym (kept.given.given a.block there)))
          s.alarms (all_running s.alarms)))
          (kept_lines kept ls)
          (λ b. let o = kept.blocks.once b in let d = due_fewer b s.alarms in omega arith)
          ls.messages kept.shape.few_blocks

  -- ---- the calls that take

  joins_tail : (t : ℕ) (l : List ℕ) → joins t l ≡ l ++ cond (ltb (length l) line_capacity) (t ∷ []) []
  joins_tail t l = go (ltb (length l) line_capacity)
    where
      go : (b : Bool) → cond b (l ++ t ∷ []) l ≡ l ++ cond b (t ∷ []) []
      go true = refl
      go false = sym (append-nil l)

  -- nothing is there: the caller waits
  waits_flow : (x n : ℕ) → OpenIn s.exchanges x → items (exchange_at s x) ≡ [] → FlowAfter reading h (step_with s (call.Wait x) n (wait None x s))
  waits_flow x n is_there none e after_open =
      still reading h (step_with s (call.Wait x) n (wait None x s)) e (cond (eqb e x) tail []) refl refl refl line lots
      (kept.flow e (sym (ap is_open (leaves_states s.exchanges x e y below refl)) ∙ after_open))
    where
      y : Exchange
      y = with_waiting (caller s) (exchange_at s x)

      tail : List ℕ
      tail = cond (ltb (length (waiting (exchange_at s x))) line_capacity) (caller s ∷ []) []

      below : x < length s.exchanges
      below = open_below s.exchanges x is_there

      line : waiting (exchange_in (set s.exchanges x y) e) ≡ waiting (exchange_at s e) ++ cond (eqb e x) tail []
      line =
          at_set s.exchanges x y closed_exchange e below (λ j q z. waiting z ≡ waiting (exchange_at s j) ++ cond q tail [])
          (joins_tail (caller s) (waiting (exchange_at s x))) (λ other. sym (append-nil (waiting (exchange_at s e))))

      lots : map (item_in s) (items (exchange_in (set s.exchanges x y) e)) ≡ waiting_items s e
      lots =
          at_set s.exchanges x y closed_exchange e below (λ j q z. map (item_in s) (items z) ≡ waiting_items s j)
          (sym (ap (map (item_in s)) none)) (λ other. refl)

  caller_places : TableLengths s → is_some s.running ≡ true → (caller s < length s.tasks) × (caller s < length s.trays)
  caller_places ls runs = go s.running refl runs
    where
      go : (o : Option ReadyTask) → s.running ≡ o → is_some o ≡ true → (task_of o < length s.tasks) × (task_of o < length s.trays)
      go None is bad = absurd (false≢true bad)
      go (Some r) is there =
          let o = kept.tasks.once r.task in
          let f : one_if (is_task r.task s.running) ≡ 1 =
          ap (λ z. one_if (is_task r.task z)) is ∙ one_if_true (eqb r.task r.task) (eq-eqb r.task r.task refl) in
          let b = kept.tasks.small r.task (one_if_positive (started h r.task) (omega arith)) in
          let c = kept.shape.tasks in let d = ls.trays in (omega arith, omega arith)

  -- what a taking call is: it opens nothing, puts nothing, and its caller takes at x
  pub record TakesAt (c : Call) (x n : ℕ) : Type 0 where
    pub not_opened : (kd : Kind) (v : State M) (e : ℕ) → opens (step_with s c n (record { answer = answer.Took kd; after = v })) e ≡ false
    pub not_put : (kd : Kind) (v : State M) (e : ℕ) → puts reading h (step_with s c n (record { answer = answer.Took kd; after = v })) e ≡ []
    pub taken : (kd : Kind) (v : State M) (e : ℕ)
        → caller_takes (step_with s c n (record { answer = answer.Took kd; after = v })) e ≡ cond (eqb e x) (in_tray v (caller s)) []

  -- the caller's tray holds the item of block b, the first at x; fr and bs are free and blocks after
  abbrev taken_by_caller : List Bool → List BlockRecord → ℕ → ℕ → State M
  taken_by_caller fr bs x b =
      with_free fr (with_blocks bs
      (with_trays (written_if (caller s) (slice_get s.messages b) s.trays) (with_tray (caller s) (item_of b (carried s.blocks b)) (first_leaves x s))))

  taken_flow : (c : Call) (kd : Kind) (fr : List Bool) (bs : List BlockRecord) (x n b : ℕ) (l : List ℕ) → TableLengths s → is_some s.running ≡ true
      → OpenIn s.exchanges x → items (exchange_at s x) ≡ b ∷ l → TakesAt c x n → ((k : ℕ) → carried bs k ≡ carried s.blocks k)
      → FlowAfter reading h (step_with s c n (record { answer = answer.Took kd; after = taken_by_caller fr bs x b }))
  taken_flow c kd fr bs x n b l ls runs is_there first way same e after_open =
      one_more reading h (step_with s c n (record { answer = answer.Took kd; after = v })) e (waiting_items s e) (way.not_opened kd v e)
      (kept.flow e (sym (ap is_open (leaves_states s.exchanges x e y below refl)) ∙ after_open))
      (ap (λ z. (z ++ flat_map (in_tray v) (gone (waiting (exchange_at s e)) (waiting (exchange_at v e)))) ++ waiting_items v e) (way.taken kd v e)
      ∙ moved ∙ sym (append-nil (waiting_items s e)) ∙ ap (λ z. waiting_items s e ++ z) (sym (way.not_put kd v e)))
    where
      v : State M
      v = taken_by_caller fr bs x b

      y : Exchange
      y = without_first (exchange_at s x)

      below : x < length s.exchanges
      below = open_below s.exchanges x is_there

      written : b < length s.messages
      written =
          let i = items_le_all b s.exchanges x in let f = occurrences_first b l in
          let g : occurrences b (items (exchange_at s x)) ≡ occurrences b (b ∷ l) = ap (occurrences b) first in
          let o = kept.blocks.once b in let m = ls.messages in
          let t = ltb-true b s.sizes.blocks (one_if_positive (ltb b s.sizes.blocks) (omega arith)) in omega arith

      same_items : (k : ℕ) → item_in v k ≡ item_in s k
      same_items k = ap (λ z. item_with (item_of k z) (slice_get s.messages k)) (same k)

      same_map : (k : List ℕ) → map (item_in v) k ≡ map (item_in s) k
      same_map [] = refl
      same_map (j ∷ k) = let a = same_items j in let d = same_map k in cc

      shows : in_tray v (caller s) ≡ item_in s b ∷ []
      shows =
          let m = nth-there s.messages b written in let p = caller_places ls runs in
          tray_given (caller s) s.tasks s.trays (task_at s (caller s)).priority (item_of b (carried s.blocks b)) (slice_get s.messages b) m.0 m.1 p.0 p.1

      here : (in_tray v (caller s) ++ flat_map (in_tray v) (gone (waiting (exchange_at s x)) (waiting y))) ++ map (item_in v) (items y) ≡ waiting_items s x
      here =
          ap (λ z. (in_tray v (caller s) ++ flat_map (in_tray v) (gone z (waiting y))) ++ map (item_in v) (items y)) (no_tasks (exchange_at s x) b l first)
          ∙ ap (λ z. (z ++ []) ++ map (item_in v) (items y)) shows
          ∙ ap (λ z. item_in s b ∷ map (item_in v) z) (items_behind (exchange_at s x) ∙ ap behind_first first)
          ∙ ap (λ z. item_in s b ∷ z) (same_map l)
          ∙ sym (ap (map (item_in s)) first)

      elsewhere : flat_map (in_tray v) (gone (waiting (exchange_at s e)) (waiting (exchange_at s e))) ++ map (item_in v) (items (exchange_at s e)) ≡ waiting_items s e
      elsewhere =
          ap (λ z. flat_map (in_tray v) (gone (waiting (exchange_at s e)) z) ++ map (item_in v) (items (exchange_at s e))) (sym (append-nil (waiting (exchange_at s e))))
          ∙ ap (λ z. flat_map (in_tray v) z ++ map (item_in v) (items (exchange_at s e))) (gone_none (waiting (exchange_at s e)) [])
          ∙ same_map (items (exchange_at s e))

      moved : (cond (eqb e x) (in_tray v (caller s)) [] ++ flat_map (in_tray v) (gone (waiting (exchange_at s e)) (waiting (exchange_at v e)))) ++ waiting_items v e
          ≡ waiting_items s e
      moved =
          at_set s.exchanges x y closed_exchange e below
          (λ j q z. (cond q (in_tray v (caller s)) [] ++ flat_map (in_tray v) (gone (waiting (exchange_at s j)) (waiting z))) ++ map (item_in v) (items z) ≡ waiting_items s j)
          here (λ other. elsewhere)

  -- the first item goes into the caller's tray
  takes_flow : (c : Call) (x n b : ℕ) (l : List ℕ) → TableLengths s → is_some s.running ≡ true → OpenIn s.exchanges x → items (exchange_at s x) ≡ b ∷ l
      → TakesAt c x n → FlowAfter reading h (step_with s c n (takes_first (caller s) x b s))
  takes_flow c x n b l ls runs is_there first way =
      subst (λ z. FlowAfter reading h (step_with s c n (record { answer = (takes_first (caller s) x b s).answer; after = z }))) (sym k.is)
      (taken_flow c (item_of b (carried s.blocks b)).kind k.free_after k.blocks_after x n b l ls runs is_there first way k.same)
    where
      mid : State M
      mid = with_trays (written_if (caller s) (slice_get s.messages b) s.trays) (with_tray (caller s) (item_of b (carried s.blocks b)) (first_leaves x s))

      k : KeepsAs mid (keeps (caller s) b (carried s.blocks b) mid)
      k = keeps_as (caller s) b (carried s.blocks b) mid

  wait_flow : (x n : ℕ) → NoReason reading s (call.Wait x) → FlowAfter reading h (accepted_step_of reading s (call.Wait x) n)
  wait_flow x n fine = go (items (exchange_at s x)) refl
    where
      is_there : OpenIn s.exchanges x
      is_there = open_named (leb s.sizes.exchanges x) (is_open (exchange_at s x).state) fine.range fine.closed

      go : (l : List ℕ) → items (exchange_at s x) ≡ l → FlowAfter reading h (step_with s (call.Wait x) n (wait (first_of l) x s))
      go [] none = waits_flow x n is_there none
      go (b ∷ l) first =
          takes_flow (call.Wait x) x n b l (table_lengths s fine.tables) (not-false (is_some s.running) fine.running) is_there first
          (record { not_opened = λ kd v e. refl; not_put = λ kd v e. refl; taken = λ kd v e. refl })

  check_flow : (x n : ℕ) → NoReason reading s (call.Check x) → FlowAfter reading h (accepted_step_of reading s (call.Check x) n)
  check_flow x n fine = go (items (exchange_at s x)) refl
    where
      is_there : OpenIn s.exchanges x
      is_there = open_named (leb s.sizes.exchanges x) (is_open (exchange_at s x).state) fine.range fine.closed

      go : (l : List ℕ) → items (exchange_at s x) ≡ l → FlowAfter reading h (step_with s (call.Check x) n (check (first_of l) x s))
      go [] none = still_flow (call.Check x) n (done s) refl (λ e. refl) (λ e. refl) (λ e. refl) (λ e. refl)
      go (b ∷ l) first =
          takes_flow (call.Check x) x n b l (table_lengths s fine.tables) (not-false (is_some s.running) fine.running) is_there first
          (record { not_opened = λ kd v e. refl; not_put = λ kd v e. refl; taken = λ kd v e. refl })

-- ---- all 18

pub flow_step : {M : Type 0} (reading : List ℕ → Option M) (h : History M) (s : State M) (c : Call) (n : ℕ) → Kept reading h s → refusal_of reading s c ≡ None
    → (needs_block s c ≡ true → marked s.free n ≡ true) → (e : ℕ) → OpenIn (accepted_step_of reading s c n).after.exchanges e
    → taken_at (accepted_step_of reading s c n ∷ h) e ++ waiting_items (accepted_step_of reading s c n).after e ≡ put_at reading (accepted_step_of reading s c n ∷ h) e
flow_step reading h s (call.Start t p) n kept fine drawn = start_flow reading h s kept t p n
flow_step reading h s (call.Open x) n kept fine drawn = open_flow reading h s kept x n (no_reason reading s (call.Open x) fine)
flow_step reading h s (call.Close x) n kept fine drawn = close_flow reading h s kept x n (no_reason reading s (call.Close x) fine)
flow_step reading h s (call.Register x name) n kept fine drawn = register_flow reading h s kept x name n
flow_step reading h s (call.Strike name) n kept fine drawn = strike_flow reading h s kept name n
flow_step reading h s (call.Post x m) n kept fine drawn = post_flow reading h s kept x m n (no_reason reading s (call.Post x m) fine) drawn
flow_step reading h s call.Tick n kept fine drawn = tick_flow reading h s kept n (no_reason reading s call.Tick fine)
flow_step reading h s (call.Send x m) n kept fine drawn = send_flow reading h s kept x m n (no_reason reading s (call.Send x m) fine) drawn
flow_step reading h s (call.Wait x) n kept fine drawn = wait_flow reading h s kept x n (no_reason reading s (call.Wait x) fine)
flow_step reading h s (call.Check x) n kept fine drawn = check_flow reading h s kept x n (no_reason reading s (call.Check x) fine)
flow_step reading h s (call.Request r name m) n kept fine drawn = request_flow reading h s kept r name m n (no_reason reading s (call.Request r name m) fine) (drawn refl)
flow_step reading h s (call.Respond b status) n kept fine drawn = respond_flow reading h s kept b status n (no_reason reading s (call.Respond b status) fine)
flow_step reading h s (call.Move b x) n kept fine drawn = move_flow reading h s kept b x n (no_reason reading s (call.Move b x) fine)
flow_step reading h s (call.Alarm x k m) n kept fine drawn = alarm_flow reading h s kept x k m n (drawn refl)
flow_step reading h s (call.Cancel b) n kept fine drawn = cancel_flow reading h s kept b n
flow_step reading h s (call.Priority p) n kept fine drawn = priority_flow reading h s kept p n
flow_step reading h s call.End n kept fine drawn = end_flow reading h s kept n
flow_step reading h s call.Tray n kept fine drawn = tray_flow reading h s kept n
