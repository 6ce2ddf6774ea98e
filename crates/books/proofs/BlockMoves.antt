-- How a block moves: each small move keeps the tables, the places of blocks, what is open, the requests and the alarms. Assumes nothing.
--   Body        the five groups together, over the parts that they speak of
--   BodyOf h s w  the same of a state
use Rattle.std.proofs.Common.{◌≡◌, ℕ, ◌+◌, ◌<◌, ◌≤◌, Bool, true, false, cond, eqb, ltb, List, [], ◌∷◌, length, set, is_some, Some, None, Option, sym, refl, ap, ◌∙◌, subst, ⊎_elim, arith}
use Rattle.std.proofs.ByRecursion.{All-weaker}
use Rattle.std.proofs.lemmas.List.{length-set}
use Rattle.std.proofs.lemmas.List.Sums.{sum_by-cons, sum_by-set}
use Rattle.std.proofs.lemmas.Bool.{both_ways, cases_eq, false≢true, ltb-true}
use Rattle.std.specs.List.{slice_get, AllByRecursion}
use Rattle.pool.specs.Marks.{marked}
use Rattle.plain.specs.Effects.{put_due}
use Rattle.plain.specs.Lookups.{block_at, closed_exchange, exchange_at, first_of, first_waiting, idle_block, is_open, items, occurrences, owed_by, waiting}
use Rattle.plain.specs.Moves.{first_leaves, item_of, keeps, put, put_to, takes, with_item, with_tray, without_first, written_if}
use Rattle.plain.specs.Openings.{one_if}
use Rattle.plain.specs.States.{Exchange, State, with_trays}
use Rattle.plain.specs.declared.records.AlarmRecord.{AlarmRecord}
use Rattle.plain.specs.declared.records.Binding.{Binding}
use Rattle.plain.specs.declared.records.BlockRecord.{BlockRecord}
use Rattle.plain.specs.declared.records.Carries.{Carries}
use Rattle.plain.specs.declared.records.Carries.TheVariants as carries
use Rattle.plain.specs.declared.records.Sizes.{Sizes}
use Rattle.plain.specs.declared.records.TaskRecord.{TaskRecord}
use Rattle.books.specs.Deeds.{asked, asks, responds, sets_alarm, unanswered}
use Rattle.books.specs.Laws.{alarms_in, waiting_in}
use Rattle.books.specs.Runs.{History, Step}
use Rattle.books.proofs.Counting.{one_if_true, one_if_le, one_if_positive, one_if_zero}
use Rattle.books.proofs.Accepts.{open_below}
use Rattle.plain.proofs.KeepLaws.{keeps_part}
use Rattle.plain.proofs.PlaceLaws.{nth-set_other}
use Rattle.books.proofs.BlockParts.{More, alarms_in_cons, items_behind_first, more_else, more_here, no_items, none_not_some, occurrences_joins, set_cases, some_is}
use Rattle.books.proofs.Capacity.{items_room}
use Rattle.books.proofs.Invariants.{Asks, Blocks, Given, OpenIn, Opens, Shape, carried, exchange_in, holder_of, none_on_way, owed}

-- ---- the places of blocks

-- a block on its way is in no other place
pub record OnWay (n : ℕ) (xs : List Exchange) (as' : List AlarmRecord) (bs : List BlockRecord) (fr : List Bool) (w : ℕ → ℕ) (k : ℕ) : Type 0 where
  pub below : k < n
  pub one : w k ≡ 1
  pub unmarked : marked fr k ≡ false
  pub unset : alarms_in k as' ≡ 0
  pub unheld : is_some (holder_of bs k) ≡ false

module _ {n : ℕ} {xs : List Exchange} {as' : List AlarmRecord} {bs : List BlockRecord} {fr : List Bool} {w : ℕ → ℕ} (g : Blocks n xs as' bs fr w) where
  pub on_way : (k : ℕ) → 0 < w k → OnWay n xs as' bs fr w k
  on_way k way =
      let o = g.once k in
      let most = one_if_le (ltb k n) in
      record {
        below = ltb-true k n (one_if_positive (ltb k n) (omega arith));
        one = omega arith;
        unmarked = one_if_zero (marked fr k) (omega arith);
        unset = omega arith;
        unheld = one_if_zero (is_some (holder_of bs k)) (omega arith);
      }

  -- a free block is in no other place and carries no request
  pub free_unset : (k : ℕ) → marked fr k ≡ true → alarms_in k as' ≡ 0
  free_unset k m = let a = one_if_true (marked fr k) m in let o = g.once k in let most = one_if_le (ltb k n) in omega arith

  pub free_below : (k : ℕ) → marked fr k ≡ true → k < n
  free_below k m =
      let a = one_if_true (marked fr k) m in let o = g.once k in
      ltb-true k n (one_if_positive (ltb k n) (omega arith))

  pub free_not_owed : (k : ℕ) → marked fr k ≡ true → owed bs k ≡ None
  free_not_owed k m = go (owed bs k) refl
    where
      go : (o : Option ℕ) → owed bs k ≡ o → o ≡ None
      go (Some r) e = absurd (both_ways (marked fr k) (g.used k r e) m)
      go None e = refl

  -- a block in a hand is in no other place
  pub held_unset : (k t : ℕ) → holder_of bs k ≡ Some t → alarms_in k as' ≡ 0
  held_unset k t e =
      let a = one_if_true (is_some (holder_of bs k)) (some_is (holder_of bs k) t e) in let o = g.once k in let most = one_if_le (ltb k n) in
      omega arith

  pub held_unmarked : (k t : ℕ) → holder_of bs k ≡ Some t → marked fr k ≡ false
  held_unmarked k t e =
      let a = one_if_true (is_some (holder_of bs k)) (some_is (holder_of bs k) t e) in let o = g.once k in let most = one_if_le (ltb k n) in
      one_if_zero (marked fr k) (omega arith)

  pub blocks_exchange : (w' : ℕ → ℕ) (e : ℕ) (x : Exchange) → e < length xs
      → ((b : ℕ) → occurrences b (items x) + w' b ≡ occurrences b (items (exchange_in xs e)) + w b) → Blocks n (set xs e x) as' bs fr w'
  blocks_exchange w' e x lt each =
      record {
        once = λ b.
            let o = g.once b in
            let c = sum_by-set (λ y. occurrences b (items y)) xs e x closed_exchange lt in
            let d = each b in omega arith;
        used = g.used;
        alarm = g.alarm;
        hand = g.hand;
      }

  pub blocks_record : (w' : ℕ → ℕ) (k : ℕ) (r : BlockRecord) → k < length bs → marked fr k ≡ false → alarms_in k as' ≡ 0
      → ((t : ℕ) → r.holder ≡ Some t → is_some (owed_by r.carries) ≡ true)
      → one_if (is_some r.holder) + w' k ≡ one_if (is_some (holder_of bs k)) + w k
      → ((b : ℕ) → (b ≡ k → ⊥) → w' b ≡ w b)
      → Blocks n xs as' (set bs k r) fr w'
  blocks_record w' k r lt unmarked unset request here else =
      record {
        once = set_cases bs k r idle_block lt
            (λ b y. one_if (marked fr b) + waiting_in b xs + alarms_in b as' + one_if (is_some y.holder) + w' b ≡ one_if (ltb b n))
            (let o = g.once k in omega arith)
            (λ b ne. let o = g.once b in let c = else b ne in omega arith);
        used = λ b q. set_cases bs k r idle_block lt (λ c y. owed_by y.carries ≡ Some q → marked fr c ≡ false)
            (λ o. unmarked) (λ c ne. g.used c q) b;
        alarm = set_cases bs k r idle_block lt (λ b y. 0 < alarms_in b as' → y.carries ≡ carries.Alarm)
            (λ p. absurd (omega arith)) (λ b ne. g.alarm b);
        hand = λ b t. set_cases bs k r idle_block lt (λ c y. y.holder ≡ Some t → is_some (owed_by y.carries) ≡ true)
            (request t) (λ c ne. g.hand c t) b;
      }

  pub blocks_mark : (w' : ℕ → ℕ) (k : ℕ) (v : Bool) → k < length fr → one_if v + w' k ≡ one_if (marked fr k) + w k
      → ((b : ℕ) → (b ≡ k → ⊥) → w' b ≡ w b) → (v ≡ true → owed bs k ≡ None) → Blocks n xs as' bs (set fr k v) w'
  blocks_mark w' k v lt here else unused =
      record {
        once = set_cases fr k v false lt
            (λ b y. one_if y + waiting_in b xs + alarms_in b as' + one_if (is_some (holder_of bs b)) + w' b ≡ one_if (ltb b n))
            (let o = g.once k in omega arith)
            (λ b ne. let o = g.once b in let c = else b ne in omega arith);
        used = λ b q. set_cases fr k v false lt (λ c y. owed bs c ≡ Some q → y ≡ false)
            (λ o. not_marked v unused q o) (λ c ne. g.used c q) b;
        alarm = g.alarm;
        hand = g.hand;
      }
    where
      not_marked : (v : Bool) → (v ≡ true → owed bs k ≡ None) → (q : ℕ) → owed bs k ≡ Some q → v ≡ false
      not_marked true none q o = none_not_some (owed bs k) q (none refl) o
      not_marked false none q o = refl

  pub blocks_alarms : (w' : ℕ → ℕ) (new : List AlarmRecord) → ((b : ℕ) → alarms_in b new + w' b ≡ alarms_in b as' + w b)
      → ((b : ℕ) → 0 < alarms_in b new → carried bs b ≡ carries.Alarm) → Blocks n xs new bs fr w'
  blocks_alarms w' new each alarm' =
      record {
        once = λ b. let o = g.once b in let c = each b in omega arith;
        used = g.used;
        alarm = alarm';
        hand = g.hand;
      }

-- ---- what is open

-- an exchange that was open and is open keeps every other as it was
pub open_kept : (xs : List Exchange) (e : ℕ) (x : Exchange) → e < length xs → is_open x.state ≡ true
    → (k : ℕ) → OpenIn xs k → OpenIn (set xs e x) k
open_kept xs e x lt o = set_cases xs e x closed_exchange lt (λ k y. OpenIn xs k → is_open y.state ≡ true) (λ p. o) (λ k ne p. p)

module _ {xs : List Exchange} {ns : List Binding} {as' : List AlarmRecord} {bs : List BlockRecord} (g : Opens xs ns as' bs) where
  pub opens_exchange : (e : ℕ) (x : Exchange) → e < length xs → is_open x.state ≡ true → Opens (set xs e x) ns as' bs
  opens_exchange e x lt o =
      record {
        closed = set_cases xs e x closed_exchange lt (λ k y. is_open y.state ≡ false → y.line ≡ [])
            (λ c. absurd (both_ways (is_open x.state) c o)) (λ k ne. g.closed k);
        names = All-weaker (λ b. OpenIn xs b.exchange) (λ b. OpenIn (set xs e x) b.exchange)
            (λ b p. open_kept xs e x lt o b.exchange p) ns g.names;
        alarms = All-weaker (λ a. OpenIn xs a.exchange) (λ a. OpenIn (set xs e x) a.exchange)
            (λ a p. open_kept xs e x lt o a.exchange p) as' g.alarms;
        replies = λ b k p. open_kept xs e x lt o k (g.replies b k p);
      }

  pub opens_record : (k : ℕ) (r : BlockRecord) → k < length bs → ((e : ℕ) → owed_by r.carries ≡ Some e → OpenIn xs e) → Opens xs ns as' (set bs k r)
  opens_record k r lt o =
      record {
        closed = g.closed;
        names = g.names;
        alarms = g.alarms;
        replies = λ b e. set_cases bs k r idle_block lt (λ c y. owed_by y.carries ≡ Some e → OpenIn xs e) (o e) (λ c ne. g.replies c e) b;
      }

  pub opens_names : (new : List Binding) → AllByRecursion (λ b. OpenIn xs b.exchange) new → Opens xs new as' bs
  opens_names new all = record { closed = g.closed; names = all; alarms = g.alarms; replies = g.replies }

  pub opens_alarms : (new : List AlarmRecord) → AllByRecursion (λ a. OpenIn xs a.exchange) new → Opens xs ns new bs
  opens_alarms new all = record { closed = g.closed; names = g.names; alarms = all; replies = g.replies }

-- ---- requests and alarms of the run

module _ {M : Type 0} {reading : List ℕ → Option M} {h : History M} {bs : List BlockRecord} {ms : List M} (g : Asks reading h bs ms) where
  pub asks_record : (k : ℕ) (r : BlockRecord) → k < length bs → owed_by r.carries ≡ owed bs k → Asks reading h (set bs k r) ms
  asks_record k r lt same =
      record {
        stands = set_cases bs k r idle_block lt (λ b y. unanswered h b ≡ is_some (owed_by y.carries))
            (g.stands k ∙ ap is_some (sym same)) (λ b ne. g.stands b);
        turns = g.turns;
        asked_for = λ b q. set_cases bs k r idle_block lt
            (λ c y. owed_by y.carries ≡ Some q → asked reading h c ≡ Some (record { reply = q; message = slice_get ms c }))
            (λ o. g.asked_for k q (sym same ∙ o)) (λ c ne. g.asked_for c q) b;
      }

  -- the place of a block that carries no request may be written
  pub asks_message : (k : ℕ) (m : M) → owed bs k ≡ None → Asks reading h bs (set ms k m)
  asks_message k m none =
      record {
        stands = g.stands;
        turns = g.turns;
        asked_for = λ b q o. ⊎_elim
            (λ (e : b ≡ k). none_not_some (owed bs k) q none (subst (λ v. owed bs v ≡ Some q) e o))
            (λ (ne : b ≡ k → ⊥). subst (λ v. asked reading h b ≡ Some (record { reply = q; message = v })) (sym (nth-set_other ms k b m ne)) (g.asked_for b q o))
            (cases_eq b k);
      }

  pub asks_step : (st : Step M) → ((b : ℕ) → asks st b ≡ false) → ((b : ℕ) → responds st b ≡ false) → Asks reading (st ∷ h) bs ms
  asks_step st quiet none =
      record {
        stands = λ b. rw (quiet b, none b) (g.stands b);
        turns = λ b. (g.turns b, λ t. absurd (both_ways (asks st b) (quiet b) t), λ t. absurd (both_ways (responds st b) (none b) t));
        asked_for = λ b q o. rw (quiet b) (g.asked_for b q o);
      }

module _ {M : Type 0} {reading : List ℕ → Option M} {h : History M} {as' : List AlarmRecord} {ms : List M} (g : Given reading h as' ms) where
  -- the place of a block that is no running alarm may be written
  pub given_message : (k : ℕ) (m : M) → alarms_in k as' ≡ 0 → Given reading h as' (set ms k m)
  given_message k m none =
      record {
        given = λ b p. ⊎_elim
            (λ (e : b ≡ k). absurd (positive_not b e p))
            (λ (ne : b ≡ k → ⊥). g.given b p ∙ sym (nth-set_other ms k b m ne))
            (cases_eq b k);
      }
    where
      positive_not : (b : ℕ) → b ≡ k → 0 < alarms_in b as' → ⊥
      positive_not b e p = let z : alarms_in b as' ≡ 0 = subst (λ v. alarms_in v as' ≡ 0) (sym e) none in omega arith

  pub given_fewer : (new : List AlarmRecord) → ((b : ℕ) → alarms_in b new ≤ alarms_in b as') → Given reading h new ms
  given_fewer new fewer = record { given = λ b p. g.given b (let f = fewer b in omega arith) }

  pub given_step : (st : Step M) → ((b : ℕ) → sets_alarm st b ≡ false) → Given reading (st ∷ h) as' ms
  given_step st quiet = record { given = λ b p. rw (quiet b) (g.given b p) }

-- ---- all of it

pub record Body {M : Type 0} (reading : List ℕ → Option M) (h : History M) (z : Sizes) (ts : List TaskRecord) (xs : List Exchange) (ns : List Binding) (as' : List AlarmRecord) (bs : List BlockRecord) (fr : List Bool) (ms : List M) (w : ℕ → ℕ) : Type 0 where
  pub shape : Shape z ts xs bs fr
  pub blocks : Blocks z.blocks xs as' bs fr w
  pub opens : Opens xs ns as' bs
  pub asks : Asks reading h bs ms
  pub given : Given reading h as' ms

abbrev pub BodyOf : {M : Type 0} (reading : List ℕ → Option M) (h : History M) (s : State M) (w : ℕ → ℕ) → Type 0
BodyOf reading h s w = Body reading h s.sizes s.tasks s.exchanges s.names s.alarms s.blocks s.free s.messages w

module _ {M : Type 0} {reading : List ℕ → Option M} {h : History M} {z : Sizes} {ts : List TaskRecord} {xs : List Exchange} {ns : List Binding} {as' : List AlarmRecord} {bs : List BlockRecord} {fr : List Bool} {ms : List M} {w : ℕ → ℕ} (g : Body reading h z ts xs ns as' bs fr ms w) where
  pub block_there : (k : ℕ) → k < z.blocks → k < length bs
  block_there k lt = let a = g.shape.blocks in omega arith

  mark_there : (k : ℕ) → k < z.blocks → k < length fr
  mark_there k lt = let a = g.shape.free in omega arith

  pub body_task : (t : ℕ) (r : TaskRecord) → Body reading h z (set ts t r) xs ns as' bs fr ms w
  body_task t r =
      record {
        shape = record { tasks = length-set ts t r ∙ g.shape.tasks; exchanges = g.shape.exchanges; blocks = g.shape.blocks; free = g.shape.free; few_tasks = g.shape.few_tasks; few_blocks = g.shape.few_blocks };
        blocks = g.blocks;
        opens = g.opens;
        asks = g.asks;
        given = g.given;
      }

  pub shape_exchange : (e : ℕ) (x : Exchange) → Shape z ts (set xs e x) bs fr
  shape_exchange e x =
      record { tasks = g.shape.tasks; exchanges = length-set xs e x ∙ g.shape.exchanges; blocks = g.shape.blocks; free = g.shape.free; few_tasks = g.shape.few_tasks; few_blocks = g.shape.few_blocks }

  shape_record : (k : ℕ) (r : BlockRecord) → Shape z ts xs (set bs k r) fr
  shape_record k r =
      record { tasks = g.shape.tasks; exchanges = g.shape.exchanges; blocks = length-set bs k r ∙ g.shape.blocks; free = g.shape.free; few_tasks = g.shape.few_tasks; few_blocks = g.shape.few_blocks }

  shape_mark : (k : ℕ) (v : Bool) → Shape z ts xs bs (set fr k v)
  shape_mark k v =
      record { tasks = g.shape.tasks; exchanges = g.shape.exchanges; blocks = g.shape.blocks; free = length-set fr k v ∙ g.shape.free; few_tasks = g.shape.few_tasks; few_blocks = g.shape.few_blocks }

  pub body_exchange : (w' : ℕ → ℕ) (e : ℕ) (x : Exchange) → e < length xs → is_open x.state ≡ true
      → ((b : ℕ) → occurrences b (items x) + w' b ≡ occurrences b (items (exchange_in xs e)) + w b)
      → Body reading h z ts (set xs e x) ns as' bs fr ms w'
  body_exchange w' e x lt o each =
      record {
        shape = shape_exchange e x;
        blocks = blocks_exchange g.blocks w' e x lt each;
        opens = opens_exchange g.opens e x lt o;
        asks = g.asks;
        given = g.given;
      }

  -- the first item goes on its way
  pub body_first : (w' : ℕ → ℕ) (e k : ℕ) → OpenIn xs e → first_of (items (exchange_in xs e)) ≡ Some k → More w' w k
      → Body reading h z ts (set xs e (without_first (exchange_in xs e))) ns as' bs fr ms w'
  body_first w' e k o f more =
      body_exchange w' e (without_first (exchange_in xs e)) (open_below xs e o) o
      (λ b.
      let was : occurrences b (items (exchange_in xs e)) ≡ occurrences b (k ∷ items (without_first (exchange_in xs e))) =
      ap (occurrences b) (items_behind_first (exchange_in xs e) k f) in
      let c = sum_by-cons (λ y. cond (eqb b y) 1 0) k (items (without_first (exchange_in xs e))) in
      let d = more b in omega arith)

  -- the first waiting task leaves
  pub body_wakes : (e t : ℕ) → OpenIn xs e → first_of (waiting (exchange_in xs e)) ≡ Some t
      → Body reading h z ts (set xs e (without_first (exchange_in xs e))) ns as' bs fr ms w
  body_wakes e t o f =
      body_exchange w e (without_first (exchange_in xs e)) (open_below xs e o) o
      (λ b.
      let none = no_items (exchange_in xs e) t f in
      let was : occurrences b (items (exchange_in xs e)) ≡ 0 = ap (occurrences b) none.0 in
      let is : occurrences b (items (without_first (exchange_in xs e))) ≡ 0 = ap (occurrences b) none.1 in
      omega arith)

  -- a block on its way joins the line
  pub body_queues : (w' : ℕ → ℕ) (e k : ℕ) → OpenIn xs e → More w w' k
      → Body reading h z ts (set xs e (with_item k (exchange_in xs e))) ns as' bs fr ms w'
  body_queues w' e k o more =
      body_exchange w' e (with_item k (exchange_in xs e)) (open_below xs e o) o
      (λ b.
      let here = more_here w w' k more in
      let few = items_room g.blocks e k (omega arith) g.shape.few_blocks in
      let j = occurrences_joins b k (items (exchange_in xs e)) few in
      let d = more b in omega arith)

  -- a block on its way, not a request, is free again
  pub body_returns : (w' : ℕ → ℕ) (k : ℕ) → More w w' k → owed bs k ≡ None → Body reading h z ts xs ns as' bs (set fr k true) ms w'
  body_returns w' k more none =
      let here = more_here w w' k more in
      let way = on_way g.blocks k (omega arith) in
      let was : one_if (marked fr k) ≡ 0 = ap one_if way.unmarked in
      record {
        shape = shape_mark k true;
        blocks = blocks_mark g.blocks w' k true (mark_there k way.below) (omega arith) (λ b ne. sym (more_else w w' k b more ne)) (λ t. none);
        opens = g.opens;
        asks = g.asks;
        given = g.given;
      }

  -- a block on its way that carries a request goes to a hand
  pub body_hand : (w' : ℕ → ℕ) (t k : ℕ) → More w w' k → is_some (owed bs k) ≡ true
      → Body reading h z ts xs ns as' (set bs k (record { carries = carried bs k; holder = Some t })) fr ms w'
  body_hand w' t k more request =
      let here = more_here w w' k more in
      let way = on_way g.blocks k (omega arith) in
      let was : one_if (is_some (holder_of bs k)) ≡ 0 = ap one_if way.unheld in
      let r : BlockRecord = record { carries = carried bs k; holder = Some t } in
      let lt = block_there k way.below in
      record {
        shape = shape_record k r;
        blocks = blocks_record g.blocks w' k r lt way.unmarked way.unset (λ u e. request) (omega arith) (λ b ne. sym (more_else w w' k b more ne));
        opens = opens_record g.opens k r lt (λ e o. g.opens.replies k e o);
        asks = asks_record g.asks k r lt refl;
        given = g.given;
      }

  -- a free block leaves the pool
  pub body_hands_out : (h' : History M) (w' : ℕ → ℕ) (k : ℕ) (c : Carries) (m : M) → marked fr k ≡ true → More w' w k
      → ((e : ℕ) → owed_by c ≡ Some e → OpenIn xs e)
      → Asks reading h' (set bs k (record { carries = c; holder = None })) (set ms k m) → Given reading h' as' (set ms k m)
      → Body reading h' z ts xs ns as' (set bs k (record { carries = c; holder = None })) (set fr k false) (set ms k m) w'
  body_hands_out h' w' k c m free more opens' asks' given' =
      let r : BlockRecord = record { carries = c; holder = None } in
      let below = free_below g.blocks k free in
      let here = more_here w' w k more in
      let was : one_if (marked fr k) ≡ 1 = one_if_true (marked fr k) free in
      let once = g.blocks.once k in
      let most = one_if_le (ltb k z.blocks) in
      let out = blocks_mark g.blocks w' k false (mark_there k below) (omega arith) (λ b ne. more_else w' w k b more ne) (λ t. absurd (false≢true t)) in
      let way = on_way out k (omega arith) in
      let unheld : one_if (is_some (holder_of bs k)) ≡ 0 = ap one_if way.unheld in
      record {
        shape = record { tasks = g.shape.tasks; exchanges = g.shape.exchanges; blocks = length-set bs k r ∙ g.shape.blocks; free = length-set fr k false ∙ g.shape.free; few_tasks = g.shape.few_tasks; few_blocks = g.shape.few_blocks };
        blocks = blocks_record out w' k r (block_there k below) way.unmarked way.unset (λ t e. none_not_some None t refl e) (omega arith) (λ b ne. refl);
        opens = opens_record g.opens k r (block_there k below) opens';
        asks = asks';
        given = given';
      }

  -- a block in a hand goes on its way
  pub body_out_of_hand : (h' : History M) (w' : ℕ → ℕ) (k t : ℕ) (c : Carries) → k < z.blocks → holder_of bs k ≡ Some t → More w' w k
      → ((e : ℕ) → owed_by c ≡ Some e → OpenIn xs e)
      → Asks reading h' (set bs k (record { carries = c; holder = None })) ms → Given reading h' as' ms
      → Body reading h' z ts xs ns as' (set bs k (record { carries = c; holder = None })) fr ms w'
  body_out_of_hand h' w' k t c below held more opens' asks' given' =
      let r : BlockRecord = record { carries = c; holder = None } in
      let here = more_here w' w k more in
      let was : one_if (is_some (holder_of bs k)) ≡ 1 = one_if_true (is_some (holder_of bs k)) (some_is (holder_of bs k) t held) in
      let lt = block_there k below in
      record {
        shape = shape_record k r;
        blocks = blocks_record g.blocks w' k r lt (held_unmarked g.blocks k t held) (held_unset g.blocks k t held)
            (λ u e. none_not_some None u refl e) (omega arith) (λ b ne. more_else w' w k b more ne);
        opens = opens_record g.opens k r lt opens';
        asks = asks';
        given = given';
      }

  pub body_alarms : (w' : ℕ → ℕ) (new : List AlarmRecord) → ((b : ℕ) → alarms_in b new + w' b ≡ alarms_in b as' + w b)
      → ((b : ℕ) → 0 < alarms_in b new → carried bs b ≡ carries.Alarm) → AllByRecursion (λ a. OpenIn xs a.exchange) new → Given reading h new ms
      → Body reading h z ts xs ns new bs fr ms w'
  body_alarms w' new each alarm' opens' given' =
      record {
        shape = g.shape;
        blocks = blocks_alarms g.blocks w' new each alarm';
        opens = opens_alarms g.opens new opens';
        asks = g.asks;
        given = given';
      }

  pub body_names : (new : List Binding) → AllByRecursion (λ b. OpenIn xs b.exchange) new → Body reading h z ts xs new as' bs fr ms w
  body_names new all = record { shape = g.shape; blocks = g.blocks; opens = opens_names g.opens new all; asks = g.asks; given = g.given }

  -- a step that is neither a Request, nor a Respond, nor an Alarm
  pub body_step : (st : Step M) → ((b : ℕ) → asks st b ≡ false) → ((b : ℕ) → responds st b ≡ false) → ((b : ℕ) → sets_alarm st b ≡ false)
      → Body reading (st ∷ h) z ts xs ns as' bs fr ms w
  body_step st a r d =
      record { shape = g.shape; blocks = g.blocks; opens = g.opens; asks = asks_step g.asks st a r; given = given_step g.given st d }

-- ---- take and put

keeps_exchanges : {M : Type 0} (t k : ℕ) (c : Carries) (s : State M) → (keeps t k c s).exchanges ≡ s.exchanges
keeps_exchanges t k c s = keeps_part (λ u. u.exchanges) (λ f bs u. refl) t k c s

-- after a put, what was open is open
pub record PutBody {M : Type 0} (reading : List ℕ → Option M) (h : History M) (s : State M) (w' : ℕ → ℕ) (o : State M) : Type 0 where
  pub body : BodyOf reading h o w'
  pub kept : (e : ℕ) → OpenIn s.exchanges e → OpenIn o.exchanges e

module _ {M : Type 0} {reading : List ℕ → Option M} {h : History M} where
  pub takes_body : (s : State M) (w w' : ℕ → ℕ) (t k : ℕ) → BodyOf reading h s w → More w w' k → BodyOf reading h (takes t k s) w'
  takes_body s w w' t k g more = go (block_at s k).carries refl
    where
      tray : State M
      tray = with_trays (written_if t (slice_get s.messages k) s.trays) (with_tray t (item_of k (block_at s k).carries) s)

      told : BodyOf reading h tray w
      told = body_task g t _

      go : (c : Carries) → (block_at s k).carries ≡ c → BodyOf reading h (keeps t k c tray) w'
      go carries.Message e = body_returns told w' k more (ap owed_by e)
      go (carries.Request r) e = body_hand told w' t k more (ap (λ c. is_some (owed_by c)) e)
      go (carries.Reply u) e = body_returns told w' k more (ap owed_by e)
      go carries.Alarm e = body_returns told w' k more (ap owed_by e)

  pub put_body : (s : State M) (w w' : ℕ → ℕ) (e k : ℕ) → BodyOf reading h s w → OpenIn s.exchanges e → More w w' k → PutBody reading h s w' (put e k s)
  put_body s w w' e k g o more = go (first_waiting s e) refl
    where
      lt : e < length s.exchanges
      lt = open_below s.exchanges e o

      go : (f : Option ℕ) → first_waiting s e ≡ f → PutBody reading h s w' (put_to f e k s)
      go None f =
          record {
            body = body_queues g w' e k o more;
            kept = open_kept s.exchanges e (with_item k (exchange_at s e)) lt o;
          }
      go (Some t) f =
          record {
            body = takes_body (first_leaves e s) w w' t k (body_wakes g e t o f) more;
            kept = λ u p.
                subst (λ xs. OpenIn xs u) (sym (keeps_exchanges t k (block_at s k).carries
                (with_trays (written_if t (slice_get s.messages k) s.trays) (with_tray t (item_of k (block_at s k).carries) (first_leaves e s)))))
                (open_kept s.exchanges e (without_first (exchange_at s e)) lt o u p);
          }

  pub put_due_body : (l : List AlarmRecord) (s : State M) → BodyOf reading h s (λ b. alarms_in b l) → AllByRecursion (λ a. OpenIn s.exchanges a.exchange) l
      → BodyOf reading h (put_due l s) none_on_way
  put_due_body [] s g o = g
  put_due_body (a ∷ l) s g o =
      let p = put_body s (λ b. alarms_in b (a ∷ l)) (λ b. alarms_in b l) a.exchange a.block g o.0
      (λ b. let c = alarms_in_cons b a l in omega arith) in
      put_due_body l (put a.exchange a.block s) p.body
      (All-weaker (λ a. OpenIn s.exchanges a.exchange) (λ c. OpenIn (put a.exchange a.block s).exchanges c.exchange)
      (λ c q. p.kept c.exchange q) l o.1)
