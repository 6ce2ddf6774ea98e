-- An accepted step keeps the tables, the places of blocks, what is open, the requests and the alarms. Assumes nothing.
use Rattle.std.proofs.Common.{◌≡◌, ℕ, ◌+◌, ◌<◌, ◌≤◌, Bool, true, false, cond, not, ◌&&◌, eqb, ltb, leb, ◌⊎◌, List, [], ◌∷◌, ◌++◌, length, set, is_some, Some, None, count_by, Option, sym, refl, ap, ◌∙◌, subst, ⊎_elim, arith}
use Rattle.std.proofs.ByRecursion.{All-push}
use Rattle.std.proofs.lemmas.List.{get_or_past, nil_from_length}
use Rattle.std.proofs.lemmas.List.Sums.{get_or-le-sum_by}
use Rattle.std.proofs.lemmas.Bool.{and_from, and_left, and_right, both_ways, cases_eq, cases_lt, cond-true, eq-eqb, eqb-true, false≢true, leb-false, lt-ltb, ne_eqb, not-false, not_from_false, or_parts}
use Rattle.std.specs.List.{slice_get}
use Rattle.pool.specs.Marks.{marked}
use Rattle.plain.specs.Calls.{Call}
use Rattle.plain.specs.Calls as call
use Rattle.plain.specs.Effects.{Outcome, alarm, alarm_capacity, check, due, move, open_exchange, post_read, request, respond, shown, still_running, tick, wait, without_alarm}
use Rattle.plain.specs.Lookups.{alarm_in, block_at, closed_exchange, exchange_at, exchange_of, first_item, first_waiting, idle_block, in_hand, is_number, is_open, items, items_in, occurrences, owed_by, reply_to, task_at, waiting}
use Rattle.plain.specs.Moves.{first_leaves, hands_out, out_of_hand, post_to, put, settles, takes, with_waiting}
use Rattle.plain.specs.Openings.{one_if}
use Rattle.plain.specs.Reasons.{caller, is_bound, message, n1, needs_block, refusal_of}
use Rattle.plain.specs.States.{Exchange, State, with_alarms}
use Rattle.plain.specs.declared.records.AlarmRecord.{AlarmRecord}
use Rattle.plain.specs.declared.records.Binding.{Binding}
use Rattle.plain.specs.declared.records.BlockRecord.{BlockRecord}
use Rattle.plain.specs.declared.records.Carries.TheVariants as carries
use Rattle.plain.specs.declared.records.Holds.{Holds}
use Rattle.plain.specs.declared.records.Holds.TheVariants.{Items, Tasks}
use Rattle.plain.specs.declared.records.TrayItem.{TrayItem}
use Rattle.books.specs.Deeds.{alarm_given, asked, asks, responds, sets_alarm, unanswered}
use Rattle.books.specs.Laws.{alarms_in}
use Rattle.books.specs.Runs.{History, Step}
use Rattle.books.proofs.Capacity.{alarms_room}
use Rattle.books.proofs.Counting.{one_if_true}
use Rattle.books.proofs.Accepts.{NoReason, no_reason, open_below}
use Rattle.books.proofs.BlockMoves.{Body, BodyOf, asks_message, asks_record, asks_step, block_there, blocks_exchange, body_alarms, body_exchange, body_first, body_hands_out, body_names, body_out_of_hand, body_queues, body_returns, body_step, body_task, body_wakes, free_below, free_not_owed, free_unset, given_fewer, given_message, given_step, put_body, put_due_body, shape_exchange, takes_body}
use Rattle.plain.proofs.PlaceLaws.{nth-set_other, nth-set_same}
use Rattle.books.proofs.BlockParts.{More, alarms_in_push, alarms_parted, alarms_without, all_due, all_elsewhere, all_still_running, all_without_alarm, all_without_name, empty_line, is_number_some, named_open, no_first, none_not_some, not_positive, only, set_cases, tied_has}
use Rattle.books.proofs.Invariants.{Asks, Given, Kept, OpenIn, Opens, accepted_step_of, holder_of, none_on_way, owed}

-- ---- what is owed of the state after

abbrev pub BlocksAfter : {M : Type 0} → (List ℕ → Option M) → History M → State M → Call → ℕ → Type 0
BlocksAfter reading h s c n = BodyOf reading (accepted_step_of reading s c n ∷ h) (accepted_step_of reading s c n).after none_on_way

-- from nothing on its way to only k, and back
only_more : (k : ℕ) → More (only k) none_on_way k
only_more k b = omega arith

-- ---- Open and Close

items_of_empty : (x : Exchange) → x.line ≡ [] → items x ≡ []
items_of_empty x e = go x.holds x.line e
  where
    go : (h : Holds) (l : List ℕ) → l ≡ [] → items_in h l ≡ []
    go Items l e = e
    go Tasks l e = refl

-- an exchange to which nothing is bound may close
opens_closed : (xs : List Exchange) (ns : List Binding) (as' : List AlarmRecord) (bs : List BlockRecord) (e : ℕ) (x : Exchange) → Opens xs ns as' bs
    → e < length xs → x.line ≡ []
    → count_by (λ a. eqb e a.exchange) as' ≡ 0 → count_by (λ b. eqb e b.exchange) ns ≡ 0
    → count_by (λ r. is_number e (owed_by r.carries)) bs ≡ 0 → Opens (set xs e x) ns as' bs
opens_closed xs ns as' bs e x g lt empty alarms names replies =
    record {
      closed = set_cases xs e x closed_exchange lt (λ k y. is_open y.state ≡ false → y.line ≡ []) (λ c. empty) (λ k ne. g.closed k);
      names = all_elsewhere (λ b. b.exchange) (OpenIn xs) (OpenIn (set xs e x)) e ns names kept g.names;
      alarms = all_elsewhere (λ a. a.exchange) (OpenIn xs) (OpenIn (set xs e x)) e as' alarms kept g.alarms;
      replies = λ b k o. kept k (λ same. not_owed b (subst (λ v. owed bs b ≡ Some v) same o)) (g.replies b k o);
    }
  where
    kept : (k : ℕ) → (k ≡ e → ⊥) → OpenIn xs k → OpenIn (set xs e x) k
    kept k ne = set_cases xs e x closed_exchange lt (λ c y. (c ≡ e → ⊥) → OpenIn xs c → is_open y.state ≡ true)
        (λ n o. absurd (n refl)) (λ c n m o. o) k ne

    not_owed : (b : ℕ) → owed bs b ≡ Some e → ⊥
    not_owed b o = ⊎_elim
        (λ (l : b < length bs).
        let most = get_or-le-sum_by (λ r. cond (is_number e (owed_by r.carries)) 1 0) bs b idle_block l in
        let one : one_if (is_number e (owed bs b)) ≡ 1 = one_if_true (is_number e (owed bs b)) (ap (is_number e) o ∙ eq-eqb e e refl) in
        omega arith)
        (λ (l : length bs ≤ b). none_not_some (owed bs b) e (ap (λ r. owed_by r.carries) (get_or_past bs b idle_block l)) o)
        (cases_lt b (length bs))

-- ---- Request, Respond and Alarm in the run

module _ {M : Type 0} {reading : List ℕ → Option M} {h : History M} (st : Step M) (k : ℕ) where
  asks_request : (bs : List BlockRecord) (ms : List M) → Asks reading h bs ms → (r : ℕ) (m : M) → k < length bs → k < length ms → owed bs k ≡ None
      → asks st k ≡ true → ((b : ℕ) → (b ≡ k → ⊥) → asks st b ≡ false) → ((b : ℕ) → responds st b ≡ false)
      → n1 st.call ≡ r → reading (message st.call) ≡ Some m
      → Asks reading (st ∷ h) (set bs k (record { carries = carries.Request r; holder = None })) (set ms k m)
  asks_request bs ms g r m lt lt' none here else quiet same read =
      record {
        stands = set_cases bs k _ idle_block lt (λ b y. unanswered (st ∷ h) b ≡ is_some (owed_by y.carries))
            (rw here refl)
            (λ b ne. rw (else b ne, quiet b) (g.stands b));
        turns = λ b. (g.turns b, λ t. unasked b t, λ t. absurd (both_ways (responds st b) (quiet b) t));
        asked_for = λ b q. set_cases bs k _ idle_block lt
            (λ c y. owed_by y.carries ≡ Some q → asked reading (st ∷ h) c ≡ Some (record { reply = q; message = slice_get (set ms k m) c }))
            (λ o. let p : n1 st.call ≡ q = cc in let place = nth-set_same ms k m lt' in rw (here, place, read, p) refl)
            (λ c ne o. rw (else c ne, nth-set_other ms k c m ne) (g.asked_for c q o)) b;
      }
    where
      unasked : (b : ℕ) → asks st b ≡ true → unanswered h b ≡ false
      unasked b t = ⊎_elim
          (λ (e : b ≡ k). ap (unanswered h) e ∙ g.stands k ∙ ap is_some none)
          (λ (ne : b ≡ k → ⊥). absurd (both_ways (asks st b) (else b ne) t))
          (cases_eq b k)

  asks_respond : (bs : List BlockRecord) (ms : List M) → Asks reading h bs ms → (u : ℕ) → k < length bs → is_some (owed bs k) ≡ true
      → ((b : ℕ) → asks st b ≡ false) → responds st k ≡ true → ((b : ℕ) → (b ≡ k → ⊥) → responds st b ≡ false)
      → Asks reading (st ∷ h) (set bs k (record { carries = carries.Reply u; holder = None })) ms
  asks_respond bs ms g u lt request quiet here else =
      record {
        stands = set_cases bs k _ idle_block lt (λ b y. unanswered (st ∷ h) b ≡ is_some (owed_by y.carries))
            (rw (quiet k, here) refl)
            (λ b ne. rw (quiet b, else b ne) (g.stands b));
        turns = λ b. (g.turns b, λ t. absurd (both_ways (asks st b) (quiet b) t), λ t. unanswered_yet b t);
        asked_for = λ b q. set_cases bs k _ idle_block lt
            (λ c y. owed_by y.carries ≡ Some q → asked reading (st ∷ h) c ≡ Some (record { reply = q; message = slice_get ms c }))
            (λ o. none_not_some None q refl o)
            (λ c ne o. rw (quiet c) (g.asked_for c q o)) b;
      }
    where
      unanswered_yet : (b : ℕ) → responds st b ≡ true → unanswered h b ≡ true
      unanswered_yet b t = ⊎_elim
          (λ (e : b ≡ k). ap (unanswered h) e ∙ g.stands k ∙ request)
          (λ (ne : b ≡ k → ⊥). absurd (both_ways (responds st b) (else b ne) t))
          (cases_eq b k)

  given_alarm : (as' new : List AlarmRecord) (ms : List M) → Given reading h as' ms → (m : M) → k < length ms
      → ((b : ℕ) → (b ≡ k → ⊥) → alarms_in b new ≤ alarms_in b as')
      → sets_alarm st k ≡ true → ((b : ℕ) → (b ≡ k → ⊥) → sets_alarm st b ≡ false) → reading (message st.call) ≡ Some m
      → Given reading (st ∷ h) new (set ms k m)
  given_alarm as' new ms g m lt fewer here else read = record { given = λ b p. at b p (cases_eq b k) }
    where
      at : (b : ℕ) → 0 < alarms_in b new → (b ≡ k) ⊎ (b ≡ k → ⊥) → alarm_given reading (st ∷ h) b ≡ slice_get (set ms k m) b
      at b p = ⊎_elim
          (λ (e : b ≡ k). subst (λ v. alarm_given reading (st ∷ h) v ≡ slice_get (set ms k m) v) (sym e) self)
          (λ (ne : b ≡ k → ⊥). other b p ne)
        where
          self : alarm_given reading (st ∷ h) k ≡ slice_get (set ms k m) k
          self = rw (here, nth-set_same ms k m lt) read

          other : (b : ℕ) → 0 < alarms_in b new → (b ≡ k → ⊥) → alarm_given reading (st ∷ h) b ≡ slice_get (set ms k m) b
          other b p ne = rw (else b ne, nth-set_other ms k b m ne) (g.given b (let f = fewer b ne in omega arith))

-- ---- the moves of the calls

module _ {M : Type 0} {reading : List ℕ → Option M} {h : History M} (s : State M) (g : BodyOf reading h s none_on_way) where
  pub body_of_post : (e n : ℕ) (o : Option M) → OpenIn s.exchanges e → (is_some (first_waiting s e) ≡ false → marked s.free n ≡ true)
      → BodyOf reading h (post_read e o n s) none_on_way
  body_of_post e n None at free = g
  body_of_post e n (Some m) at free = go (first_waiting s e) refl
    where
      go : (f : Option ℕ) → first_waiting s e ≡ f → BodyOf reading h (post_to f e m n s) none_on_way
      go None f =
          let unmarked = free (ap is_some f) in
          let lt = block_there g n (free_below g.blocks n unmarked) in
          let unowed = free_not_owed g.blocks n unmarked in
          body_queues
          (body_hands_out g h (only n) n carries.Message m unmarked (only_more n) (λ u o. none_not_some None u refl o)
          (asks_record (asks_message g.asks n m unowed) n _ lt (sym unowed))
          (given_message g.given n m (free_unset g.blocks n unmarked)))
          none_on_way e n at (only_more n)
      go (Some t) f = body_task (body_wakes g e t at f) t _

  pub body_of_taken : (t e b : ℕ) → OpenIn s.exchanges e → first_item s e ≡ Some b → BodyOf reading h (takes t b (first_leaves e s)) none_on_way
  body_of_taken t e b at f =
      takes_body (first_leaves e s) (only b) none_on_way t b (body_first g (only b) e b at f (only_more b)) (only_more b)

  pub body_of_waits : (t e : ℕ) → OpenIn s.exchanges e → first_item s e ≡ None
      → Body reading h s.sizes s.tasks (set s.exchanges e (with_waiting t (exchange_at s e))) s.names s.alarms s.blocks s.free s.messages none_on_way
  body_of_waits t e at f =
      body_exchange g none_on_way e (with_waiting t (exchange_at s e)) (open_below s.exchanges e at) at
      (λ b. let none : occurrences b (items (exchange_at s e)) ≡ 0 = ap (occurrences b) (no_first (items (exchange_at s e)) f) in omega arith)

  pub body_of_opened : (e : ℕ) → e < length s.exchanges → is_open (exchange_at s e).state ≡ false → BodyOf reading h (open_exchange e s) none_on_way
  body_of_opened e lt closed =
      body_exchange g none_on_way e _ lt refl
      (λ b.
      let none : occurrences b (items (exchange_at s e)) ≡ 0 =
      ap (occurrences b) (items_of_empty (exchange_at s e) (g.opens.closed e closed)) in
      omega arith)

  pub body_of_tick : BodyOf reading h (tick s) none_on_way
  body_of_tick =
      put_due_body (due s.alarms) (with_alarms (still_running s.alarms) s)
      (body_alarms g (λ b. alarms_in b (due s.alarms)) (still_running s.alarms)
      (λ b. let p = alarms_parted b s.alarms in omega arith)
      (λ b pos. g.blocks.alarm b (let p = alarms_parted b s.alarms in omega arith))
      (all_still_running (OpenIn s.exchanges) s.alarms g.opens.alarms)
      (given_fewer g.given (still_running s.alarms) (λ b. let p = alarms_parted b s.alarms in omega arith)))
      (all_due (OpenIn s.exchanges) s.alarms g.opens.alarms)

  pub body_of_moved : (b t e : ℕ) → b < s.sizes.blocks → OpenIn s.exchanges e → holder_of s.blocks b ≡ Some t → BodyOf reading h (move b e s) none_on_way
  body_of_moved b t e below at held =
      (put_body (out_of_hand b (block_at s b).carries s) (only b) none_on_way e b
      (body_out_of_hand g h (only b) b t (block_at s b).carries below held (only_more b) (λ u o. g.opens.replies b u o)
      (asks_record g.asks b _ (block_there g b below) refl) g.given)
      at (only_more b)).body

  pub body_of_cancelled : (b : ℕ) → is_some (alarm_in b s.alarms) ≡ true
      → Body reading h s.sizes s.tasks s.exchanges s.names (without_alarm b s.alarms) s.blocks (set s.free b true) s.messages none_on_way
  body_of_cancelled b there =
      body_returns
      (body_alarms g (only b) (without_alarm b s.alarms)
      (λ k. let p = alarms_without k b s.alarms there in omega arith)
      (λ k pos. g.blocks.alarm k (let p = alarms_without k b s.alarms there in omega arith))
      (all_without_alarm (OpenIn s.exchanges) b s.alarms g.opens.alarms)
      (given_fewer g.given (without_alarm b s.alarms) (λ k. let p = alarms_without k b s.alarms there in omega arith)))
      none_on_way b (only_more b)
      (ap owed_by (g.blocks.alarm b
      (let p = alarms_without b b s.alarms there in let one = one_if_true (eqb b b) (eq-eqb b b refl) in omega arith)))

  pub body_of_closed : (e : ℕ) (x : Exchange) → e < length s.exchanges → is_bound s e ≡ false → x.holds ≡ (exchange_at s e).holds → x.line ≡ (exchange_at s e).line
      → Body reading h s.sizes s.tasks (set s.exchanges e x) s.names s.alarms s.blocks s.free s.messages none_on_way
  body_of_closed e x lt unbound same_holds same_line =
      let a = or_parts _ _ unbound in
      let b = or_parts _ _ a.1 in
      let c = or_parts _ _ b.1 in
      let d = or_parts _ _ c.1 in
      let no_item = nil_from_length (items (exchange_at s e)) (not_positive _ a.0) in
      let no_task = nil_from_length (waiting (exchange_at s e)) (not_positive _ b.0) in
      let empty = empty_line (exchange_at s e) no_item no_task in
      record {
        shape = shape_exchange g e x;
        blocks = blocks_exchange g.blocks none_on_way e x lt
            (λ k. ap (λ l. occurrences k l + 0) (items_of_empty x (same_line ∙ empty) ∙ sym no_item));
        opens = opens_closed s.exchanges s.names s.alarms s.blocks e x g.opens lt (same_line ∙ empty)
            (not_positive _ c.0) (not_positive _ d.0) (not_positive _ d.1);
        asks = g.asks;
        given = g.given;
      }

  -- with the step that asks, st
  pub body_of_request : (st : Step M) (r e n : ℕ) (m : M) → OpenIn s.exchanges r → OpenIn s.exchanges e → length s.messages ≡ s.sizes.blocks
      → marked s.free n ≡ true → asks st n ≡ true → ((b : ℕ) → (b ≡ n → ⊥) → asks st b ≡ false) → ((b : ℕ) → responds st b ≡ false)
      → ((b : ℕ) → sets_alarm st b ≡ false) → n1 st.call ≡ r → reading (message st.call) ≡ Some m
      → BodyOf reading (st ∷ h) (put e n (hands_out n (carries.Request r) m s)) none_on_way
  body_of_request st r e n m at_reply at table free here else quiet no_alarm same read =
      let below = free_below g.blocks n free in
      (put_body (hands_out n (carries.Request r) m s) (only n) none_on_way e n
      (body_hands_out g (st ∷ h) (only n) n (carries.Request r) m free (only_more n)
      (λ u o. let p : r ≡ u = cc in subst (OpenIn s.exchanges) p at_reply)
      (asks_request st n s.blocks s.messages g.asks r m (block_there g n below) (omega arith) (free_not_owed g.blocks n free)
      here else quiet same read)
      (given_step (given_message g.given n m (free_unset g.blocks n free)) st no_alarm))
      at (only_more n)).body

  pub body_of_respond : (st : Step M) (b t status r : ℕ) → b < s.sizes.blocks → holder_of s.blocks b ≡ Some t → owed s.blocks b ≡ Some r
      → ((k : ℕ) → asks st k ≡ false) → responds st b ≡ true → ((k : ℕ) → (k ≡ b → ⊥) → responds st k ≡ false) → ((k : ℕ) → sets_alarm st k ≡ false)
      → BodyOf reading (st ∷ h) (put r b (out_of_hand b (carries.Reply status) s)) none_on_way
  body_of_respond st b t status r below held owes quiet here else no_alarm =
      (put_body (out_of_hand b (carries.Reply status) s) (only b) none_on_way r b
      (body_out_of_hand g (st ∷ h) (only b) b t (carries.Reply status) below held (only_more b) (λ u o. none_not_some None u refl o)
      (asks_respond st b s.blocks s.messages g.asks status (block_there g b below) (ap is_some owes) quiet here else)
      (given_step g.given st no_alarm))
      (g.opens.replies b r owes) (only_more b)).body

  pub body_of_alarm : (st : Step M) (e ticks n : ℕ) (m : M) → OpenIn s.exchanges e → length s.messages ≡ s.sizes.blocks → marked s.free n ≡ true
      → ((b : ℕ) → asks st b ≡ false) → ((b : ℕ) → responds st b ≡ false) → sets_alarm st n ≡ true → ((b : ℕ) → (b ≡ n → ⊥) → sets_alarm st b ≡ false)
      → reading (message st.call) ≡ Some m → BodyOf reading (st ∷ h) (alarm e ticks (Some m) n s) none_on_way
  body_of_alarm st e ticks n m at table free quiet no_reply here else read =
      let below = free_below g.blocks n free in
      let lt = block_there g n below in
      let unowed = free_not_owed g.blocks n free in
      let short = alarms_room g.blocks n below (free_unset g.blocks n free) g.shape.few_blocks in
      let P : List AlarmRecord → Type 0 = λ as'. BodyOf reading (st ∷ h) (with_alarms as' (hands_out n carries.Alarm m s)) none_on_way in
      subst P (sym (cond-true (ltb (length s.alarms) alarm_capacity) new s.alarms (lt-ltb (length s.alarms) alarm_capacity short)))
      (body_alarms
      (body_hands_out g (st ∷ h) (only n) n carries.Alarm m free (only_more n) (λ u o. none_not_some None u refl o)
      (asks_step (asks_record (asks_message g.asks n m unowed) n _ lt (sym unowed)) st quiet no_reply)
      (given_fewer (now below) s.alarms (λ b. let p = alarms_in_push b s.alarms set' in omega arith)))
      none_on_way new
      (λ b. let p = alarms_in_push b s.alarms set' in omega arith)
      (set_cases s.blocks n _ idle_block lt (λ b y. 0 < alarms_in b new → y.carries ≡ carries.Alarm)
      (λ p. refl) (λ b ne pos. g.blocks.alarm b (let f = fewer b ne in omega arith)))
      (All-push (λ a. OpenIn s.exchanges a.exchange) s.alarms set' g.opens.alarms at)
      (now below))
    where
      set' : AlarmRecord
      set' = record { block = n; exchange = e; ticks = ticks }

      new : List AlarmRecord
      new = s.alarms ++ set' ∷ []

      fewer : (b : ℕ) → (b ≡ n → ⊥) → alarms_in b new ≤ alarms_in b s.alarms
      fewer b ne =
          let p = alarms_in_push b s.alarms set' in
          let z : one_if (eqb b n) ≡ 0 = ap one_if (ne_eqb b n ne) in omega arith

      now : n < s.sizes.blocks → Given reading (st ∷ h) new (set s.messages n m)
      now below = given_alarm st n s.alarms new s.messages g.given m (omega arith) fewer here else read

-- ---- an accepted call

body_before : {M : Type 0} {reading : List ℕ → Option M} {h : History M} {s : State M} → Kept reading h s → BodyOf reading h s none_on_way
body_before k = record { shape = k.shape; blocks = k.blocks; opens = k.opens; asks = k.asks; given = k.given }

message_table : {M : Type 0} {reading : List ℕ → Option M} {s : State M} {c : Call} → NoReason reading s c → length s.messages ≡ s.sizes.blocks
message_table {M} {reading} {s} why = eqb-true (length s.messages) s.sizes.blocks (not-false _ (or_parts _ _ why.tables).0)

-- b is k, or it is not, as a test joined with another
here_and : (k : ℕ) (t : Bool) → t ≡ true → (eqb k k && t) ≡ true
here_and k t e = and_from (eqb k k) t (eq-eqb k k refl) e

else_and : (k b : ℕ) (t : Bool) → (b ≡ k → ⊥) → (eqb b k && t) ≡ false
else_and k b t ne = and_left (eqb b k) t (ne_eqb b k ne)

module _ {M : Type 0} (reading : List ℕ → Option M) (h : History M) (s : State M) where
  -- the step as its outcome makes it
  abbrev step_with : Call → ℕ → Outcome M → Step M
  step_with c n o = record { before = s; call = c; drawn = n; answer = o.answer; after = settles o.after }

  exchange_below : BodyOf reading h s none_on_way → (e : ℕ) → leb s.sizes.exchanges e ≡ false → e < length s.exchanges
  exchange_below g e lt = let a = g.shape.exchanges in let b = leb-false s.sizes.exchanges e lt in omega arith

  open_named : (e : ℕ) → leb s.sizes.exchanges e ≡ false → (not (leb s.sizes.exchanges e) && not (is_open (exchange_at s e).state)) ≡ false
      → OpenIn s.exchanges e
  open_named e below named = named_open s.sizes.exchanges e (is_open (exchange_at s e).state) below named

  wait_blocks : (e n : ℕ) → BodyOf reading h s none_on_way → OpenIn s.exchanges e → (o : Option ℕ) → first_item s e ≡ o
      → BodyOf reading (step_with (call.Wait e) n (wait o e s) ∷ h) (wait o e s).after none_on_way
  wait_blocks e n g at None f = body_step (body_of_waits s g (caller s) e at f) _ (λ b. refl) (λ b. refl) (λ b. refl)
  wait_blocks e n g at (Some b) f = body_step (body_of_taken s g (caller s) e b at f) _ (λ b. refl) (λ b. refl) (λ b. refl)

  check_blocks : (e n : ℕ) → BodyOf reading h s none_on_way → OpenIn s.exchanges e → (o : Option ℕ) → first_item s e ≡ o
      → BodyOf reading (step_with (call.Check e) n (check o e s) ∷ h) (check o e s).after none_on_way
  check_blocks e n g at None f = body_step g _ (λ b. refl) (λ b. refl) (λ b. refl)
  check_blocks e n g at (Some b) f = body_step (body_of_taken s g (caller s) e b at f) _ (λ b. refl) (λ b. refl) (λ b. refl)

  tray_blocks : (n : ℕ) → BodyOf reading h s none_on_way → (i : Option TrayItem) (m : Option M)
      → BodyOf reading (step_with call.Tray n (record { answer = shown i m; after = s }) ∷ h) s none_on_way
  tray_blocks n g None m = body_step g _ (λ b. refl) (λ b. refl) (λ b. refl)
  tray_blocks n g (Some i) None = body_step g _ (λ b. refl) (λ b. refl) (λ b. refl)
  tray_blocks n g (Some i) (Some m) = body_step g _ (λ b. refl) (λ b. refl) (λ b. refl)

  request_blocks : (r : ℕ) (name m : List ℕ) (n : ℕ) → BodyOf reading h s none_on_way → OpenIn s.exchanges r → length s.messages ≡ s.sizes.blocks
      → marked s.free n ≡ true → (e : Option ℕ) (o : Option M) → exchange_of s name ≡ e → reading m ≡ o → is_some e ≡ true → is_some o ≡ true
      → BodyOf reading (accepted_step_of reading s (call.Request r name m) n ∷ h) (request r e o n s) none_on_way
  request_blocks r name m n g at table free None o f read known good = absurd (false≢true known)
  request_blocks r name m n g at table free (Some e) None f read known good = absurd (false≢true good)
  request_blocks r name m n g at table free (Some e) (Some m') f read known good =
      body_of_request s g _ r e n m' at (tied_has (OpenIn s.exchanges) name s.names e g.opens.names f) table free
      (here_and n true refl) (λ b ne. else_and n b true ne) (λ b. refl) (λ b. and_right (eqb b n) false refl) refl read

  respond_blocks : (b status n : ℕ) → BodyOf reading h s none_on_way → b < s.sizes.blocks → holder_of s.blocks b ≡ Some (caller s)
      → (o : Option ℕ) → reply_to s b ≡ o → is_some o ≡ true
      → BodyOf reading (accepted_step_of reading s (call.Respond b status) n ∷ h) (respond o b status s) none_on_way
  respond_blocks b status n g below held None f owes = absurd (false≢true owes)
  respond_blocks b status n g below held (Some r) f owes =
      body_of_respond s g _ b (caller s) status r below held f (λ k. refl) (eq-eqb b b refl) (λ k ne. ne_eqb k b ne) (λ k. refl)

  alarm_blocks : (e ticks : ℕ) (m : List ℕ) (n : ℕ) → BodyOf reading h s none_on_way → OpenIn s.exchanges e → length s.messages ≡ s.sizes.blocks
      → marked s.free n ≡ true → (o : Option M) → reading m ≡ o → is_some o ≡ true
      → BodyOf reading (accepted_step_of reading s (call.Alarm e ticks m) n ∷ h) (alarm e ticks o n s) none_on_way
  alarm_blocks e ticks m n g at table free None read good = absurd (false≢true good)
  alarm_blocks e ticks m n g at table free (Some m') read good =
      body_of_alarm s g _ e ticks n m' at table free (λ b. and_right (eqb b n) false refl) (λ b. refl)
      (here_and n true refl) (λ b ne. else_and n b true ne) read

  -- a block that the running task may give away
  held_block : (b : ℕ) → not (in_hand s (caller s) b) ≡ false → holder_of s.blocks b ≡ Some (caller s)
  held_block b t = is_number_some (caller s) (holder_of s.blocks b) (not-false (in_hand s (caller s) b) t)

  accepted_blocks : (c : Call) (n : ℕ) → BodyOf reading h s none_on_way → NoReason reading s c → (needs_block s c ≡ true → marked s.free n ≡ true)
      → BlocksAfter reading h s c n
  accepted_blocks (call.Start t p) n g why drawn = body_step (body_task g t _) _ (λ b. refl) (λ b. refl) (λ b. refl)
  accepted_blocks (call.Open e) n g why drawn =
      body_step (body_of_opened s g e (exchange_below g e why.range) why.there) _ (λ b. refl) (λ b. refl) (λ b. refl)
  accepted_blocks (call.Close e) n g why drawn =
      body_step (body_of_closed s g e _ (exchange_below g e why.range) why.bound refl refl) _ (λ b. refl) (λ b. refl) (λ b. refl)
  accepted_blocks (call.Register e name) n g why drawn =
      body_step (body_names g _ (All-push (λ b. OpenIn s.exchanges b.exchange) s.names _ g.opens.names (open_named e why.range why.closed)))
      _ (λ b. refl) (λ b. refl) (λ b. refl)
  accepted_blocks (call.Strike name) n g why drawn =
      body_step (body_names g _ (all_without_name (OpenIn s.exchanges) name s.names g.opens.names)) _ (λ b. refl) (λ b. refl) (λ b. refl)
  accepted_blocks (call.Post e m) n g why drawn =
      body_step (body_of_post s g e n (reading m) (open_named e why.range why.closed) (λ f. drawn (not_from_false _ f)))
      _ (λ b. refl) (λ b. refl) (λ b. refl)
  accepted_blocks call.Tick n g why drawn = body_step (body_of_tick s g) _ (λ b. refl) (λ b. refl) (λ b. refl)
  accepted_blocks (call.Send e m) n g why drawn =
      body_step (body_of_post s g e n (reading m) (open_named e why.range why.closed) (λ f. drawn (not_from_false _ f)))
      _ (λ b. refl) (λ b. refl) (λ b. refl)
  accepted_blocks (call.Wait e) n g why drawn = wait_blocks e n g (open_named e why.range why.closed) (first_item s e) refl
  accepted_blocks (call.Check e) n g why drawn = check_blocks e n g (open_named e why.range why.closed) (first_item s e) refl
  accepted_blocks (call.Request r name m) n g why drawn =
      request_blocks r name m n g (open_named r why.range why.closed) (message_table why) (drawn refl) (exchange_of s name) (reading m) refl refl
      (not-false _ why.unknown) (not-false _ why.message)
  accepted_blocks (call.Respond b status) n g why drawn =
      let held = held_block b why.held in
      respond_blocks b status n g (leb-false s.sizes.blocks b why.range) held (reply_to s b) refl (g.blocks.hand b (caller s) held)
  accepted_blocks (call.Move b e) n g why drawn =
      let below = or_parts (leb s.sizes.blocks b) (leb s.sizes.exchanges e) why.range in
      body_step
      (body_of_moved s g b (caller s) e (leb-false s.sizes.blocks b below.0) (open_named e below.1 why.closed) (held_block b why.held))
      _ (λ k. refl) (λ k. refl) (λ k. refl)
  accepted_blocks (call.Alarm e ticks m) n g why drawn =
      let below = or_parts (leb s.sizes.exchanges e) (eqb ticks 0) why.range in
      alarm_blocks e ticks m n g (open_named e below.0 why.closed) (message_table why) (drawn refl) (reading m) refl (not-false _ why.message)
  accepted_blocks (call.Cancel b) n g why drawn =
      body_step (body_of_cancelled s g b (not-false _ why.held)) _ (λ k. refl) (λ k. refl) (λ k. refl)
  accepted_blocks (call.Priority p) n g why drawn = body_step (body_task g (caller s) _) _ (λ b. refl) (λ b. refl) (λ b. refl)
  accepted_blocks call.End n g why drawn = body_step g _ (λ b. refl) (λ b. refl) (λ b. refl)
  accepted_blocks call.Tray n g why drawn = tray_blocks n g (task_at s (caller s)).tray (slice_get s.trays (caller s))

pub blocks_step : {M : Type 0} (reading : List ℕ → Option M) (h : History M) (s : State M) (c : Call) (n : ℕ) → Kept reading h s
    → refusal_of reading s c ≡ None → (needs_block s c ≡ true → marked s.free n ≡ true) → BlocksAfter reading h s c n
blocks_step reading h s c n kept accepted drawn = accepted_blocks reading h s c n (body_before kept) (no_reason reading s c accepted) drawn
