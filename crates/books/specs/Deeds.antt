-- What was done in a run, read off the calls, their answers, and the states before and after them. Assumes nothing.
--   accepted_step st         the answer is no refusal
--   Item                     what is put and taken: kind, number, status and message
--   asks st b, responds st b the step is an accepted Request answered with block b, or an accepted Respond of it
--   asked h b                what the last accepted Request answered with b gave: its reply exchange and its message
--   unanswered h b           there is one, and no Respond of b was accepted since
--   Turns h b                accepted Requests and Responds of b take turns, a Request first
--   alarm_given h b          the message that the last accepted Alarm answered with b gave
--   started h t              t was started, and has not ended since
--   priority_given h t       the priority that t was last given, by its Start or its own Priority
--   puts h st e, put_at h e  the items put at e by a step, and by all since e was opened
--   takes st e, taken_at h e the items taken there
--   waiting_items s e        the items waiting there
use Rattle.std.specs.Prelude.{◌≡◌, ℕ, Bool, true, false, cond, ◌&&◌, List, [], ◌∷◌, ◌++◌, map, Some, None, Option, ◌==◌}
use Rattle.std.specs.List.{slice_get, flat_map}
use Rattle.calls.specs.declared.code.CallCode.TheVariants as code
use Rattle.plain.specs.Calls.{Call, among, is}
use Rattle.plain.specs.Calls as call
use Rattle.plain.specs.Effects.{due}
use Rattle.plain.specs.Lookups.{block_at, contains, exchange_at, exchange_of, is_number, items, task_at, waiting}
use Rattle.plain.specs.Moves.{item_of, no_number}
use Rattle.plain.specs.Reasons.{caller, message, n1, n2}
use Rattle.plain.specs.States.{State}
use Rattle.plain.specs.declared.answer.Answer.{Answer}
use Rattle.plain.specs.declared.answer.Answer.TheVariants as answer
use Rattle.plain.specs.declared.records.AlarmRecord.{AlarmRecord}
use Rattle.plain.specs.declared.records.Kind.{Kind}
use Rattle.plain.specs.declared.records.Kind.TheVariants as kind
use Rattle.plain.specs.declared.records.TrayItem.{TrayItem}
use Rattle.books.specs.Runs.{History, Step}

-- ---- answers

abbrev pub is_acceptance : {M : Type 0} → Answer M → Bool
is_acceptance (answer.Refused why) = false
is_acceptance answer.Done = true
is_acceptance (answer.Block b) = true
is_acceptance (answer.Took k) = true
is_acceptance (answer.Tray i m) = true

-- the block that the answer tells
abbrev pub block_told : {M : Type 0} → Answer M → Option ℕ
block_told (answer.Refused why) = None
block_told answer.Done = None
block_told (answer.Block b) = Some b
block_told (answer.Took k) = None
block_told (answer.Tray i m) = None

-- the answer tells of an item taken
abbrev pub took_one : {M : Type 0} → Answer M → Bool
took_one (answer.Refused why) = false
took_one answer.Done = false
took_one (answer.Block b) = false
took_one (answer.Took k) = true
took_one (answer.Tray i m) = false

abbrev pub accepted_step : {M : Type 0} → Step M → Bool
accepted_step st = is_acceptance st.answer

-- ---- items

pub record Item (M : Type 0) : Type 0 where
  pub kind : Kind
  pub number : ℕ
  pub status : ℕ
  -- none only where a table has no such place
  pub message : Option M

abbrev pub item_with : {M : Type 0} → TrayItem → Option M → Item M
item_with i m = record { kind = i.kind; number = i.number; status = i.status; message = m }

-- those of these tasks that are not among the others
abbrev pub gone : List ℕ → List ℕ → List ℕ
gone [] others = []
gone (t ∷ ts) others = cond (contains t others) (gone ts others) (t ∷ gone ts others)

abbrev pub alone_if : {A : Type 0} → Bool → A → List A
alone_if b x = cond b (x ∷ []) []

-- ---- requests

pub record Asked (M : Type 0) : Type 0 where
  pub reply : ℕ
  pub message : Option M

abbrev pub reply_asked : {M : Type 0} → Option (Asked M) → Option ℕ
reply_asked None = None
reply_asked (Some a) = Some a.reply

abbrev pub message_asked : {M : Type 0} → Option (Asked M) → Option M
message_asked None = None
message_asked (Some a) = a.message

module _ {M : Type 0} where
  -- the call was answered with block b
  abbrev pub answered_with : Step M → ℕ → Bool
  answered_with st b = is_number b (block_told st.answer)

  abbrev pub asks : Step M → ℕ → Bool
  asks st b = answered_with st b && is code.Request st.call

  abbrev pub sets_alarm : Step M → ℕ → Bool
  sets_alarm st b = answered_with st b && is code.Alarm st.call

  abbrev pub responds : Step M → ℕ → Bool
  responds st b = accepted_step st && (is code.Respond st.call && b == n1 st.call)

  abbrev pub unanswered : History M → ℕ → Bool
  unanswered [] b = false
  unanswered (st ∷ h) b = cond (asks st b) true (cond (responds st b) false (unanswered h b))

  abbrev pub Turns : History M → ℕ → Type 0
  Turns [] b = Unit {0}
  Turns (st ∷ h) b =
      Turns h b × (asks st b ≡ true → unanswered h b ≡ false) × (responds st b ≡ true → unanswered h b ≡ true)

  -- ---- tasks

  abbrev pub starts : Step M → ℕ → Bool
  starts st t = accepted_step st && (is code.Start st.call && t == n1 st.call)

  abbrev pub ends : Step M → ℕ → Bool
  ends st t = accepted_step st && (is code.End st.call && t == caller st.before)

  abbrev pub reprioritizes : Step M → ℕ → Bool
  reprioritizes st t = accepted_step st && (is code.Priority st.call && t == caller st.before)

  abbrev pub started : History M → ℕ → Bool
  started [] t = false
  started (st ∷ h) t = cond (starts st t) true (cond (ends st t) false (started h t))

  abbrev pub priority_given : History M → ℕ → ℕ
  priority_given [] t = 0
  priority_given (st ∷ h) t =
      cond (starts st t) (n2 st.call) (cond (reprioritizes st t) (n1 st.call) (priority_given h t))

  -- ---- taken

  -- what the task's tray shows, with its tray place
  abbrev pub tray_shown : Option TrayItem → Option M → List (Item M)
  tray_shown None m = []
  tray_shown (Some i) m = item_with i m ∷ []

  abbrev pub in_tray : State M → ℕ → List (Item M)
  in_tray s t = tray_shown (task_at s t).tray (slice_get s.trays t)

  -- the caller, where its Wait or Check at e answers a kind
  abbrev pub caller_takes : Step M → ℕ → List (Item M)
  caller_takes st e =
      cond (took_one st.answer && (among (code.Wait ∷ code.Check ∷ []) st.call && e == n1 st.call))
      (in_tray st.after (caller st.before)) []

  -- those who waited at e before the step and no longer do, in the order of waiting
  abbrev pub woken_take : Step M → ℕ → List (Item M)
  woken_take st e =
      flat_map (in_tray st.after) (gone (waiting (exchange_at st.before e)) (waiting (exchange_at st.after e)))

  abbrev pub takes : Step M → ℕ → List (Item M)
  takes st e = caller_takes st e ++ woken_take st e

  abbrev pub opens : Step M → ℕ → Bool
  opens st e = accepted_step st && (is code.Open st.call && e == n1 st.call)

  abbrev pub taken_at : History M → ℕ → List (Item M)
  taken_at [] e = []
  taken_at (st ∷ h) e = cond (opens st e) [] (taken_at h e ++ takes st e)

  -- ---- waiting

  abbrev pub item_in : State M → ℕ → Item M
  item_in s b = item_with (item_of b (block_at s b).carries) (slice_get s.messages b)

  abbrev pub waiting_items : State M → ℕ → List (Item M)
  waiting_items s e = map (item_in s) (items (exchange_at s e))

  -- ---- put

  abbrev pub put_here : ℕ → Option ℕ → Item M → List (Item M)
  put_here e where' i = alone_if (is_number e where') i

  abbrev pub message_put : Option M → Item M
  message_put m = record { kind = kind.Message; number = no_number; status = 0; message = m }

  abbrev pub request_put : ℕ → Option M → Item M
  request_put b m = record { kind = kind.Request; number = b; status = 0; message = m }

  abbrev pub reply_put : ℕ → ℕ → Option M → Item M
  reply_put b status m = record { kind = kind.Reply; number = b; status = status; message = m }

  abbrev pub alarm_put : ℕ → Option M → Item M
  alarm_put b m = record { kind = kind.Alarm; number = b; status = 0; message = m }

module _ {M : Type 0} (reading : List ℕ → Option M) where
  abbrev pub asked : History M → ℕ → Option (Asked M)
  asked [] b = None
  asked (st ∷ h) b =
      cond (asks st b) (Some (record { reply = n1 st.call; message = reading (message st.call) })) (asked h b)

  abbrev pub alarm_given : History M → ℕ → Option M
  alarm_given [] b = None
  alarm_given (st ∷ h) b = cond (sets_alarm st b) (reading (message st.call)) (alarm_given h b)

  -- the alarms that a Tick makes due, in the order set
  abbrev pub due_put : History M → ℕ → List AlarmRecord → List (Item M)
  due_put h e [] = []
  due_put h e (a ∷ as') =
      put_here e (Some a.exchange) (alarm_put a.block (alarm_given h a.block)) ++ due_put h e as'

  -- by the accepted call, answered with the block b if with one
  abbrev pub put_by : History M → State M → Call → Option ℕ → ℕ → List (Item M)
  put_by h s (call.Start t p) b e = []
  put_by h s (call.Open e') b e = []
  put_by h s (call.Close e') b e = []
  put_by h s (call.Register e' n) b e = []
  put_by h s (call.Strike n) b e = []
  put_by h s (call.Post e' m) b e = put_here e (Some e') (message_put (reading m))
  put_by h s call.Tick b e = due_put h e (due s.alarms)
  put_by h s (call.Send e' m) b e = put_here e (Some e') (message_put (reading m))
  put_by h s (call.Wait e') b e = []
  put_by h s (call.Check e') b e = []
  put_by h s (call.Request r n m) None e = []
  put_by h s (call.Request r n m) (Some b) e = put_here e (exchange_of s n) (request_put b (reading m))
  put_by h s (call.Respond b' status) b e =
      put_here e (reply_asked (asked h b')) (reply_put b' status (message_asked (asked h b')))
  put_by h s (call.Move b' e') b e = put_here e (Some e') (request_put b' (message_asked (asked h b')))
  put_by h s (call.Alarm e' k m) b e = []
  put_by h s (call.Cancel b') b e = []
  put_by h s (call.Priority p) b e = []
  put_by h s call.End b e = []
  put_by h s call.Tray b e = []

  abbrev pub puts : History M → Step M → ℕ → List (Item M)
  puts h st e = cond (accepted_step st) (put_by h st.before st.call (block_told st.answer) e) []

  abbrev pub put_at : History M → ℕ → List (Item M)
  put_at [] e = []
  put_at (st ∷ h) e = cond (opens st e) [] (put_at h e ++ puts h st e)
