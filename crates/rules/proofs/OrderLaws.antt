-- Those that wait at an exchange leave in the order of joining. Assumes nothing.
use Rattle.std.proofs.Common.{◌≡◌, ℕ, zero, suc, ◌+◌, ◌<◌, ◌≤◌, ◌⊎◌, List, [], ◌∷◌, length, get_or, drop, set, Some, None, Option, sym, refl, ap, ◌∙◌, subst, inl, inr, ⊎_elim, arith}
use Rattle.std.proofs.lemmas.List.{drop_all, drop-drop, get_or-set_other, get_or-set_same, set_past}
use Rattle.std.proofs.lemmas.Bool.{cases_eq, cases_lt}
use Rattle.calls.specs.declared.refusal.Refusal.{Refusal}
use Rattle.plain.specs.Calls.{Call}
use Rattle.plain.specs.Calls as call
use Rattle.plain.specs.Effects.{alarm, check, due, effect, post_read, put_due, request, respond, still_running, wait, waits}
use Rattle.plain.specs.Lookups.{block_at, closed_exchange, exchange_at, exchange_of, first_item, first_waiting, reply_to, tasks_in, waiting}
use Rattle.plain.specs.Moves.{behind_first, joins, out_of_hand, post_to, put, put_to, with_item, with_waiting, without_first}
use Rattle.plain.specs.Outcomes.{outcome_by}
use Rattle.plain.specs.Reasons.{caller, refusal_of}
use Rattle.plain.specs.States.{Exchange, State, with_alarms}
use Rattle.plain.specs.declared.records.AlarmRecord.{AlarmRecord}
use Rattle.plain.specs.declared.records.Holds.{Holds}
use Rattle.plain.specs.declared.records.Holds.TheVariants.{Items, Tasks}
use Rattle.rules.specs.Framing.{FrontLeaves, ServedInOrder}
use Rattle.rules.proofs.FrameLaws.{kept_exchanges}

stays : (l : List ℕ) → FrontLeaves l l
stays l = (0, refl)

empties : (l : List ℕ) → FrontLeaves l []
empties l = (length l, sym (drop_all (length l) l (omega arith)))

first_goes : (k : Holds) (l : List ℕ) → FrontLeaves (tasks_in k l) (tasks_in k (behind_first l))
first_goes Items l = (0, refl)
first_goes Tasks [] = (0, refl)
first_goes Tasks (n ∷ ns) = (1, refl)

in_turn : (a b c : List ℕ) → FrontLeaves a b → FrontLeaves b c → FrontLeaves a c
in_turn a b c (j, e) (k, f) = (j + k, f ∙ ap (drop k) e ∙ drop-drop k j a)

-- one exchange is changed so
set_leaves : (xs : List Exchange) (e e' : ℕ) (x : Exchange) → FrontLeaves (waiting (get_or xs e closed_exchange)) (waiting x)
    → FrontLeaves (waiting (get_or xs e' closed_exchange)) (waiting (get_or (set xs e x) e' closed_exchange))
set_leaves [] e e' x f = stays []
set_leaves (y ∷ ys) zero zero x f = f
set_leaves (y ∷ ys) zero (suc e') x f = stays _
set_leaves (y ∷ ys) (suc e) zero x f = stays _
set_leaves (y ∷ ys) (suc e) (suc e') x f = set_leaves ys e e' x f

module _ {M : Type 0} where
  -- what became of those who waited at e
  abbrev Leaves : State M → State M → ℕ → Type 0
  Leaves s u e = FrontLeaves (waiting (exchange_at s e)) (waiting (exchange_at u e))

  first_leaves_front : (s : State M) (e e' : ℕ)
      → FrontLeaves (waiting (exchange_at s e')) (waiting (get_or (set s.exchanges e (without_first (exchange_at s e))) e' closed_exchange))
  first_leaves_front s e e' =
      set_leaves s.exchanges e e' (without_first (exchange_at s e)) (first_goes (exchange_at s e).holds (exchange_at s e).line)

  queued_front : (s : State M) (e b e' : ℕ)
      → FrontLeaves (waiting (exchange_at s e')) (waiting (get_or (set s.exchanges e (with_item b (exchange_at s e))) e' closed_exchange))
  queued_front s e b e' = set_leaves s.exchanges e e' (with_item b (exchange_at s e)) (empties (waiting (exchange_at s e)))

  -- where only the exchanges count
  by_exchanges : (s : State M) (e : ℕ) (xs ys : List Exchange) → ys ≡ xs
      → FrontLeaves (waiting (exchange_at s e)) (waiting (get_or xs e closed_exchange))
      → FrontLeaves (waiting (exchange_at s e)) (waiting (get_or ys e closed_exchange))
  by_exchanges s e xs ys same f =
      let P : List Exchange → Type 0 = λ zs. FrontLeaves (waiting (exchange_at s e)) (waiting (get_or zs e closed_exchange)) in
      subst P (sym same) f

  put_front : (s : State M) (e b e' : ℕ) → Leaves s (put e b s) e'
  put_front s e b e' = go (first_waiting s e)
    where
      go : (o : Option ℕ) → Leaves s (put_to o e b s) e'
      go None = queued_front s e b e'
      go (Some t) = by_exchanges s e' _ _ (kept_exchanges t b (block_at s b).carries _) (first_leaves_front s e e')

  put_due_front : (as' : List AlarmRecord) (s : State M) (e : ℕ) → Leaves s (put_due as' s) e
  put_due_front [] s e = stays _
  put_due_front (a ∷ as') s e =
      in_turn _ (waiting (exchange_at (put a.exchange a.block s) e)) _ (put_front s a.exchange a.block e)
      (put_due_front as' (put a.exchange a.block s) e)

  post_front : (s : State M) (e n : ℕ) (m : Option M) (e' : ℕ) → Leaves s (post_read e m n s) e'
  post_front s e n None e' = stays _
  post_front s e n (Some m) e' = go (first_waiting s e)
    where
      go : (o : Option ℕ) → Leaves s (post_to o e m n s) e'
      go None = queued_front s e n e'
      go (Some t) = first_leaves_front s e e'

  request_front : (s : State M) (r n : ℕ) (o : Option ℕ) (m : Option M) (e : ℕ) → Leaves s (request r o m n s) e
  request_front s r n None m e = stays _
  request_front s r n (Some e') None e = stays _
  request_front s r n (Some e') (Some m) e = put_front _ e' n e

  respond_front : (s : State M) (b status : ℕ) (o : Option ℕ) (e : ℕ) → Leaves s (respond o b status s) e
  respond_front s b status None e = stays _
  respond_front s b status (Some r) e = put_front _ r b e

  alarm_front : (s : State M) (e k n : ℕ) (m : Option M) (e' : ℕ) → Leaves s (alarm e k m n s) e'
  alarm_front s e k n None e' = stays _
  alarm_front s e k n (Some m) e' = stays _

  takes_front : (s : State M) (e b e' : ℕ) → Leaves s (wait (Some b) e s).after e'
  takes_front s e b e' =
      by_exchanges s e' _ _ (kept_exchanges (caller s) b (block_at s b).carries _) (first_leaves_front s e e')

  -- a waiting caller joins behind the others at its exchange
  waits_front : (s : State M) (e e' : ℕ)
      → Leaves s (waits (caller s) e s) e'
      ⊎ ((call.Wait e ≡ call.Wait e') × (waiting (exchange_at (waits (caller s) e s) e') ≡ joins (caller s) (waiting (exchange_at s e'))))
  waits_front s e e' = ⊎_elim here (λ (other : e' ≡ e → ⊥). inl (0, ap waiting (get_or-set_other s.exchanges e e' _ closed_exchange other))) (cases_eq e' e)
    where
      x : Exchange
      x = with_waiting (caller s) (exchange_at s e)

      Goal : ℕ → Type 0
      Goal k =
          FrontLeaves (waiting (exchange_at s k)) (waiting (get_or (set s.exchanges e x) k closed_exchange))
          ⊎ ((call.Wait e ≡ call.Wait k) × (waiting (get_or (set s.exchanges e x) k closed_exchange) ≡ joins (caller s) (waiting (exchange_at s k))))

      at_e : Goal e
      at_e = ⊎_elim
          (λ (p : e < length s.exchanges). inr (refl, ap waiting (get_or-set_same s.exchanges e x closed_exchange p)))
          (λ (p : length s.exchanges ≤ e). inl (0, ap (λ xs. waiting (get_or xs e closed_exchange)) (set_past s.exchanges e x p)))
          (cases_lt e (length s.exchanges))

      here : e' ≡ e → Goal e'
      here q = subst Goal (sym q) at_e

  module _ (reading : List ℕ → Option M) where
    -- one call
    abbrev After : State M → Call → State M → ℕ → Type 0
    After s c u e =
        Leaves s u e ⊎ ((c ≡ call.Wait e) × (waiting (exchange_at u e) ≡ joins (caller s) (waiting (exchange_at s e))))

    wait_after : (s : State M) (e e' : ℕ) (o : Option ℕ) → After s (call.Wait e) (wait o e s).after e'
    wait_after s e e' None = waits_front s e e'
    wait_after s e e' (Some b) = inl (takes_front s e b e')

    check_after : (s : State M) (e e' : ℕ) (o : Option ℕ) → Leaves s (check o e s).after e'
    check_after s e e' None = stays _
    check_after s e e' (Some b) = takes_front s e b e'

    effect_after : (s : State M) (c : Call) (n e : ℕ) → After s c (effect reading s c n).after e
    effect_after s (call.Start t p) n e = inl (stays _)
    effect_after s (call.Open e') n e = inl (set_leaves s.exchanges e' e _ (empties (waiting (exchange_at s e'))))
    effect_after s (call.Close e') n e = inl (set_leaves s.exchanges e' e _ (stays (waiting (exchange_at s e'))))
    effect_after s (call.Register e' name) n e = inl (stays _)
    effect_after s (call.Strike name) n e = inl (stays _)
    effect_after s (call.Post e' m) n e = inl (post_front s e' n (reading m) e)
    effect_after s call.Tick n e = inl (put_due_front (due s.alarms) (with_alarms (still_running s.alarms) s) e)
    effect_after s (call.Send e' m) n e = inl (post_front s e' n (reading m) e)
    effect_after s (call.Wait e') n e = wait_after s e' e (first_item s e')
    effect_after s (call.Check e') n e = inl (check_after s e' e (first_item s e'))
    effect_after s (call.Request r name m) n e = inl (request_front s r n (exchange_of s name) (reading m) e)
    effect_after s (call.Respond b status) n e = inl (respond_front s b status (reply_to s b) e)
    effect_after s (call.Move b e') n e = inl (put_front (out_of_hand b (block_at s b).carries s) e' b e)
    effect_after s (call.Alarm e' k m) n e = inl (alarm_front s e' k n (reading m) e)
    effect_after s (call.Cancel b) n e = inl (stays _)
    effect_after s (call.Priority p) n e = inl (stays _)
    effect_after s call.End n e = inl (stays _)
    effect_after s call.Tray n e = inl (stays _)

    pub served_in_order : ServedInOrder reading
    served_in_order s c n e = go (refusal_of reading s c)
      where
        go : (o : Option Refusal) → After s c (outcome_by reading o s c n).after e
        go (Some r) = inl (stays _)
        go None = effect_after s c n e
