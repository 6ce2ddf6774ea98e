-- The sizes of a station stay as they were at its opening. Assumes nothing.
use Rattle.std.proofs.Common.{◌≡◌, ℕ, List, [], ◌∷◌, Some, None, Option, refl, ◌∙◌}
use Rattle.calls.specs.declared.refusal.Refusal.{Refusal}
use Rattle.plain.proofs.KeepLaws.{keeps_part}
use Rattle.plain.specs.Calls.{Call}
use Rattle.plain.specs.Calls as call
use Rattle.plain.specs.Effects.{alarm, check, due, effect, post_read, put_due, request, respond, still_running, wait}
use Rattle.plain.specs.Lookups.{block_at, exchange_of, first_item, first_waiting, reply_to}
use Rattle.plain.specs.Moves.{keeps, out_of_hand, post_to, put, put_to}
use Rattle.plain.specs.Outcomes.{outcome, outcome_by}
use Rattle.plain.specs.Reasons.{caller, refusal_of}
use Rattle.plain.specs.States.{State, with_alarms}
use Rattle.plain.specs.declared.records.AlarmRecord.{AlarmRecord}
use Rattle.plain.specs.declared.records.Carries.{Carries}

module _ {M : Type 0} where
  keeps_sizes : (t b : ℕ) (c : Carries) (s : State M) → (keeps t b c s).sizes ≡ s.sizes
  keeps_sizes t b c s = keeps_part (λ u. u.sizes) (λ f bs u. refl) t b c s

  put_sizes : (e b : ℕ) (s : State M) → (put e b s).sizes ≡ s.sizes
  put_sizes e b s = go (first_waiting s e)
    where
      go : (o : Option ℕ) → (put_to o e b s).sizes ≡ s.sizes
      go None = refl
      go (Some t) = keeps_sizes t b (block_at s b).carries _

  put_due_sizes : (as' : List AlarmRecord) (s : State M) → (put_due as' s).sizes ≡ s.sizes
  put_due_sizes [] s = refl
  put_due_sizes (a ∷ as') s = put_due_sizes as' (put a.exchange a.block s) ∙ put_sizes a.exchange a.block s

  post_sizes : (e n : ℕ) (m : Option M) (s : State M) → (post_read e m n s).sizes ≡ s.sizes
  post_sizes e n None s = refl
  post_sizes e n (Some m) s = go (first_waiting s e)
    where
      go : (o : Option ℕ) → (post_to o e m n s).sizes ≡ s.sizes
      go None = refl
      go (Some t) = refl

  request_sizes : (r n : ℕ) (o : Option ℕ) (m : Option M) (s : State M) → (request r o m n s).sizes ≡ s.sizes
  request_sizes r n None m s = refl
  request_sizes r n (Some e) None s = refl
  request_sizes r n (Some e) (Some m) s = put_sizes e n _

  respond_sizes : (b status : ℕ) (o : Option ℕ) (s : State M) → (respond o b status s).sizes ≡ s.sizes
  respond_sizes b status None s = refl
  respond_sizes b status (Some r) s = put_sizes r b _

  wait_sizes : (e : ℕ) (o : Option ℕ) (s : State M) → (wait o e s).after.sizes ≡ s.sizes
  wait_sizes e None s = refl
  wait_sizes e (Some b) s = keeps_sizes (caller s) b (block_at s b).carries _

  check_sizes : (e : ℕ) (o : Option ℕ) (s : State M) → (check o e s).after.sizes ≡ s.sizes
  check_sizes e None s = refl
  check_sizes e (Some b) s = keeps_sizes (caller s) b (block_at s b).carries _

  alarm_sizes : (e ticks n : ℕ) (m : Option M) (s : State M) → (alarm e ticks m n s).sizes ≡ s.sizes
  alarm_sizes e ticks n None s = refl
  alarm_sizes e ticks n (Some m) s = refl

  module _ (reading : List ℕ → Option M) where
    effect_sizes : (s : State M) (c : Call) (n : ℕ) → (effect reading s c n).after.sizes ≡ s.sizes
    effect_sizes s (call.Start t p) n = refl
    effect_sizes s (call.Open e) n = refl
    effect_sizes s (call.Close e) n = refl
    effect_sizes s (call.Register e name) n = refl
    effect_sizes s (call.Strike name) n = refl
    effect_sizes s (call.Post e m) n = post_sizes e n (reading m) s
    effect_sizes s call.Tick n = put_due_sizes (due s.alarms) (with_alarms (still_running s.alarms) s)
    effect_sizes s (call.Send e m) n = post_sizes e n (reading m) s
    effect_sizes s (call.Wait e) n = wait_sizes e (first_item s e) s
    effect_sizes s (call.Check e) n = check_sizes e (first_item s e) s
    effect_sizes s (call.Request r name m) n = request_sizes r n (exchange_of s name) (reading m) s
    effect_sizes s (call.Respond b status) n = respond_sizes b status (reply_to s b) s
    effect_sizes s (call.Move b e) n = put_sizes e b (out_of_hand b (block_at s b).carries s)
    effect_sizes s (call.Alarm e ticks m) n = alarm_sizes e ticks n (reading m) s
    effect_sizes s (call.Cancel b) n = refl
    effect_sizes s (call.Priority p) n = refl
    effect_sizes s call.End n = refl
    effect_sizes s call.Tray n = refl

    pub outcome_sizes : (s : State M) (c : Call) (n : ℕ) → (outcome reading s c n).after.sizes ≡ s.sizes
    outcome_sizes s c n = go (refusal_of reading s c)
      where
        go : (o : Option Refusal) → (outcome_by reading o s c n).after.sizes ≡ s.sizes
        go None = effect_sizes s c n
        go (Some r) = refl
