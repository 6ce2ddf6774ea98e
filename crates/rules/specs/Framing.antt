-- What a call leaves alone, of every call on every state. Assumes nothing.
--   takers s c t     the rule of the call makes task t take an item
--   named s c t      the rule of the call names the record of task t
--   Framed           task records, message places and tray places that the rule does not name stay
--   OneSide          no exchange has items and waiting tasks at once
--   ServedInOrder    those that wait at an exchange leave in the order of joining
use Rattle.std.specs.Prelude.{◌≡◌, ℕ, Bool, false, cond, ◌&&◌, ◌||◌, ◌⊎◌, List, [], ◌∷◌, drop, is_some, Some, None, Option, ◌==◌}
use Rattle.std.specs.List.{slice_get}
use Rattle.calls.specs.declared.code.CallCode.TheVariants as code
use Rattle.plain.specs.Calls.{Call, is}
use Rattle.plain.specs.Calls as call
use Rattle.plain.specs.Effects.{due}
use Rattle.plain.specs.Lookups.{contains, exchange_at, exchange_of, first_item, first_waiting, is_number, items, reply_to, task_at, waiting}
use Rattle.plain.specs.Moves.{joins}
use Rattle.plain.specs.Outcomes.{outcome}
use Rattle.plain.specs.Reasons.{caller, n1, needs_block}
use Rattle.plain.specs.States.{Exchange, State}
use Rattle.plain.specs.declared.records.AlarmRecord.{AlarmRecord}

module _ {M : Type 0} (s : State M) where
  -- the first that waits at the exchange, if there is one
  abbrev pub wakes : Option ℕ → ℕ → Bool
  wakes None t = false
  wakes (Some e) t = is_number t (first_waiting s e)

  -- one that waits at the exchange of one of these alarms
  abbrev pub wakes_at : List AlarmRecord → ℕ → Bool
  wakes_at [] t = false
  wakes_at (a ∷ as') t = contains t (waiting (exchange_at s a.exchange)) || wakes_at as' t

  abbrev pub takers : Call → ℕ → Bool
  takers (call.Start t' p) t = false
  takers (call.Open e) t = false
  takers (call.Close e) t = false
  takers (call.Register e name) t = false
  takers (call.Strike name) t = false
  takers (call.Post e m) t = wakes (Some e) t
  takers call.Tick t = wakes_at (due s.alarms) t
  takers (call.Send e m) t = wakes (Some e) t
  takers (call.Wait e) t = is_some (first_item s e) && t == caller s
  takers (call.Check e) t = is_some (first_item s e) && t == caller s
  takers (call.Request r name m) t = wakes (exchange_of s name) t
  takers (call.Respond b status) t = wakes (reply_to s b) t
  takers (call.Move b e) t = wakes (Some e) t
  takers (call.Alarm e ticks m) t = false
  takers (call.Cancel b) t = false
  takers (call.Priority p) t = false
  takers call.End t = false
  takers call.Tray t = false

  abbrev pub named : Call → ℕ → Bool
  named c t =
      cond (is code.Start c) (t == n1 c) (cond (is code.Priority c) (t == caller s) (takers c t))

module _ {M : Type 0} (reading : List ℕ → Option M) where
  pub record Frame (s : State M) (c : Call) (n : ℕ) : Type 0 where
    pub tasks : (t : ℕ) → named s c t ≡ false → task_at (outcome reading s c n).after t ≡ task_at s t
    pub trays : (t : ℕ) → takers s c t ≡ false → slice_get (outcome reading s c n).after.trays t ≡ slice_get s.trays t
    pub messages : (b : ℕ) → (needs_block s c && b == n) ≡ false → slice_get (outcome reading s c n).after.messages b ≡ slice_get s.messages b

  abbrev pub Framed : Type 0
  Framed = (s : State M) (c : Call) (n : ℕ) → Frame s c n

abbrev pub OneSide : Type 0
OneSide = (x : Exchange) → (items x ≡ []) ⊎ (waiting x ≡ [])

-- some of the first have left
abbrev pub FrontLeaves : List ℕ → List ℕ → Type 0
FrontLeaves before after = (k : ℕ) × (after ≡ drop k before)

-- those that wait at an exchange leave from the front, and one who waits there joins behind the others
abbrev pub ServedInOrder : {M : Type 0} → (List ℕ → Option M) → Type 0
ServedInOrder {M} reading =
    (s : State M) (c : Call) (n e : ℕ)
    → FrontLeaves (waiting (exchange_at s e)) (waiting (exchange_at (outcome reading s c n).after e))
    ⊎ ((c ≡ call.Wait e) × (waiting (exchange_at (outcome reading s c n).after e) ≡ joins (caller s) (waiting (exchange_at s e))))
