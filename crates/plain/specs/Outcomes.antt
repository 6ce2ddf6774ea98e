-- The outcome of a call: refused with nothing changed, or its effect, and then settled. Assumes nothing.
--   accepted s c      no reason holds against the call
--   outcome s c n     the answer and the state after, where n is the number that the pool hands out
--   Draws s c n       where the call is accepted and needs a block, n was free
use Rattle.std.specs.Prelude.{◌≡◌, ℕ, Bool, true, not, List, is_some, Some, None, Option}
use Rattle.calls.specs.declared.refusal.Refusal.{Refusal}
use Rattle.pool.specs.Marks.{marked}
use Rattle.plain.specs.Calls.{Call}
use Rattle.plain.specs.Effects.{Outcome, effect}
use Rattle.plain.specs.Moves.{settles}
use Rattle.plain.specs.Reasons.{needs_block, refusal_of}
use Rattle.plain.specs.States.{State}
use Rattle.plain.specs.declared.answer.Answer.TheVariants as answer

module _ {M : Type 0} (reading : List ℕ → Option M) where
  abbrev pub accepted : State M → Call → Bool
  accepted s c = not (is_some (refusal_of reading s c))

  abbrev pub outcome_by : Option Refusal → State M → Call → ℕ → Outcome M
  outcome_by (Some r) s c n = record { answer = answer.Refused r; after = s }
  outcome_by None s c n =
      record { answer = (effect reading s c n).answer; after = settles (effect reading s c n).after }

  abbrev pub outcome : State M → Call → ℕ → Outcome M
  outcome s c n = outcome_by (refusal_of reading s c) s c n

  abbrev pub Draws : State M → Call → ℕ → Type 0
  Draws s c n = refusal_of reading s c ≡ None → needs_block s c ≡ true → marked s.free n ≡ true
