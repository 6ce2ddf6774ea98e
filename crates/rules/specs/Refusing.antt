-- What is promised of refusals, of every call on every state. Assumes nothing.
--   Least            the refusal given is the least whose reason holds, and none is given exactly where none holds
--   Unchanged        a refused call answers its refusal and changes nothing
--   BlockNeeded      16 is given only where a block is needed and none is free; where one is needed and none is free the call is
--                    refused; and an accepted call that needs a block finds one
use Rattle.std.specs.Prelude.{◌≡◌, ℕ, ◌≤◌, Bool, true, false, List, is_some, Some, None, Option}
use Rattle.calls.specs.Refusals.{refusal_number}
use Rattle.calls.specs.declared.refusal.Refusal.{Refusal}
use Rattle.calls.specs.declared.refusal.Refusal.TheVariants as refusal
use Rattle.pool.specs.Marks.{marked}
use Rattle.plain.specs.Calls.{Call}
use Rattle.plain.specs.Outcomes.{outcome}
use Rattle.plain.specs.Reasons.{holds, needs_block, refusal_of}
use Rattle.plain.specs.States.{State}
use Rattle.plain.specs.declared.answer.Answer.TheVariants as answer

abbrev pub LeastOf : (Refusal → Bool) → Option Refusal → Type 0
LeastOf p None = (r : Refusal) → p r ≡ false
LeastOf p (Some r) = (p r ≡ true) × ((q : Refusal) → p q ≡ true → refusal_number r ≤ refusal_number q)

abbrev pub NoneFree : {M : Type 0} → State M → Type 0
NoneFree s = (n : ℕ) → marked s.free n ≡ false

module _ {M : Type 0} (reading : List ℕ → Option M) where
  abbrev pub Least : Type 0
  Least = (s : State M) (c : Call) → LeastOf (holds reading s c) (refusal_of reading s c)

  abbrev pub Unchanged : Type 0
  Unchanged =
      (s : State M) (c : Call) (n : ℕ) (r : Refusal) → refusal_of reading s c ≡ Some r
      → outcome reading s c n ≡ record { answer = answer.Refused r; after = s }

  pub record BlockNeeded (s : State M) (c : Call) : Type 0 where
    pub sixteen : refusal_of reading s c ≡ Some refusal.NoFreeBlock → (needs_block s c ≡ true) × NoneFree s
    pub refused : needs_block s c ≡ true → NoneFree s → is_some (refusal_of reading s c) ≡ true
    pub found : refusal_of reading s c ≡ None → needs_block s c ≡ true → (n : ℕ) × (marked s.free n ≡ true)

  abbrev pub BlocksNeeded : Type 0
  BlocksNeeded = (s : State M) (c : Call) → BlockNeeded s c
