-- Every interleaving of calls at several stations makes a system run. Assumes nothing.
--   CallAt             a call made at one station of either kind
--   world_of o cs      the states after the calls cs, the newest first, where each pool hands out its lowest free number
--   events_of o cs     the steps that they make
--   Interleaves        these are a system run
use Rattle.std.specs.Prelude.{ℕ, cond, List, [], ◌∷◌, Option, ◌==◌}
use Rattle.plain.specs.Calls.{Call}
use Rattle.plain.specs.States.{State}
use Rattle.books.specs.Making.{step_of}
use Rattle.books.specs.Runs.{now_of}
use Rattle.books.specs.Systems.{Event, First, Openings, Second, SystemRun, World}

pub data CallAt : Type 0 where
  FirstAt : (station : ℕ) (call : Call) → CallAt
  SecondAt : (station : ℕ) (call : Call) → CallAt

-- one of the states replaced
abbrev pub replaced : {M : Type 0} → ℕ → State M → (ℕ → State M) → ℕ → State M
replaced i s f j = cond (j == i) s (f j)

module _ {A B : Type 0} (ra : List ℕ → Option A) (rb : List ℕ → Option B) where
  abbrev pub world_of : Openings A B → List CallAt → World A B
  world_of o [] = record { first = λ i. now_of (o.first i) []; second = λ i. now_of (o.second i) [] }
  world_of o (FirstAt i c ∷ cs) =
      record { first = replaced i (step_of ra ((world_of o cs).first i) c).after (world_of o cs).first; second = (world_of o cs).second }
  world_of o (SecondAt i c ∷ cs) =
      record { first = (world_of o cs).first; second = replaced i (step_of rb ((world_of o cs).second i) c).after (world_of o cs).second }

  abbrev pub events_of : Openings A B → List CallAt → List (Event A B)
  events_of o [] = []
  events_of o (FirstAt i c ∷ cs) = First i (step_of ra ((world_of o cs).first i) c) ∷ events_of o cs
  events_of o (SecondAt i c ∷ cs) = Second i (step_of rb ((world_of o cs).second i) c) ∷ events_of o cs

  abbrev pub Interleaves : Type 0
  Interleaves = (o : Openings A B) (cs : List CallAt) → SystemRun ra rb o (events_of o cs) (world_of o cs)
