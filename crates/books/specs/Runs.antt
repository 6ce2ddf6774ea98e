-- A run of a station: the steps made since it was opened, the newest first. Nothing of it is a log: each step is what can be seen from
-- outside, the call with its answer, and the station with both tables before and after. Assumes nothing.
--   Step           one call made
--   Lawful         answer and state after are those of the rules, and a number that was needed was free
--   Opening        what a station is opened with
--   now_of o h     the state after the steps h
--   Run o h        each step is lawful and begins where the one before it ended, so that only the station's calls write its tables
use Rattle.std.specs.Prelude.{◌≡◌, ℕ, true, List, [], ◌∷◌, Option}
use Rattle.plain.specs.Calls.{Call}
use Rattle.plain.specs.Openings.{fits, opened}
use Rattle.plain.specs.Outcomes.{Draws, outcome}
use Rattle.plain.specs.States.{State}
use Rattle.plain.specs.declared.answer.Answer.{Answer}
use Rattle.plain.specs.declared.records.Sizes.{Sizes}

pub record Step (M : Type 0) : Type 0 where
  pub before : State M
  pub call : Call
  -- the number that the pool hands out, where the call takes a block
  pub drawn : ℕ
  pub answer : Answer M
  pub after : State M

pub record Opening (M : Type 0) : Type 0 where
  pub sizes : Sizes
  pub messages : List M
  pub trays : List M
  -- every draft is within its limits
  pub fitting : fits sizes ≡ true

abbrev pub History : Type 0 → Type 0
History M = List (Step M)

abbrev pub now_of : {M : Type 0} → Opening M → History M → State M
now_of o [] = opened o.sizes o.messages o.trays
now_of o (st ∷ h) = st.after

module _ {M : Type 0} (reading : List ℕ → Option M) where
  pub record Lawful (st : Step M) : Type 0 where
    pub answered : st.answer ≡ (outcome reading st.before st.call st.drawn).answer
    pub moved : st.after ≡ (outcome reading st.before st.call st.drawn).after
    pub drew : Draws reading st.before st.call st.drawn

  abbrev pub Run : Opening M → History M → Type 0
  Run o [] = Unit {0}
  Run o (st ∷ h) = Run o h × (st.before ≡ now_of o h) × Lawful st
