-- The law in its two forms: of several stations, with calls interleaved in any way, and of one call. And the bounds that no run meets.
-- Assumes nothing.
--   Event              a step made at one station; stations are of one of two kinds of message, and numbered within each
--   World              the state of each station
--   SystemRun          each event moves its own station by a lawful step and leaves the others as they are
--   first_steps, second_steps   the steps of one station of the first or the second kind, the newest first
--   AfterEveryRun      the books of a station agree after every run from its opening
--   OneCall            a run, extended by a lawful step, is a run, and its books agree
--   AtEveryStation     after every system run, the steps of each station are a run of its own that ends at its state, and its books agree
--   Roomy              what a line, the ready queue or a table could not take never comes: no run meets their bounds
use Rattle.std.specs.Prelude.{◌≡◌, ℕ, ◌<◌, true, false, cond, List, [], ◌∷◌, length, Option, ◌==◌}
use Rattle.ready.specs.Order.{listed, may_join}
use Rattle.plain.specs.Effects.{alarm_capacity}
use Rattle.plain.specs.Lookups.{exchange_at, items, occurrences, waiting}
use Rattle.plain.specs.Moves.{line_capacity}
use Rattle.plain.specs.States.{State}
use Rattle.books.specs.Deeds.{priority_given, started}
use Rattle.books.specs.Laws.{Books, OpenAt, alarm_places, block_places}
use Rattle.books.specs.Runs.{History, Lawful, Opening, Run, Step, now_of}

module _ {M : Type 0} (reading : List ℕ → Option M) where
  abbrev pub AfterEveryRun : Type 0
  AfterEveryRun = (o : Opening M) (h : History M) → Run reading o h → Books reading o h

  abbrev pub OneCall : Type 0
  OneCall =
      (o : Opening M) (h : History M) → Run reading o h → (st : Step M) → st.before ≡ now_of o h → Lawful reading st
      → Run reading o (st ∷ h) × Books reading o (st ∷ h)

  pub record Roomy (o : Opening M) (h : History M) : Type 0 where
    -- a block that does not stand in a line finds room there, and so does a task
    pub items_fit : (e b : ℕ) → b < o.sizes.blocks → occurrences b (items (exchange_at (now_of o h) e)) ≡ 0
        → length (items (exchange_at (now_of o h) e)) < line_capacity
    pub tasks_fit : (e t : ℕ) → started h t ≡ true → occurrences t (waiting (exchange_at (now_of o h) e)) ≡ 0
        → length (waiting (exchange_at (now_of o h) e)) < line_capacity
    -- a block that is no alarm's finds room among the alarms
    pub alarms_fit : (b : ℕ) → b < o.sizes.blocks → alarm_places (now_of o h) b ≡ 0 → length (now_of o h).alarms < alarm_capacity
    -- a started task that is not in the ready queue may join it with its priority
    pub may_join_ready : (t : ℕ) → started h t ≡ true → listed t (now_of o h).ready ≡ false
        → may_join t (priority_given h t) (now_of o h).ready ≡ true
    -- what is found anywhere is below its size
    pub blocks_below : (b : ℕ) → 0 < block_places (now_of o h) b → b < o.sizes.blocks
    pub tasks_below : (t : ℕ) → started h t ≡ true → t < o.sizes.tasks
    pub exchanges_below : (e : ℕ) → OpenAt (now_of o h) e → e < o.sizes.exchanges

  abbrev pub NoBoundMet : Type 0
  NoBoundMet = (o : Opening M) (h : History M) → Run reading o h → Roomy o h

-- ---- several stations

pub data Event (A B : Type 0) : Type 0 where
  First : (station : ℕ) (step : Step A) → Event A B
  Second : (station : ℕ) (step : Step B) → Event A B

pub record World (A B : Type 0) : Type 0 where
  pub first : ℕ → State A
  pub second : ℕ → State B

-- what each station was opened with
pub record Openings (A B : Type 0) : Type 0 where
  pub first : ℕ → Opening A
  pub second : ℕ → Opening B

-- all but one of these states stay
abbrev pub OthersStay : {M : Type 0} → ℕ → (ℕ → State M) → (ℕ → State M) → Type 0
OthersStay i f g = (j : ℕ) → (j == i) ≡ false → g j ≡ f j

abbrev pub AllStay : {M : Type 0} → (ℕ → State M) → (ℕ → State M) → Type 0
AllStay f g = (j : ℕ) → g j ≡ f j

-- the states of stations of one kind, where this one made this step
pub record Moves {M : Type 0} (reading : List ℕ → Option M) (i : ℕ) (st : Step M) (f g : ℕ → State M) : Type 0 where
  pub from : st.before ≡ f i
  pub to : g i ≡ st.after
  pub lawful : Lawful reading st
  pub others : OthersStay i f g

module _ {A B : Type 0} (reading_a : List ℕ → Option A) (reading_b : List ℕ → Option B) where
  abbrev pub SystemRun : Openings A B → List (Event A B) → World A B → Type 0
  SystemRun o [] w = ((i : ℕ) → w.first i ≡ now_of (o.first i) []) × ((i : ℕ) → w.second i ≡ now_of (o.second i) [])
  SystemRun o (First i st ∷ es) w =
      (v : World A B) × SystemRun o es v × Moves reading_a i st v.first w.first × AllStay v.second w.second
  SystemRun o (Second i st ∷ es) w =
      (v : World A B) × SystemRun o es v × Moves reading_b i st v.second w.second × AllStay v.first w.first

abbrev pub first_steps : {A B : Type 0} → ℕ → List (Event A B) → History A
first_steps i [] = []
first_steps i (First j st ∷ es) = cond (i == j) (st ∷ first_steps i es) (first_steps i es)
first_steps i (Second j st ∷ es) = first_steps i es

abbrev pub second_steps : {A B : Type 0} → ℕ → List (Event A B) → History B
second_steps i [] = []
second_steps i (First j st ∷ es) = second_steps i es
second_steps i (Second j st ∷ es) = cond (i == j) (st ∷ second_steps i es) (second_steps i es)

-- of one station: its steps are a run from its opening, which ends at its state, and its books agree
pub record Agrees {M : Type 0} (reading : List ℕ → Option M) (o : Opening M) (h : History M) (s : State M) : Type 0 where
  pub run : Run reading o h
  pub now : now_of o h ≡ s
  pub books : Books reading o h

abbrev pub AtEveryStation : {A B : Type 0} → (List ℕ → Option A) → (List ℕ → Option B) → Type 0
AtEveryStation {A} {B} ra rb =
    (o : Openings A B) (es : List (Event A B)) (w : World A B) → SystemRun ra rb o es w
    → ((i : ℕ) → Agrees ra (o.first i) (first_steps i es) (w.first i))
    × ((i : ℕ) → Agrees rb (o.second i) (second_steps i es) (w.second i))
