-- Examples of docs/RULES.md that pin what the law of the books leaves open: which task runs, and the order of what comes due. Of every
-- message of every kind. Assumes nothing.
use Rattle.std.specs.Prelude.{◌≡◌, ℕ, zero, suc, List, [], ◌∷◌, Some, Option, refl}
use Rattle.calls.specs.Calls.{zeros}
use Rattle.ready.specs.Order.{pair}
use Rattle.plain.specs.Calls.{Call}
use Rattle.plain.specs.Calls as call
use Rattle.plain.specs.Lookups.{exchange_at, items, waiting}
use Rattle.plain.specs.Openings.{closing}
use Rattle.plain.specs.States.{State}
use Rattle.books.specs.Runs.{now_of}
use Rattle.worked.specs.Edges.{billing, usual}
use Rattle.worked.specs.Plays.{numbers, plays, row, rows, station}
use Rattle.worked.specs.Reached.{name_of}

-- alarms of 5, 2 and 2 ticks; the first is cancelled after a Tick, and its block used again for an alarm of 1 tick
abbrev pub alarms_in_order : List ℕ → List Call
alarms_in_order m =
    call.Open 0 ∷ call.Start 4 9 ∷ call.Alarm 0 5 m ∷ call.Alarm 0 2 m ∷ call.Alarm 0 2 m ∷ call.Tick ∷ call.Cancel 0
    ∷ call.Alarm 0 1 m ∷ call.Tick ∷ call.Cancel 1 ∷ []

-- an alarm of 4 ticks, and this many Ticks
abbrev pub ticks : ℕ → List Call
ticks zero = []
ticks (suc k) = call.Tick ∷ ticks k

abbrev pub four_ticks : ℕ → List ℕ → List Call
four_ticks k m = call.Open 0 ∷ call.Start 4 9 ∷ call.Alarm 0 4 m ∷ ticks k

abbrev pub woken_at_tick : List ℕ → List Call
woken_at_tick m = call.Open 0 ∷ call.Start 3 9 ∷ call.Alarm 0 1 m ∷ call.Wait 0 ∷ call.Start 4 9 ∷ call.Tick ∷ []

abbrev pub priorities : ℕ → List Call
priorities p = call.Start 4 9 ∷ call.Start 1 9 ∷ call.Priority p ∷ []

abbrev pub keeps_its_block : List ℕ → List Call
keeps_its_block m =
    call.Open 0 ∷ call.Open 1 ∷ call.Register 0 billing ∷ call.Start 4 9 ∷ call.Request 1 billing m ∷ call.Send 0 m ∷ call.Check 0
    ∷ call.Send 0 m ∷ call.End ∷ call.Close 1 ∷ call.Respond 0 7 ∷ call.Send 0 m ∷ call.Check 1 ∷ call.Send 0 m ∷ []

abbrev pub moved_to_the_end : List ℕ → List Call
moved_to_the_end m =
    call.Open 0 ∷ call.Open 1 ∷ call.Register 0 billing ∷ call.Start 4 9 ∷ call.Request 1 billing m ∷ call.Request 1 billing m
    ∷ call.Check 0 ∷ call.Move 0 0 ∷ []

abbrev pub two_wait : List ℕ → List Call
two_wait m = call.Open 0 ∷ call.Start 3 9 ∷ call.Wait 0 ∷ call.Start 4 1 ∷ call.Wait 0 ∷ call.Post 0 m ∷ []

abbrev pub nobody_runs : List ℕ → List Call
nobody_runs m = call.Open 0 ∷ call.Start 4 9 ∷ call.Wait 0 ∷ call.Tray ∷ call.Priority 40 ∷ call.Tick ∷ call.Post 0 m ∷ []

-- BILLING leads to 0 and A to 1; then BILLING is struck
abbrev pub two_names : List ℕ → List Call
two_names m =
    call.Open 0 ∷ call.Open 1 ∷ call.Open 2 ∷ call.Register 0 billing ∷ call.Register 1 (name_of 65) ∷ call.Start 4 9
    ∷ call.Request 2 (name_of 65) m ∷ call.Strike billing ∷ call.Request 2 billing m ∷ call.Request 2 (name_of 65) m ∷ []

-- a name that is registered, once more at its own exchange and at another
abbrev pub registered_again : List Call
registered_again =
    call.Open 0 ∷ call.Open 1 ∷ call.Register 0 billing ∷ call.Register 0 billing ∷ call.Register 1 billing ∷ []

abbrev pub looks_again : List ℕ → List Call
looks_again m =
    call.Open 0 ∷ call.Start 4 9 ∷ call.Post 0 m ∷ call.Check 0 ∷ call.Priority 5 ∷ call.Tray ∷ call.End ∷ call.Start 4 9 ∷ call.Tray ∷ []

-- two tasks live, a message waits, an alarm runs, a request is in hand
abbrev pub some_of_each : List ℕ → List Call
some_of_each m =
    call.Open 0 ∷ call.Open 1 ∷ call.Register 0 billing ∷ call.Start 4 9 ∷ call.Start 1 9 ∷ call.Request 1 billing m ∷ call.Check 0
    ∷ call.Alarm 1 5 m ∷ call.Post 1 m ∷ []

-- task 31 is worse than 0
abbrev pub best_is_zero : List Call
best_is_zero = call.Start 4 31 ∷ call.Start 1 0 ∷ []

module _ {M : Type 0} (form : M → List ℕ) (reading : List ℕ → Option M) where
  abbrev pub end_of : M → List Call → State M
  end_of filler cs = now_of (usual form reading filler) (plays reading (usual form reading filler) cs)

  pub record Examples (m filler : M) : Type 0 where
    -- due alarms come in the order in which they were set, each at its own Tick, and are then no longer alarms
    pub alarm_numbers : numbers (plays reading (usual form reading filler) (alarms_in_order (form m))) ≡ 0 ∷ 0 ∷ 0 ∷ 0 ∷ 0 ∷ 0 ∷ 0 ∷ 0 ∷ 0 ∷ 18 ∷ []
    pub alarm_order : items (exchange_at (end_of filler (alarms_in_order (form m))) 0) ≡ 1 ∷ 2 ∷ 0 ∷ []
    -- an alarm of 4 ticks is due at the fourth Tick, and not before
    pub not_yet_due : items (exchange_at (end_of filler (four_ticks 3 (form m))) 0) ≡ []
    pub due_at_last : items (exchange_at (end_of filler (four_ticks 4 (form m))) 0) ≡ 0 ∷ []
    -- a task that an alarm wakes counts in the same Tick, and the one that ran stands behind it
    pub woken_runs : (end_of filler (woken_at_tick (form m))).running ≡ Some (pair 3 9)
    pub woken_before : (end_of filler (woken_at_tick (form m))).ready ≡ pair 4 9 ∷ []
    -- Priority 9 leaves task 4 running, Priority 10 lets task 1 run
    pub same_priority : (end_of filler (priorities 9)).running ≡ Some (pair 4 9)
    pub worse_priority : (end_of filler (priorities 10)).running ≡ Some (pair 1 9)
    -- a request keeps its block until its reply is taken: 16, 16, 19, 14 and 16, then accepted
    pub block_kept : numbers (plays reading (station 8 8 1 refl filler) (keeps_its_block (form m)))
        ≡ 0 ∷ 0 ∷ 0 ∷ 0 ∷ 0 ∷ 16 ∷ 0 ∷ 16 ∷ 19 ∷ 14 ∷ 0 ∷ 16 ∷ 0 ∷ 0 ∷ []
    -- a moved request goes to the end
    pub moved_last : items (exchange_at (end_of filler (moved_to_the_end (form m))) 0) ≡ 1 ∷ 0 ∷ []
    -- waiting tasks leave in the order of joining: task 3 takes it, though task 4 is better
    pub first_served : waiting (exchange_at (end_of filler (two_wait (form m))) 0) ≡ 4 ∷ []
    -- nobody runs: Tray and Priority 40 give 9, and a Post wakes task 4
    pub nobody : numbers (plays reading (usual form reading filler) (nobody_runs (form m))) ≡ 0 ∷ 0 ∷ 0 ∷ 9 ∷ 9 ∷ 0 ∷ 0 ∷ []
    pub woken : (end_of filler (nobody_runs (form m))).running ≡ Some (pair 4 9)
    -- the four counts that closing leaves
    pub counts : closing (end_of filler (some_of_each (form m)))
        ≡ record { live_tasks = 2; items_waiting = 1; alarms_running = 1; requests_in_hand = 1 }
    -- 0 is the best
    pub zero_runs : (end_of filler best_is_zero).running ≡ Some (pair 1 0)
    -- with two names, a Request goes where its own name is tied; a struck name is gone, and the other stays
    pub named_apart : numbers (plays reading (usual form reading filler) (two_names (form m))) ≡ 0 ∷ 0 ∷ 0 ∷ 0 ∷ 0 ∷ 0 ∷ 0 ∷ 0 ∷ 13 ∷ 0 ∷ []
    pub second_named : items (exchange_at (end_of filler (two_names (form m))) 1) ≡ 0 ∷ 1 ∷ []
    -- a name that is registered is not registered again, at any exchange
    pub registered_once : numbers (plays reading (usual form reading filler) registered_again) ≡ 0 ∷ 0 ∷ 0 ∷ 11 ∷ 11 ∷ []
    -- a tray shows what its own task took, Priority leaves it, and Start empties it
    pub own_tray : rows form (plays reading (usual form reading filler) (looks_again (form m)))
        ≡ row 0 255 65535 0 0 zeros ∷ row 0 4 65535 0 0 zeros ∷ row 0 4 65535 0 0 zeros ∷ row 0 4 65535 1 0 zeros ∷ row 0 4 65535 0 0 zeros
        ∷ row 0 4 65535 1 0 (form m) ∷ row 0 255 65535 0 0 zeros ∷ row 0 4 65535 0 0 zeros ∷ row 0 4 65535 0 0 zeros ∷ []
