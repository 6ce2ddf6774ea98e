-- The worked edges, as one list, for every kind of message; and the run that docs/FORMATS.md prints for docks. Assumes nothing.
use Rattle.std.specs.Prelude.{◌≡◌, ℕ, List, [], ◌∷◌, Some, None, Option, refl}
use Rattle.messages.specs.Docks.{dock_form, dock_reading}
use Rattle.messages.specs.declared.dock.DockMessage.{DockMessage}
use Rattle.calls.specs.Calls.{zeros}
use Rattle.calls.specs.declared.refusal.Refusal.TheVariants as refusal
use Rattle.batches.specs.Edges.{BatchEdges, DockEdges, at_501, bill_ing}
use Rattle.ready.specs.Order.{pair}
use Rattle.plain.specs.Calls.{Call}
use Rattle.plain.specs.Calls as call
use Rattle.plain.specs.Openings.{fresh, sized, with_block_count, with_exchange_count, with_task_count}
use Rattle.plain.specs.declared.records.Sizes.{Sizes}
use Rattle.books.specs.Runs.{Opening, now_of}
use Rattle.worked.specs.Plays.{numbers, plays, row, rows, station}

-- "BILLING "
abbrev pub billing : List ℕ
billing = 66 ∷ 73 ∷ 76 ∷ 76 ∷ 73 ∷ 78 ∷ 71 ∷ 32 ∷ []

-- ---- the calls of the edges, over the bytes of a message

-- task 4 runs at 9, task 1 joins at 9
abbrev pub equal_tasks : List Call
equal_tasks = call.Start 4 9 ∷ call.Start 1 9 ∷ []

abbrev pub better_task : List Call
better_task = call.Start 4 9 ∷ call.Start 1 9 ∷ call.Start 2 8 ∷ []

abbrev pub equal_then_tick : List Call
equal_then_tick = call.Start 4 9 ∷ call.Start 1 9 ∷ call.Tick ∷ []

-- with 1 block: task 3 waits at 1, task 4 runs
abbrev pub no_block_left : List ℕ → List Call
no_block_left m =
    call.Open 0 ∷ call.Open 1 ∷ call.Start 3 5 ∷ call.Wait 1 ∷ call.Start 4 9 ∷ call.Send 0 m ∷ call.Send 0 m ∷ call.Send 1 m ∷ []

abbrev pub request_and_reply : List ℕ → List Call
request_and_reply m =
    call.Open 0 ∷ call.Open 1 ∷ call.Register 0 billing ∷ call.Start 4 9 ∷ call.Request 1 billing m ∷ call.Check 0
    ∷ call.Respond 0 7 ∷ call.Respond 0 7 ∷ call.Check 1 ∷ call.Tray ∷ []

-- of one message m of a kind, whose bytes are its form, and one that fills the tables
module _ {M : Type 0} (form : M → List ℕ) (reading : List ℕ → Option M) where
  abbrev pub usual : M → Opening M
  usual m = station 8 8 16 refl m

  pub record Edges (m filler : M) : Type 0 where
    -- 64, 64, 256 make a draft; 65 tasks give 1, and the draft stays
    pub largest_draft : with_block_count 256 (with_exchange_count 64 (with_task_count 64 fresh).1).1 ≡ (None, sized 64 64 256)
    pub too_many_tasks : (d : Sizes) → with_task_count 65 d ≡ (Some refusal.DraftSize, d)
    -- the batch that makes no call, three bytes, the name with a blank inside; dock 500 and 501
    pub batches : BatchEdges reading
    pub docks : DockEdges
    -- the same of single calls: a name with a blank inside gives 7, dock 501 gives 8
    pub blank_inside : numbers (plays reading (usual filler) (call.Open 0 ∷ call.Register 0 bill_ing ∷ [])) ≡ 0 ∷ 7 ∷ []
    pub dock_501 : (d : DockMessage) → numbers (plays dock_reading (station 8 8 16 refl d) (call.Open 0 ∷ call.Post 0 at_501 ∷ [])) ≡ 0 ∷ 8 ∷ []
    -- Start 1 at 9: 4 still runs. Start 2 at 8: 2 runs, then 1 stands before 4
    pub equal_stays : (now_of (usual filler) (plays reading (usual filler) equal_tasks)).running ≡ Some (pair 4 9)
    pub better_runs : (now_of (usual filler) (plays reading (usual filler) better_task)).running ≡ Some (pair 2 8)
    pub one_before_four : (now_of (usual filler) (plays reading (usual filler) better_task)).ready ≡ pair 1 9 ∷ pair 4 9 ∷ []
    -- task 4 runs at 9 and 1 is ready at 9: after Tick 1 runs
    pub tick_gives_turn : (now_of (usual filler) (plays reading (usual filler) equal_then_tick)).running ≡ Some (pair 1 9)
    -- with no free block a Send gives 16, but to an exchange with a waiting task it is accepted
    pub sixteen : numbers (plays reading (station 8 8 1 refl filler) (no_block_left (form m))) ≡ 0 ∷ 0 ∷ 0 ∷ 0 ∷ 0 ∷ 0 ∷ 16 ∷ 0 ∷ []
    -- Respond with 7 gives kind 3, the request's number and status 7; a second Respond gives 18
    pub reply : rows form (plays reading (usual filler) (request_and_reply (form m)))
        ≡ row 0 255 65535 0 0 zeros ∷ row 0 255 65535 0 0 zeros ∷ row 0 255 65535 0 0 zeros ∷ row 0 4 65535 0 0 zeros
        ∷ row 0 4 0 0 0 zeros ∷ row 0 4 65535 2 0 zeros ∷ row 0 4 65535 0 0 zeros ∷ row 18 4 65535 0 0 zeros
        ∷ row 0 4 65535 3 0 zeros ∷ row 0 4 0 3 7 (form m) ∷ []

-- ---- the run printed for docks

-- bicycle 300 is returned at dock 7
abbrev pub returned : List ℕ
returned = 2 ∷ 0 ∷ 7 ∷ 0 ∷ 44 ∷ 1 ∷ 0 ∷ 0 ∷ []

abbrev pub printed_calls : List Call
printed_calls = call.Open 2 ∷ call.Start 5 10 ∷ call.Wait 2 ∷ call.Post 2 returned ∷ call.Tray ∷ call.Check 2 ∷ []

-- whatever dock message fills the tables
abbrev pub PrintedRun : Type 0
PrintedRun =
    (d : DockMessage) → rows dock_form (plays dock_reading (station 8 8 16 refl d) printed_calls)
    ≡ row 0 255 65535 0 0 zeros ∷ row 0 5 65535 0 0 zeros ∷ row 0 255 65535 0 0 zeros ∷ row 0 5 65535 0 0 zeros
    ∷ row 0 5 65535 1 0 returned ∷ row 17 5 65535 0 0 zeros ∷ []
