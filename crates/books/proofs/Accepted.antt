-- An accepted step keeps the invariant. Assumes nothing.
use Rattle.std.proofs.Common.{◌≡◌, ℕ, true, List, ◌∷◌, None, Option}
use Rattle.pool.specs.Marks.{marked}
use Rattle.plain.specs.Calls.{Call}
use Rattle.plain.specs.Reasons.{needs_block, refusal_of}
use Rattle.plain.specs.States.{State}
use Rattle.books.specs.Runs.{History}
use Rattle.books.proofs.BlockSteps.{blocks_step}
use Rattle.books.proofs.FlowSteps.{flow_step}
use Rattle.books.proofs.Invariants.{Kept, accepted_step_of}
use Rattle.books.proofs.TaskSteps.{tasks_step}

pub accepted_kept : {M : Type 0} (reading : List ℕ → Option M) (h : History M) (s : State M) (c : Call) (n : ℕ) → Kept reading h s
    → refusal_of reading s c ≡ None → (needs_block s c ≡ true → marked s.free n ≡ true)
    → Kept reading (accepted_step_of reading s c n ∷ h) (accepted_step_of reading s c n).after
accepted_kept reading h s c n k e d =
    let a = blocks_step reading h s c n k e d in
    let b = tasks_step reading h s c n k e in
    record {
      shape = a.shape;
      blocks = a.blocks;
      opens = a.opens;
      asks = a.asks;
      given = a.given;
      tasks = b.tasks;
      held = b.held;
      best = b.best;
      flow = flow_step reading h s c n k e d;
    }
