-- Settling: which task runs after a change, and the line then. Assumes nothing.
--   outdone l x    a ready task has a smaller number than the running one
--   as_good_ready l x  a ready task is as good as the running one or better
--   gives_way l x  the running one joins the line. One that may not join, being listed or out of range, goes on running
--   dispatched l   the line and the running task after the first was taken to run
--   settled l r    the line and the running task after settling
--   may_yield l r  the running one, if any, may join the line
--   best_runs l r  none is ready, or one runs and no ready task has a smaller number
use Rattle.std.specs.Prelude.{Bool, true, false, cond, ◌&&◌, List, [], ◌∷◌, Some, None, Option, nat_le, nat_lt}
use Rattle.ready.specs.Order.{as_good, behind, first, may_join, rest}
use Rattle.ready.specs.declared.task.ReadyTask.{ReadyTask}

abbrev pub outdone : List ReadyTask → ReadyTask → Bool
outdone [] x = false
outdone (y ∷ ys) x = nat_lt y.priority x.priority

abbrev pub as_good_ready : List ReadyTask → ReadyTask → Bool
as_good_ready [] x = false
as_good_ready (y ∷ ys) x = as_good y.priority x.priority

abbrev pub gives_way : List ReadyTask → ReadyTask → Bool
gives_way l x = outdone l x && may_join x.task x.priority l

abbrev pub dispatched : List ReadyTask → List ReadyTask × Option ReadyTask
dispatched l = (rest l, first l)

abbrev pub settled : List ReadyTask → Option ReadyTask → List ReadyTask × Option ReadyTask
settled l None = dispatched l
settled l (Some x) = cond (gives_way l x) (dispatched (behind x.task x.priority l)) (l, Some x)

abbrev pub may_yield : List ReadyTask → Option ReadyTask → Bool
may_yield l None = true
may_yield l (Some x) = may_join x.task x.priority l

abbrev pub best_runs : List ReadyTask → Option ReadyTask → Bool
best_runs [] r = true
best_runs (y ∷ ys) None = false
best_runs (y ∷ ys) (Some x) = nat_le x.priority y.priority
