-- Lines of tasks that are linked through a table. Assumes nothing.
--   walk next n t   n tasks from t on, each the next of the one before
--   pairs p ts      the tasks of one line, with its priority
--   flat p ls       the lines one behind the other, with priorities from p on
--   last_of t ts    the last task of a line that begins with t
--   ends l r        the line is empty, or r is its last task
use Rattle.std.specs.Prelude.{ℕ, zero, suc, ◌+◌, Bool, true, List, [], ◌∷◌, ◌++◌, ◌==◌, slice_index}
use Rattle.ready.specs.Order.{pair}
use Rattle.ready.specs.declared.task.ReadyTask.{ReadyTask}

abbrev pub walk : List ℕ → ℕ → ℕ → List ℕ
walk next zero t = []
walk next (suc n) t = t ∷ walk next n (slice_index next t)

abbrev pub pairs : ℕ → List ℕ → List ReadyTask
pairs p [] = []
pairs p (t ∷ ts) = pair t p ∷ pairs p ts

abbrev pub flat : ℕ → List (List ℕ) → List ReadyTask
flat p [] = []
flat p (l ∷ ls) = pairs p l ++ flat (p + 1) ls

abbrev pub last_of : ℕ → List ℕ → ℕ
last_of t [] = t
last_of t (u ∷ us) = last_of u us

abbrev pub ends : List ℕ → ℕ → Bool
ends [] r = true
ends (t ∷ ts) r = last_of t ts == r
