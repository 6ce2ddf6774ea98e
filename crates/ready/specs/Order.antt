-- The line of ready tasks, the one to run next in front. Assumes nothing.
--   as_good p q        priority p is as good as q or better; better p q, that it is better
--   pair t p           task t with priority p
--   listed t l         task t stands in the line
--   from p l           no number below p stands in front
--   sound l            numbers in range, each task once, smaller priority numbers before larger ones
--   behind t p l       the line with the pair behind all of the same or a smaller number
--   may_join t p l     the numbers are in range, and the task does not stand in the line
--   joined t p l       the line after the pair has tried to join
--   first l, rest l    the first pair, or none, and the line without it
--   priority_of x      the priority of a pair, if there is one
--   first_priority l   the first pair's priority, or none
use Rattle.std.specs.Prelude.{ℕ, Bool, true, false, cond, not, ◌&&◌, ◌||◌, List, [], ◌∷◌, Some, None, Option, ◌==◌, nat_le, nat_lt}
use Rattle.ready.specs.declared.task.ReadyTask.{ReadyTask}

-- 0 is the best
abbrev pub as_good : ℕ → ℕ → Bool
as_good p q = nat_le p q

abbrev pub better : ℕ → ℕ → Bool
better p q = not (as_good q p)

abbrev pub pair : ℕ → ℕ → ReadyTask
pair t p = record { task = t; priority = p }

abbrev pub listed : ℕ → List ReadyTask → Bool
listed t [] = false
listed t (x ∷ xs) = t == x.task || listed t xs

abbrev pub from : ℕ → List ReadyTask → Bool
from p [] = true
from p (x ∷ xs) = nat_le p x.priority

abbrev pub sound : List ReadyTask → Bool
sound [] = true
sound (x ∷ xs) = (nat_lt x.task 64 && nat_lt x.priority 32) && ((not (listed x.task xs) && from x.priority xs) && sound xs)

abbrev pub behind : ℕ → ℕ → List ReadyTask → List ReadyTask
behind t p [] = pair t p ∷ []
behind t p (x ∷ xs) = cond (nat_le x.priority p) (x ∷ behind t p xs) (pair t p ∷ x ∷ xs)

abbrev pub may_join : ℕ → ℕ → List ReadyTask → Bool
may_join t p l = nat_lt t 64 && (nat_lt p 32 && not (listed t l))

abbrev pub joined : ℕ → ℕ → List ReadyTask → List ReadyTask
joined t p l = cond (may_join t p l) (behind t p l) l

abbrev pub first : List ReadyTask → Option ReadyTask
first [] = None
first (x ∷ xs) = Some x

abbrev pub rest : List ReadyTask → List ReadyTask
rest [] = []
rest (x ∷ xs) = xs

abbrev pub priority_of : Option ReadyTask → Option ℕ
priority_of None = None
priority_of (Some x) = Some x.priority

abbrev pub first_priority : List ReadyTask → Option ℕ
first_priority l = priority_of (first l)
