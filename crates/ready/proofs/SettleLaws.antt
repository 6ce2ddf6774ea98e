-- After settling the best runs. Assumes nothing.
use Rattle.std.proofs.Common.{◌≡◌, Bool, true, false, cond, not, ◌&&◌, ltb, List, [], ◌∷◌, Some, None, Option, refl, ⊎_elim}
use Rattle.std.proofs.lemmas.Bool.{and_cases, and_parts, both_ways, le-leb, ltb-false, not-true}
use Rattle.ready.specs.Order.{behind, first, listed, may_join, rest, sound}
use Rattle.ready.specs.Settling.{best_runs, dispatched, gives_way, may_yield, outdone, settled}
use Rattle.ready.specs.declared.task.ReadyTask.{ReadyTask}
use Rattle.ready.specs.LineLaws.{sound_behind, sound_parts}

first_best : (l : List ReadyTask) → sound l ≡ true → best_runs (rest l) (first l) ≡ true
first_best [] h = refl
first_best (x ∷ []) h = refl
first_best (x ∷ y ∷ ys) h = (sound_parts x (y ∷ ys) h).3

not_outdone : (l : List ReadyTask) (x : ReadyTask) → outdone l x ≡ false → best_runs l (Some x) ≡ true
not_outdone [] x h = refl
not_outdone (y ∷ ys) x h = le-leb x.priority y.priority (ltb-false y.priority x.priority h)

pub settled_best : (l : List ReadyTask) (r : Option ReadyTask) → sound l ≡ true → may_yield l r ≡ true
    → best_runs (settled l r).0 (settled l r).1 ≡ true
settled_best l None h may = first_best l h
settled_best l (Some x) h may = go (gives_way l x) refl
  where
    go : (b : Bool) → gives_way l x ≡ b
        → best_runs (cond b (dispatched (behind x.task x.priority l)) (l, Some x)).0 (cond b (dispatched (behind x.task x.priority l)) (l, Some x)).1 ≡ true
    go true e =
        let a = and_parts (ltb x.task 64) (ltb x.priority 32 && not (listed x.task l)) may in
        let b = and_parts (ltb x.priority 32) (not (listed x.task l)) a.1 in
        first_best (behind x.task x.priority l)
        (sound_behind x.task x.priority l a.0 b.0 (not-true (listed x.task l) b.1) h)
    go false e =
        not_outdone l x (⊎_elim (λ none. none) (λ no_way. absurd (both_ways (may_join x.task x.priority l) no_way may))
        (and_cases (outdone l x) (may_join x.task x.priority l) e))
