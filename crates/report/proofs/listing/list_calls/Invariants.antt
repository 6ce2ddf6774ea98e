use Rattle.std.proofs.Common.{◌≡◌, ◌++◌, None, vec_items}
use Rattle.std.specs.List.{AllByRecursion}
use Rattle.batches.specs.Readers.{calls_left, left}
use Rattle.calls.specs.Faults.{fault}
use Rattle.report.proofs.listing.list_calls.Given as goal

-- the records so far and those that are left are all of them, and none that is left has a fault
abbrev pub invariant-loop-call : goal.invariant-loop-call
invariant-loop-call g l =
    (goal.iterator-loop-call g).can_next l.call-iterator
    × (goal.iterator-loop-call g).is_finite l.call-iterator
    × (vec_items l.records ++ calls_left l.call-iterator ≡ left l.fn.reader)
    × AllByRecursion (λ x. fault g.M.Message.reading x ≡ None) (calls_left l.call-iterator)
