use Rattle.std.proofs.Common.{◌≡◌, take}
use Rattle.pool.specs.Clients.{all_given}
use Rattle.pool.proofs.client.refill.Given as goal

-- the numbers so far are given back
abbrev pub invariant-loop-number : goal.invariant-loop-number
invariant-loop-number g l =
    g.P.BlockPool.marks l.pool ≡ all_given (g.P.BlockPool.marks l.initial.pool) (take l.number-index l.numbers)
