use Rattle.std.proofs.Common.{◌≡◌, length}
use Rattle.pool.proofs.ClientLaws.{Draining}
use Rattle.pool.proofs.client.drain.Given as goal

abbrev pub invariant-loop-count : goal.invariant-loop-count
invariant-loop-count g l =
    (length l.out ≡ 256) × Draining (g.P.BlockPool.marks l.initial.pool) l.initial.out l.count (g.P.BlockPool.marks l.pool) l.out
