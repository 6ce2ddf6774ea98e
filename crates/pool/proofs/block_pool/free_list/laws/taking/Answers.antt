use Rattle.std.proofs.Common.{arith}
use Rattle.pool.specs.ChainLaws.{taken}
use Rattle.pool.proofs.block_pool.free_list.laws.taking.Goals as goal

pub returns : goal.returns
returns c =
    let p = c.args.list.now in
    taken p.size p.head p.next (omega arith) p.count c.requires (record { free = p.free; apart = p.apart; counted = p.counted })
