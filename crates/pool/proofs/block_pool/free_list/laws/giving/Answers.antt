use Rattle.std.proofs.Common.{arith}
use Rattle.pool.specs.ChainLaws.{given}
use Rattle.pool.proofs.block_pool.free_list.laws.giving.Goals as goal

pub returns : goal.returns
returns c =
    let p = c.args.list.now in
    given p.size p.head p.next (omega arith) p.count c.args.number c.requires.below p.small c.requires.taken
    (record { free = p.free; apart = p.apart; counted = p.counted })
