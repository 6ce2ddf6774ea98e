use Rattle.std.proofs.Common.{rules}
use Rattle.pool.specs.ChainLaws.{fresh}
use Rattle.pool.proofs.block_pool.free_list.laws.fresh.Goals as goal

pub returns : goal.returns
returns c = fresh c.args.size.size c.args.next.now (search rules) c.args.size.small c.requires
