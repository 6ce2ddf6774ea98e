use Rattle.std.proofs.Common.{rules, None}
use Rattle.pool.proofs.block_pool.free_list.methods.links.Goals as goal

pub returns : goal.returns
returns c = λ k h. let call = (c.from_fn.ensures.items.at k None h).2 in search rules
