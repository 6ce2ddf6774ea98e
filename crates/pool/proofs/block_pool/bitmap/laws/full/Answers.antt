use Rattle.std.proofs.Common.{rules}
use Rattle.pool.specs.MapLaws.{filled}
use Rattle.pool.proofs.block_pool.bitmap.laws.full.Goals as goal

pub returns : goal.returns
returns c = filled c.args.size.size c.args.words.now (search rules) c.args.size.small c.requires
