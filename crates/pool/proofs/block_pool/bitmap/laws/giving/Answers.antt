use Rattle.pool.specs.MapLaws.{given}
use Rattle.pool.proofs.block_pool.bitmap.laws.giving.Goals as goal

pub returns : goal.returns
returns c =
    let p = c.args.map.now in
    given p.size p.count p.words p.full p.small (record { above = p.none_above; counted = p.counted }) c.args.number c.requires.below c.requires.taken
