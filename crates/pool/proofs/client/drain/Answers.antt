use Rattle.std.proofs.Common.{◌≡◌, ◌<◌, length, ◌∙◌, arith}
use Rattle.std.proofs.lemmas.List.{length-set}
use Rattle.pool.proofs.ClientLaws.{drained, drained_all, drained_count, draining_more}
use Rattle.pool.proofs.client.drain.Goals as goal

pub returns-in_default-clause-drained : goal.returns-in_default-clause-drained
returns-in_default-clause-drained g c = drained _ _ _ _ _ c.loop-count.invariant.1 _ c.in_default.ensures.takes

pub returns-in_default-clause-counts : goal.returns-in_default-clause-counts
returns-in_default-clause-counts g c = drained_count _ _ _ _ _ c.loop-count.invariant.1 _ c.in_default.ensures.takes

pub loop-count-preserved : goal.loop-count-preserved
loop-count-preserved g c =
    let room : c.loop-count.count < length c.loop-count.out = omega arith in
    let place : c.from.result ≡ c.loop-count.count = omega arith in (
      length-set c.loop-count.out _ _ ∙ c.loop-count.invariant.0,
      rw place (draining_more _ _ _ _ _ c.loop-count.invariant.1 c.in-Some.number _ room c.in-Some.ensures.takes),
    )

pub returns-clause-drained : goal.returns-clause-drained
returns-clause-drained g c =
    let end : c.loop-count.count ≡ 256 = omega arith in
    rw end at (drained_all _ _ _ _ _ c.loop-count.invariant.1 (g.met.P.BlockPool.small c.args.pool.now) (omega arith))

pub returns-clause-rest : goal.returns-clause-rest
returns-clause-rest g c = let end : c.loop-count.count ≡ 256 = omega arith in rw end at c.loop-count.invariant.1.rest
