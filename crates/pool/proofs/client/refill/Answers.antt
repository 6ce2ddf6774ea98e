use Rattle.std.proofs.Common.{ap, ◌∙◌, take_all}
use Rattle.pool.specs.Clients.{all_given}
use Rattle.pool.proofs.ClientLaws.{refilled}
use Rattle.pool.proofs.client.refill.Goals as goal

pub returns-clause-whole : goal.returns-clause-whole
returns-clause-whole g c = λ covers.
    let ms = g.P.BlockPool.marks c.args.pool.now in
    let ns = c.args.numbers.now in
    c.loop-number.invariant ∙ (ap (all_given ms) (take_all c.loop-number.number-index ns c.loop-number-test.false) ∙ refilled ms ns covers)
