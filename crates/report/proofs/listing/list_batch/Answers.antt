use Rattle.std.proofs.Common.{ap, ◌∙◌}
use Rattle.batches.specs.Readers.{left}
use Rattle.batches.specs.Verdicts.{first_fault}
use Rattle.batches.proofs.WriteLaws.{accepted_rows, all_good}
use Rattle.calls.specs.Faults.{fault}
use Rattle.report.proofs.listing.list_batch.Goals as goal

pub list_calls-requires : goal.list_calls-requires
list_calls-requires g c =
    let known = c.in-Ok.ensures in
    let f = fault g.M.Message.reading in
    all_good f 0 (left c.in-Ok.reader) (ap (first_fault f 0) known.left.1 ∙ accepted_rows g.M.Message.reading c.args.batch.now known.verdict)
