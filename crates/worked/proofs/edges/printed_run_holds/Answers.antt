use Rattle.worked.proofs.EdgeLaws.{printed_run}
use Rattle.worked.proofs.edges.printed_run_holds.Goals as goal

pub returns : goal.returns
returns c = printed_run
