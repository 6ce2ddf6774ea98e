use Rattle.batches.proofs.EdgeLaws.{batch_edges}
use Rattle.batches.proofs.edges.batch_edges_hold.Goals as goal

pub returns : goal.returns
returns g c = batch_edges g.M.Message.reading
