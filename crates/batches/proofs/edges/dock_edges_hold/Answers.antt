use Rattle.batches.proofs.EdgeLaws.{dock_edges}
use Rattle.batches.proofs.edges.dock_edges_hold.Goals as goal

pub returns : goal.returns
returns c = dock_edges
