use Rattle.worked.proofs.EdgeLaws.{edges}
use Rattle.worked.proofs.edges.edges_hold.Goals as goal

pub returns : goal.returns
returns g c =
    edges g.M.Message.form g.M.Message.reading c.args.message c.args.filler (g.met.M.Message.reads c.args.message)
