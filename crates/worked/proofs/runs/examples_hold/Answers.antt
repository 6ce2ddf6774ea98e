use Rattle.worked.proofs.RunLaws.{examples}
use Rattle.worked.proofs.runs.examples_hold.Goals as goal

pub returns : goal.returns
returns g c =
    examples g.M.Message.form g.M.Message.reading c.args.message c.args.filler (g.met.M.Message.reads c.args.message)
