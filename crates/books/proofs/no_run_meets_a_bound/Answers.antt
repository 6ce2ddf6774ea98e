use Rattle.books.proofs.Room.{roomy}
use Rattle.books.proofs.no_run_meets_a_bound.Goals as goal

pub returns : goal.returns
returns g c = roomy g.M.Message.reading
