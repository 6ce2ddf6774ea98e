use Rattle.rules.proofs.RowLaws.{rows_are_calls}
use Rattle.rules.proofs.rowing.rows_are_calls.Goals as goal

pub returns : goal.returns
returns g c = rows_are_calls g.M.Message.reading
