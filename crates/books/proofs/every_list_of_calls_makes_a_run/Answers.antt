use Rattle.books.proofs.Law.{makes}
use Rattle.books.proofs.every_list_of_calls_makes_a_run.Goals as goal

pub returns : goal.returns
returns g c = makes g.M.Message.reading
