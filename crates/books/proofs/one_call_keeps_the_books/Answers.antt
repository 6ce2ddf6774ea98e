use Rattle.books.proofs.Law.{one_call}
use Rattle.books.proofs.one_call_keeps_the_books.Goals as goal

pub returns : goal.returns
returns g c = one_call g.M.Message.reading
