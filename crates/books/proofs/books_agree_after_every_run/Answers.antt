use Rattle.books.proofs.Law.{run_books}
use Rattle.books.proofs.books_agree_after_every_run.Goals as goal

pub returns : goal.returns
returns g c = run_books g.M.Message.reading
