use Rattle.books.proofs.ClosingLaws.{closing_agrees}
use Rattle.books.proofs.closing_counts_agree.Goals as goal

pub returns : goal.returns
returns g c = closing_agrees g.M.Message.reading
