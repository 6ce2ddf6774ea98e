use Rattle.books.proofs.Law.{at_every_station, interleaves}
use Rattle.books.proofs.books_agree_at_every_station.Goals as goal

pub returns : goal.returns
returns g c =
    record {
      law = at_every_station g.A.Message.reading g.B.Message.reading;
      met = interleaves g.A.Message.reading g.B.Message.reading;
    }
