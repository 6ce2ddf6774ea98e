use Rattle.batches.proofs.ReaderLaws.{same_reader}
use Rattle.batches.proofs.reader.Reader.next.Goals as goal

pub returns-clause-after : goal.returns-clause-after
returns-clause-after g c = same_reader c.args.self.now _ _ _
