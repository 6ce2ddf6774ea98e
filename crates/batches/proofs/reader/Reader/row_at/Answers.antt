use Rattle.std.proofs.Common.{rules}
use Rattle.std.proofs.lemmas.List.{take_rest}
use Rattle.batches.proofs.ReaderLaws.{found_row}
use Rattle.batches.proofs.reader.Reader.row_at.Goals as goal

pub returns : goal.returns
returns c =
    found_row c.args.self.now c.args.index c.row_in.result (search rules)
    (simp (take_rest, c.from-n.ensures, c.from-k.ensures) at c.row_in.ensures)
