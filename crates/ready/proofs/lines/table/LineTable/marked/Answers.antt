use Rattle.std.proofs.Common.{ap, eqb}
use Rattle.std.proofs.lemmas.Nat.Bits.{shr_and_one}
use Rattle.ready.proofs.lines.table.LineTable.marked.Goals as goal

pub returns : goal.returns
returns c = ap (λ d. eqb d 1) (shr_and_one c.args.self.now.marks c.args.task)
