use Rattle.std.proofs.Common.{arith, rules}
use Rattle.batches.proofs.WriteLaws.{codes_more, codes_all}
use Rattle.batches.proofs.writer.write_codes.Goals as goal

pub loop-k-preserved : goal.loop-k-preserved
loop-k-preserved c = codes_more c.args.records.now c.loop-k.out c.loop-k.k _ (omega arith) (search rules) c.loop-k.invariant

pub returns : goal.returns
returns c = codes_all c.args.records.now c.loop-k.out c.loop-k.k (omega arith) (search rules) c.loop-k.invariant
