use Rattle.calls.proofs.Zeros.{zero_bytes}
use Rattle.calls.proofs.judge.is_zero.Goals as goal

pub returns : goal.returns
returns c = record { value = zero_bytes c.args.bytes.now c.from_le_bytes.result c.told-bytes c.from_le_bytes.ensures; len = c.told-bytes }
