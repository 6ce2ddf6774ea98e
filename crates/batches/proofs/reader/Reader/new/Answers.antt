use Rattle.std.proofs.Common.{◌≡◌, ℕ, ◌+◌, ◌*◌, length, refl, arith, rules}
use Rattle.batches.specs.declared.reader.Reader.{Reader}
use Rattle.batches.proofs.BatchLaws.{sole}
use Rattle.batches.proofs.ReaderLaws.{accepted}
use Rattle.batches.proofs.reader.Reader.new.Goals as goal

pub returns : goal.returns
returns c =
    let long : length c.args.batch.now ≡ 4 + 25 * c.from_le_bytes-count.result = omega arith in
    let made : Reader = record { batch = c.args.batch; count = c.from_le_bytes-count.result; row = 0; as_long = long } in
    let whole = accepted made (omega arith) (search rules) (search rules) (omega arith) refl in
    (whole.0, refl, whole.1, sole c.args.batch.now whole.0 (λ k. (c.type_inv.batch k).fits))
