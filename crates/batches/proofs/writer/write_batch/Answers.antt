use Rattle.std.proofs.Common.{◌≡◌, ◌+◌, ◌-◌, ◌*◌, ◌++◌, length, take, drop, refl, ap, ◌∙◌, arith}
use Rattle.batches.specs.Layout.{written}
use Rattle.batches.proofs.WriteLaws.{accepted, front, reads_as}
use Rattle.batches.proofs.writer.write_batch.Goals as goal

pub returns : goal.returns
returns g c =
    let rs = c.args.records.now in
    let n = 4 + 25 * length rs in
    let fit = c.write_all.ensures.fit in
    let good = c.in_ok-judge_records.ensures in
    let put : c.write_all.new.out ++ drop (n - 0) c.args.out.now ≡ written rs ++ drop n c.args.out.now =
    ap (λ l. l ++ drop (n - 0) c.args.out.now) c.write_all.ensures.after ∙ ap (λ m. written rs ++ drop m c.args.out.now) (omega arith) in
    record {
      verdict = accepted g.M.Message.reading rs fit (omega arith) good (length c.args.out.now) (omega arith);
      after = (refl, put);
      reads_back =
          reads_as g.M.Message.reading rs fit (omega arith) good _
          (ap (take n) put ∙ front g.M.Message.reading rs fit (omega arith) good n (drop n c.args.out.now) refl);
    }
