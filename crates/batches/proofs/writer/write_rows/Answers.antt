use Rattle.std.proofs.Common.{◌≡◌, [], get_or, arith, rules}
use Rattle.std.proofs.ByRecursion.{All-more}
use Rattle.calls.specs.declared.record.CallRecord.{CallRecord}
use Rattle.batches.specs.Layout.{row_bytes}
use Rattle.batches.specs.Writing.{Fit}
use Rattle.batches.proofs.WriteLaws.{rows_more, rows_all, rows_fit}
use Rattle.batches.proofs.writer.write_rows.Goals as goal

pub loop-k-preserved : goal.loop-k-preserved
loop-k-preserved c =
    let d : CallRecord = record { code = 0; n1 = 0; n2 = 0; n3 = 0; name = []; message = [] } in
    let k = c.loop-k.k in
    let row : c.write_row.new.out ≡ row_bytes (get_or c.args.records.now k d) = c.write_row.ensures.after in
    record {
      after = rows_more c.args.records.now c.loop-k.out c.write_row.new.out k d (omega arith) (search rules) c.loop-k.invariant.after row (omega arith);
      fit = All-more Fit c.args.records.now k d (omega arith) c.loop-k.invariant.fit c.write_row.ensures.fit;
    }

pub returns : goal.returns
returns c =
    record {
      after = rows_all c.args.records.now c.loop-k.out c.loop-k.k (omega arith) (search rules) c.loop-k.invariant.after;
      fit = rows_fit c.args.records.now c.loop-k.k (omega arith) c.loop-k.invariant.fit;
    }
