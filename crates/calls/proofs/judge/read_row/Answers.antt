use Rattle.std.proofs.Common.{◌∙◌}
use Rattle.calls.specs.Records.{row_record}
use Rattle.calls.proofs.Kept.{kept_all}
use Rattle.calls.proofs.judge.read_row.Goals as goal

pub returns : goal.returns
returns g c =
    let judged = c.in_ok-code.ensures in (
      judged.value.1,
      c.from_row.ensures
          ∙ kept_all g.M.Message.reading (row_record c.args.row) c.in_ok-code.code judged.len.0 judged.len.1 judged.value.0 judged.value.1,
    )
