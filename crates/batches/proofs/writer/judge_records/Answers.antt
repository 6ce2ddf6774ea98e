use Rattle.std.proofs.Common.{◌+◌, [], drop, sym, ap, ◌∙◌, arith}
use Rattle.std.proofs.lemmas.List.{at_drop_all}
use Rattle.calls.specs.Faults.{fault}
use Rattle.calls.specs.declared.record.CallRecord.{CallRecord}
use Rattle.batches.specs.Verdicts.{at_row, first_fault}
use Rattle.batches.proofs.WriteLaws.{fault_more}
use Rattle.batches.proofs.writer.judge_records.Goals as goal

unread : CallRecord
unread = record { code = 0; n1 = 0; n2 = 0; n3 = 0; name = []; message = [] }

pub returns-in-Some : goal.returns-in-Some
unfolding unread
returns-in-Some g c =
    let f = fault g.M.Message.reading in
    let k = c.loop-k.k in
    let found = sym (ap f c.row.ensures) ∙ sym c.in-Some.ensures.value in
    fault_more f c.args.records.now k unread (omega arith) c.loop-k.invariant
    ∙ ap (λ o. at_row k o (first_fault f (k + 1) (drop (k + 1) c.args.records.now))) found

pub loop-k-preserved : goal.loop-k-preserved
unfolding unread
loop-k-preserved g c =
    let f = fault g.M.Message.reading in
    let k = c.loop-k.k in
    let found = sym (ap f c.row.ensures) ∙ sym c.in_default.ensures.value in
    fault_more f c.args.records.now k unread (omega arith) c.loop-k.invariant
    ∙ ap (λ o. at_row k o (first_fault f (k + 1) (drop (k + 1) c.args.records.now))) found

pub returns : goal.returns
returns g c =
    let f = fault g.M.Message.reading in
    c.loop-k.invariant ∙ at_drop_all (first_fault f c.loop-k.k) c.args.records.now c.loop-k.k (omega arith)
