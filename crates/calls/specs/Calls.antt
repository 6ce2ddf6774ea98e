-- A call's record, and what is kept of a row under a code. Assumes nothing.
--   call_record c  the call's record, with zeros in the fields that it does not use
--   kept code r    the record r with zeros in the fields that the code does not use
use Rattle.std.specs.Prelude.{ℕ, cond, List, replicate}
use Rattle.calls.specs.Codes.{code_number, uses}
use Rattle.calls.specs.declared.call.Call.{Call}
use Rattle.calls.specs.declared.call.Call.TheVariants as call
use Rattle.calls.specs.declared.code.CallCode.{CallCode}
use Rattle.calls.specs.declared.record.CallRecord.{CallRecord}

abbrev pub zeros : List ℕ
zeros = replicate 8 0

abbrev pub fields : ℕ → ℕ → ℕ → ℕ → List ℕ → List ℕ → CallRecord
fields c a b n s m = record { code = c; n1 = a; n2 = b; n3 = n; name = s; message = m }

abbrev pub call_record : Call → CallRecord
call_record (call.Start task priority) = fields 1 task priority 0 zeros zeros
call_record (call.Open exchange) = fields 2 exchange 0 0 zeros zeros
call_record (call.Close exchange) = fields 3 exchange 0 0 zeros zeros
call_record (call.Register exchange name) = fields 4 exchange 0 0 name.now zeros
call_record (call.Strike name) = fields 5 0 0 0 name.now zeros
call_record (call.Post exchange message) = fields 6 exchange 0 0 zeros message.now
call_record call.Tick = fields 7 0 0 0 zeros zeros
call_record (call.Send exchange message) = fields 8 exchange 0 0 zeros message.now
call_record (call.Wait exchange) = fields 9 exchange 0 0 zeros zeros
call_record (call.Check exchange) = fields 10 exchange 0 0 zeros zeros
call_record (call.Request reply name message) = fields 11 reply 0 0 name.now message.now
call_record (call.Respond block status) = fields 12 block 0 status zeros zeros
call_record (call.Move block exchange) = fields 13 block exchange 0 zeros zeros
call_record (call.Alarm exchange ticks message) = fields 14 exchange 0 ticks zeros message.now
call_record (call.Cancel block) = fields 15 block 0 0 zeros zeros
call_record (call.Priority priority) = fields 16 priority 0 0 zeros zeros
call_record call.End = fields 17 0 0 0 zeros zeros
call_record call.Tray = fields 18 0 0 0 zeros zeros

abbrev pub kept : CallCode → CallRecord → CallRecord
kept c r =
    fields (code_number c)
    (cond (uses c).n1 r.n1 0)
    (cond (uses c).n2 r.n2 0)
    (cond (uses c).n3 r.n3 0)
    (cond (uses c).name r.name zeros)
    (cond (uses c).message r.message zeros)
