-- The record of a row that borrows its name and message. Assumes nothing.
use Rattle.std.specs.Prelude.{◌≡◌, length}
use Rattle.calls.specs.declared.record.CallRecord.{CallRecord}
use Rattle.calls.specs.declared.record.Row.{Row}

abbrev pub row_record : Row → CallRecord
row_record r =
    record { code = r.code; n1 = r.n1; n2 = r.n2; n3 = r.n3; name = r.name.now; message = r.message.now }

-- the name and the message have eight bytes each
abbrev pub Eights : CallRecord → Type 0
Eights r = (length r.name ≡ 8) × (length r.message ≡ 8)
