-- A row without fault is the record of one call, and the call's record is the row: nothing is lost between a batch and the calls that it
-- makes. Assumes nothing.
use Rattle.std.specs.Prelude.{◌≡◌, ℕ, List, Some, None, Option}
use Rattle.calls.specs.Faults.{fault}
use Rattle.calls.specs.Records.{Eights}
use Rattle.calls.specs.declared.record.CallRecord.{CallRecord}
use Rattle.plain.specs.Calls.{Call, call_of, record_of}

abbrev pub RowsAreCalls : {M : Type 0} → (List ℕ → Option M) → Type 0
RowsAreCalls reading =
    (r : CallRecord) → Eights r → fault reading r ≡ None → (c : Call) × (call_of r ≡ Some c) × (record_of c ≡ r)
