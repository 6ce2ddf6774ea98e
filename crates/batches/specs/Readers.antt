-- What a reader has still to read. Assumes nothing.
--   whole reader  its batch is as long as its count says
--   left reader   the records from its cursor on
--   calls_left c  those that an iterator over a reader's calls has still to give
--   Opened, Found, Parsed, Next   what `Reader::new`, `row_at`, `row_in` and `next` answer
use Rattle.std.specs.Prelude.{◌≡◌, ℕ, ◌+◌, ◌<◌, Bool, true, false, cond, List, [], ◌∷◌, length, Some, None, Ok, Err, Option, Result, ◌==◌}
use Rattle.calls.specs.Calls.{call_record}
use Rattle.calls.specs.Faults.{fault}
use Rattle.calls.specs.Records.{row_record}
use Rattle.calls.specs.declared.call.Call.{Call}
use Rattle.calls.specs.declared.record.CallRecord.{CallRecord}
use Rattle.calls.specs.declared.record.Row.{Row}
use Rattle.calls.specs.declared.refusal.RowFault.{RowFault}
use Rattle.batches.specs.Layout.{Sole, batch_length, batch_records, record_in, rows_from, shaped}
use Rattle.batches.specs.declared.reader.calls_left.Calls.{Calls}
use Rattle.batches.specs.declared.reader.Reader.{Reader}
use Rattle.batches.specs.declared.refused.BatchRefusal.{BatchRefusal}
use Rattle.batches.specs.declared.refused.BatchRefusal.TheVariants.{Shape}

-- the row that is read next
abbrev pub cursor : Reader → ℕ
cursor r = r.row

abbrev pub whole : Reader → Bool
whole r = length r.batch.now == batch_length r.count

-- a reader of a batch that is not whole would read nothing; the type has none
abbrev pub left_from : Reader → ℕ → List CallRecord
left_from r k = cond (whole r) (rows_from r.batch.now r.count k) []

abbrev pub left : Reader → List CallRecord
left r = left_from r (cursor r)

abbrev pub calls_left : {M : Type 0} → Calls M → List CallRecord
calls_left c = left c.reader

-- a reader at the first row of a batch that has its shape
abbrev pub Opened : List ℕ → Result Reader BatchRefusal → Type 0
Opened b (Ok reader) = (shaped b ≡ true) × (cursor reader ≡ 0) × (left reader ≡ batch_records b) × Sole b
Opened b (Err e) = (shaped b ≡ false) × (e ≡ Shape)

-- the reader after `next`: one row further where it answered something, else as it was
abbrev pub moved : {X : Type 0} → Reader → Option X → Reader
moved r None = r
moved r (Some x) = record { batch = r.batch; count = r.count; row = r.row + 1; as_long = r.as_long }

-- the row at index k: the first of those from there on, or none past the last
abbrev pub Found : Reader → ℕ → Option Row → Type 0
Found r k None = left_from r k ≡ []
Found r k (Some row) = left_from r k ≡ row_record row ∷ left_from r (k + 1)

-- the row in front of these bytes, or none where they are fewer than 24
abbrev pub Parsed : ℕ → List ℕ → Option Row → Type 0
Parsed c bytes None = length bytes < 24
Parsed c bytes (Some row) = row_record row ≡ record_in c bytes

-- what `next` answers, from the records left before and after: the first of them as a call, or its fault; none where none is left
abbrev pub Next : {M : Type 0} → (List ℕ → Option M) → List CallRecord → Option (Result Call RowFault) → List CallRecord → Type 0
Next reading before None after = (before ≡ []) × (after ≡ [])
Next reading before (Some (Ok call)) after = (before ≡ call_record call ∷ after) × (fault reading (call_record call) ≡ None)
Next reading before (Some (Err e)) after = (r : CallRecord) × (before ≡ r ∷ after) × (fault reading r ≡ Some e)
