-- What the writer leaves in the buffer that it was lent. Assumes nothing.
--   Fit r          the record's numbers fit their fields, and its name and message have eight bytes
--   Wrote          the batch and then the bytes that stood there, or all as it was
--   ReadsBack      the batch is accepted, and reads as these records
use Rattle.std.specs.Prelude.{◌≡◌, ℕ, ◌<◌, List, ◌++◌, length, drop, None, Ok, Err, Option, Result}
use Rattle.calls.specs.Records.{Eights}
use Rattle.calls.specs.declared.record.CallRecord.{CallRecord}
use Rattle.batches.specs.Layout.{batch_length, batch_records, written}
use Rattle.batches.specs.Verdicts.{verdict}
use Rattle.batches.specs.declared.refused.BatchRefusal.{BatchRefusal}

pub record Fit (r : CallRecord) : Type 0 where
  pub n1 : r.n1 < 65536
  pub n2 : r.n2 < 65536
  pub n3 : r.n3 < 4294967296
  pub texts : Eights r

abbrev pub Wrote : List CallRecord → List ℕ → Result ℕ BatchRefusal → List ℕ → Type 0
Wrote rs before (Ok n) after = (n ≡ batch_length (length rs)) × (after ≡ written rs ++ drop n before)
Wrote rs before (Err e) after = after ≡ before

abbrev pub ReadsBack : {M : Type 0} → (List ℕ → Option M) → List CallRecord → List ℕ → Type 0
ReadsBack reading rs b = (verdict reading b ≡ None) × (batch_records b ≡ rs)
