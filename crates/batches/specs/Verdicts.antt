-- The verdict on a batch, and on records to be written. Assumes nothing.
--   Verdict            none, or the refusal
--   first_fault f k rs the first of the records, counted from k, that f refuses
--   verdict            of a batch's bytes
--   write_verdict      of records to be written into a buffer
use Rattle.std.specs.Prelude.{◌≡◌, ℕ, ◌+◌, cond, List, [], ◌∷◌, length, Some, None, Ok, Err, Option, Result, nat_le}
use Rattle.calls.specs.Faults.{fault}
use Rattle.calls.specs.declared.record.CallRecord.{CallRecord}
use Rattle.calls.specs.declared.refusal.RowFault.{RowFault}
use Rattle.batches.specs.declared.refused.BatchRefusal.{BatchRefusal}
use Rattle.batches.specs.declared.refused.BatchRefusal.TheVariants as batch
use Rattle.batches.specs.Layout.{batch_length, batch_records, shaped}

abbrev pub Verdict : Type 0
Verdict = Option BatchRefusal

abbrev pub at_row : ℕ → Option RowFault → Verdict → Verdict
at_row k (Some fault) rest = Some (batch.Row k fault)
at_row k None rest = rest

abbrev pub first_fault : (CallRecord → Option RowFault) → ℕ → List CallRecord → Verdict
first_fault f k [] = None
first_fault f k (r ∷ rs) = at_row k (f r) (first_fault f (k + 1) rs)

-- the answer gives this verdict
abbrev pub Says : {T : Type 0} → Result T BatchRefusal → Verdict → Type 0
Says (Ok x) v = v ≡ None
Says (Err e) v = v ≡ Some e

module _ {M : Type 0} (reading : List ℕ → Option M) where
  abbrev pub verdict : List ℕ → Verdict
  verdict b = cond (shaped b) (first_fault (fault reading) 0 (batch_records b)) (Some batch.Shape)

  abbrev pub write_verdict : List CallRecord → ℕ → Verdict
  write_verdict rs room =
      cond (nat_le (length rs) 1024)
      (cond (nat_le (batch_length (length rs)) room) (first_fault (fault reading) 0 rs) (Some batch.ShortBuffer))
      (Some batch.Shape)
