-- What the listing of a batch comes to. Assumes nothing.
use Rattle.std.specs.Prelude.{◌≡◌, ℕ, List, length, Some, None, Ok, Err, Option, Result}
use Rattle.batches.specs.Layout.{batch_records}
use Rattle.batches.specs.Verdicts.{verdict}
use Rattle.batches.specs.declared.refused.BatchRefusal.{BatchRefusal}
use Rattle.report.specs.declared.outcome.Listed.{Listed}

-- an accepted batch is listed whole and written back to the same bytes; another is refused
abbrev pub Told : {M : Type 0} → (List ℕ → Option M) → List ℕ → Result Listed BatchRefusal → Type 0
Told reading b (Ok listed) = (verdict reading b ≡ None) × (listed.calls ≡ length (batch_records b)) × (listed.bytes ≡ length b)
Told reading b (Err e) = verdict reading b ≡ Some e
