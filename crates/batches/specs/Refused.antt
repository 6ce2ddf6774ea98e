-- The refusal of a batch, its row, and the words that it is printed as. Assumes nothing.
use Rattle.std.specs.Prelude.{ℕ, List, ◌++◌, Some, None, Option, codes, decimal}
use Rattle.calls.specs.Refusals.{row_refusal}
use Rattle.calls.specs.Words.{refusal_words}
use Rattle.calls.specs.declared.refusal.Refusal.{Refusal}
use Rattle.calls.specs.declared.refusal.Refusal.TheVariants as refusal
use Rattle.batches.specs.declared.refused.BatchRefusal.{BatchRefusal}
use Rattle.batches.specs.declared.refused.BatchRefusal.TheVariants as batch

abbrev pub batch_refusal : BatchRefusal → Refusal
batch_refusal batch.Shape = refusal.BatchShape
batch_refusal batch.ShortBuffer = refusal.ShortBuffer
batch_refusal (batch.Row row fault) = row_refusal fault

abbrev pub batch_row : BatchRefusal → Option ℕ
batch_row batch.Shape = None
batch_row batch.ShortBuffer = None
batch_row (batch.Row row fault) = Some row

abbrev pub batch_words : BatchRefusal → List ℕ
batch_words batch.Shape = refusal_words refusal.BatchShape
batch_words batch.ShortBuffer = refusal_words refusal.ShortBuffer
batch_words (batch.Row row fault) = codes "row " ++ (decimal row ++ (codes ": " ++ refusal_words (row_refusal fault)))
