-- The bitmap as a block pool. Assumes nothing.
--   map_marks p    the marks of the bitmap p
--   Lowest ms r    the number r that is taken is the lowest that was free
use Rattle.std.specs.Prelude.{◌≡◌, ℕ, ◌<◌, Bool, false, List, Some, None, Option}
use Rattle.pool.specs.Marks.{marked}
use Rattle.pool.specs.Words.{word_marks}
use Rattle.pool.specs.declared.block_pool.bitmap.Bitmap.{Bitmap}

abbrev pub map_marks : Bitmap → List Bool
map_marks p = word_marks p.size p.words

abbrev pub Lowest : List Bool → Option ℕ → Type 0
Lowest ms (Some n) = (k : ℕ) → k < n → marked ms k ≡ false
Lowest ms None = Unit {0}
