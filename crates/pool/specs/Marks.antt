-- The meaning of a block pool: one mark for each number below its size, true where the number is free. Assumes nothing.
--   marked ms n    whether the number n is free; a number that is not below the size is not
--   free_count ms  how many numbers are free
--   Resets, Takes, Returns   what a method answers (the last argument but one) and leaves (the last)
use Rattle.std.specs.Prelude.{◌≡◌, ℕ, ◌<◌, ◌≤◌, Bool, true, false, List, length, replicate, Some, None, count_by, Option, slice_index_or, slice_set}

abbrev pub marked : List Bool → ℕ → Bool
marked ms n = slice_index_or ms n false

abbrev pub free_count : List Bool → ℕ
free_count ms = count_by (λ m. m) ms

-- a size of 1 to 256 frees every number; another is refused
abbrev pub Resets : List Bool → ℕ → Bool → List Bool → Type 0
Resets ms size true after = (1 ≤ size) × (size ≤ 256) × (after ≡ replicate size true)
Resets ms size false after = (1 ≤ size → 256 < size) × (after ≡ ms)

-- a free number is no longer free; none is answered only where no number is free
abbrev pub Takes : List Bool → Option ℕ → List Bool → Type 0
Takes ms (Some n) after = (marked ms n ≡ true) × (after ≡ slice_set ms n false)
Takes ms None after = ((n : ℕ) → marked ms n ≡ false) × (after ≡ ms)

-- a number below the size that was not free is free; another is refused
abbrev pub Returns : List Bool → ℕ → Bool → List Bool → Type 0
Returns ms n true after = (n < length ms) × (marked ms n ≡ false) × (after ≡ slice_set ms n true)
Returns ms n false after = (n < length ms → marked ms n ≡ true) × (after ≡ ms)
