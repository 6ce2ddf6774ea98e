-- The words of a bitmap: 64 numbers to a word, the lowest in its lowest bit. Assumes nothing.
--   bit w j             whether bit j of the word w is set
--   bit_at ws k         whether the bit of the number k is set in the words ws
--   word_marks size ws  the marks of the numbers below the size
--   flipped ws n        the words with the bit of the number n flipped
--   LowestBit w j       bit j of the word w is set, and none below it
--   FirstSet ws r       r is the lowest number whose bit is set, or none where no bit is
use Rattle.std.specs.Prelude.{◌≡◌, ℕ, ◌/◌, ◌%◌, ◌^◌, ◌<◌, Bool, true, false, List, map, Some, None, Option, ◌==◌, bit_xor, slice_index, slice_set}
use Rattle.std.specs.List.{range_with_len}

abbrev pub bit : ℕ → ℕ → Bool
bit w j = w / 2 ^ j % 2 == 1

abbrev pub bit_at : List ℕ → ℕ → Bool
bit_at ws k = bit (slice_index ws (k / 64)) (k % 64)

abbrev pub word_marks : ℕ → List ℕ → List Bool
word_marks size ws = map (bit_at ws) (range_with_len 0 size)

abbrev pub flipped : List ℕ → ℕ → List ℕ
flipped ws n = slice_set ws (n / 64) (bit_xor (slice_index ws (n / 64)) (2 ^ (n % 64)))

abbrev pub LowestBit : ℕ → ℕ → Type 0
LowestBit w j = (bit w j ≡ true) × ((i : ℕ) → i < j → bit w i ≡ false)

abbrev pub FirstSet : List ℕ → Option ℕ → Type 0
FirstSet ws (Some n) = (n < 256) × (bit_at ws n ≡ true) × ((k : ℕ) → k < n → bit_at ws k ≡ false)
FirstSet ws None = (k : ℕ) → bit_at ws k ≡ false
