-- Bytes, and numbers as bytes, the least significant first. Assumes nothing.
--   AllBytes bs    every number of bs is below 256
--   le2 n, le4 n   the two, or four, bytes of n
--   of_le2 bs, of_le4 bs   the number that the first two, or four, bytes stand for
--   same_bytes     the two lists are the same
use Rattle.std.specs.Prelude.{ℕ, ◌+◌, ◌*◌, ◌/◌, ◌%◌, Bool, true, false, ◌&&◌, List, [], ◌∷◌, ◌==◌, nat_lt, slice_index}

abbrev pub AllBytes : List ℕ → Bool
AllBytes [] = true
AllBytes (b ∷ bs) = nat_lt b 256 && AllBytes bs

abbrev pub le2 : ℕ → List ℕ
le2 n = n % 256 ∷ n / 256 % 256 ∷ []

abbrev pub le4 : ℕ → List ℕ
le4 n = n % 256 ∷ n / 256 % 256 ∷ n / 65536 % 256 ∷ n / 16777216 % 256 ∷ []

abbrev pub of_le2 : List ℕ → ℕ
of_le2 bs = slice_index bs 0 + slice_index bs 1 * 256

abbrev pub of_le4 : List ℕ → ℕ
of_le4 bs = slice_index bs 0 + slice_index bs 1 * 256 + slice_index bs 2 * 65536 + slice_index bs 3 * 16777216

abbrev pub same_bytes : List ℕ → List ℕ → Bool
same_bytes [] [] = true
same_bytes [] (c ∷ cs) = false
same_bytes (b ∷ bs) [] = false
same_bytes (b ∷ bs) (c ∷ cs) = b == c && same_bytes bs cs
