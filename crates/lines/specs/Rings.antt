-- The list that a ring of 256 places holds. Assumes nothing.
--   ring at h n    n numbers from place h on; behind the last place comes the first
--   line_of l      the numbers in the line, the first to leave in front
use Rattle.std.specs.Prelude.{ℕ, zero, suc, ◌%◌, List, [], ◌∷◌, slice_index}
use Rattle.lines.specs.declared.line.Line.{Line}

abbrev pub ring : List ℕ → ℕ → ℕ → List ℕ
ring at h zero = []
ring at h (suc n) = slice_index at (h % 256) ∷ ring at (suc h) n

abbrev pub line_of : Line → List ℕ
line_of l = ring l.at l.head l.len
