-- The links of a free list: an entry for each block, which is the number of the next free block, or None for a block that is not free.
-- Assumes nothing.
--   link_at next n          the link of the block n; for one that has none the block itself, and no walk asks for that
--   chain_marks size next   the marks of the numbers below the size
--   walk count head next    the numbers that are met on `count` links from `head` on
use Rattle.std.specs.Prelude.{ℕ, zero, suc, Bool, List, [], ◌∷◌, map, take, None, Option, is_some, unwrap_or, slice_index_or}

abbrev pub link_at : List (Option ℕ) → ℕ → ℕ
link_at next n = unwrap_or (slice_index_or next n None) n

abbrev pub chain_marks : ℕ → List (Option ℕ) → List Bool
chain_marks size next = map is_some (take size next)

abbrev pub walk : ℕ → ℕ → List (Option ℕ) → List ℕ
walk zero head next = []
walk (suc k) head next = head ∷ walk k (link_at next head) next
