-- The order in which a free list hands its numbers out. Assumes nothing.
--   list_marks p   the marks of the free list p
--   order p        the numbers that p will hand out, the next one first
--   Restarts, Pops, Pushes   what a method answers (the last argument but one) and leaves of the order (the last)
use Rattle.std.specs.Prelude.{◌≡◌, ℕ, Bool, true, false, List, [], ◌∷◌, Some, None, Option}
use Rattle.std.specs.List.{range_with_len}
use Rattle.pool.specs.Chains.{chain_marks, walk}
use Rattle.pool.specs.declared.block_pool.free_list.FreeList.{FreeList}

abbrev pub list_marks : FreeList → List Bool
list_marks p = chain_marks p.size p.next

abbrev pub order : FreeList → List ℕ
order p = walk p.count p.head p.next

-- after a reset: 0, 1, 2 and so on below the size
abbrev pub Restarts : List ℕ → ℕ → Bool → List ℕ → Type 0
Restarts ns size true after = after ≡ range_with_len 0 size
Restarts ns size false after = after ≡ ns

-- the first of the order is taken, and the others stay
abbrev pub Pops : List ℕ → Option ℕ → List ℕ → Type 0
Pops ns (Some n) after = ns ≡ n ∷ after
Pops ns None after = (ns ≡ []) × (after ≡ [])

-- a number that was returned is the next to go
abbrev pub Pushes : List ℕ → ℕ → Bool → List ℕ → Type 0
Pushes ns n true after = after ≡ n ∷ ns
Pushes ns n false after = after ≡ ns
