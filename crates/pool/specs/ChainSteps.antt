-- What a free list's fields owe one another, and what each step leaves of them. Assumes nothing.
--   Sound size head count next   the numbers on the walk are free and distinct, and as many as are free
--   Empty, Taking, Giving, Fresh  what is so of the chain where nothing is free, as its first block is taken, as a block is put in front, and
--                                 where the links count on from 0
use Rattle.std.specs.Prelude.{◌≡◌, ℕ, ◌+◌, ◌-◌, ◌<◌, true, false, List, [], ◌∷◌, Some, None, Option, replicate, slice_index_or, slice_set}
use Rattle.std.specs.List.{range_with_len}
use Rattle.pool.specs.Chains.{chain_marks, link_at, walk}
use Rattle.pool.specs.Marks.{free_count, marked}
use Rattle.pool.specs.Numbers.{all_free, distinct}

pub record Sound (size head count : ℕ) (next : List (Option ℕ)) : Type 0 where
  pub free : all_free (chain_marks size next) (walk count head next) ≡ true
  pub apart : distinct (walk count head next) ≡ true
  pub counted : count ≡ free_count (chain_marks size next)

pub record Empty (size head count : ℕ) (next : List (Option ℕ)) : Type 0 where
  pub none : (n : ℕ) → marked (chain_marks size next) n ≡ false
  pub over : walk count head next ≡ []

pub record Taking (size head count : ℕ) (next : List (Option ℕ)) : Type 0 where
  pub below : head < size
  pub was : marked (chain_marks size next) head ≡ true
  pub linked : slice_index_or next head None ≡ Some (link_at next head)
  pub marks : chain_marks size (slice_set next head None) ≡ slice_set (chain_marks size next) head false
  pub first : walk count head next ≡ head ∷ walk (count - 1) (link_at next head) (slice_set next head None)
  pub sound : Sound size (link_at next head) (count - 1) (slice_set next head None)

pub record Giving (size head count : ℕ) (next : List (Option ℕ)) (n : ℕ) : Type 0 where
  pub room : count < 256
  pub marks : chain_marks size (slice_set next n (Some head)) ≡ slice_set (chain_marks size next) n true
  pub first : walk (count + 1) n (slice_set next n (Some head)) ≡ n ∷ walk count head next
  pub sound : Sound size n (count + 1) (slice_set next n (Some head))

pub record Fresh (size : ℕ) (next : List (Option ℕ)) : Type 0 where
  pub marks : chain_marks size next ≡ replicate size true
  pub order : walk size 0 next ≡ range_with_len 0 size
  pub sound : Sound size 0 size next
