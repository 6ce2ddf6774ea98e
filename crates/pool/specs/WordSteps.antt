-- What a bitmap's fields owe one another, and what each step leaves of them. Assumes nothing.
--   Sound size count words   no bit at or above the size is set, and as many below it as are counted
--   Taking, Giving           what is so of the words as their lowest bit is cleared, and as a bit that is clear is set
--   Full                     what is so of four words in which every number below the size is set
use Rattle.std.specs.Prelude.{◌≡◌, ℕ, ◌+◌, ◌-◌, ◌<◌, ◌≤◌, true, false, List, replicate, slice_set}
use Rattle.pool.specs.Marks.{free_count, marked}
use Rattle.pool.specs.Words.{bit_at, flipped, word_marks}

pub record Sound (size count : ℕ) (words : List ℕ) : Type 0 where
  pub above : (k : ℕ) → size ≤ k → bit_at words k ≡ false
  pub counted : count ≡ free_count (word_marks size words)

pub record Taking (size count : ℕ) (words : List ℕ) (n : ℕ) : Type 0 where
  pub some : 1 ≤ count
  pub was : marked (word_marks size words) n ≡ true
  pub lower : (k : ℕ) → k < n → marked (word_marks size words) k ≡ false
  pub marks : word_marks size (flipped words n) ≡ slice_set (word_marks size words) n false
  pub sound : Sound size (count - 1) (flipped words n)

pub record Giving (size count : ℕ) (words : List ℕ) (n : ℕ) : Type 0 where
  pub room : count < 256
  pub marks : word_marks size (flipped words n) ≡ slice_set (word_marks size words) n true
  pub sound : Sound size (count + 1) (flipped words n)

pub record Full (size : ℕ) (words : List ℕ) : Type 0 where
  pub marks : word_marks size words ≡ replicate size true
  pub sound : Sound size size words
