-- What is done to any block pool by its methods alone. Assumes nothing.
--   Drained ms ns after   the numbers ns are those that were free under ms, each once; none is free under the marks after
--   all_given ms ns       the marks after every number of ns is given back, one after the other
--   Covers ns ms          every number below the size stands in ns or is free
use Rattle.std.specs.Prelude.{◌≡◌, ℕ, ◌<◌, Bool, true, false, ◌||◌, List, length, replicate, fold, slice_set}
use Rattle.pool.specs.Marks.{marked}
use Rattle.pool.specs.Numbers.{distinct, has}

pub record Drained (ms : List Bool) (ns : List ℕ) (after : List Bool) : Type 0 where
  pub each : (n : ℕ) → has ns n ≡ marked ms n
  pub once : distinct ns ≡ true
  pub empty : after ≡ replicate (length ms) false

abbrev pub all_given : List Bool → List ℕ → List Bool
all_given ms ns = fold (λ m n. slice_set m n true) ms ns

abbrev pub Covers : List ℕ → List Bool → Type 0
Covers ns ms = (n : ℕ) → n < length ms → (marked ms n || has ns n) ≡ true
