-- Lists of block numbers. Assumes nothing.
--   has ns n        whether n stands in ns
--   distinct ns     whether no number stands in ns twice
--   all_free ms ns  whether every number of ns is free under the marks ms
use Rattle.std.specs.Prelude.{ℕ, Bool, true, false, not, ◌&&◌, ◌||◌, List, [], ◌∷◌, ◌==◌}
use Rattle.pool.specs.Marks.{marked}

abbrev pub has : List ℕ → ℕ → Bool
has [] n = false
has (m ∷ ms) n = m == n || has ms n

abbrev pub distinct : List ℕ → Bool
distinct [] = true
distinct (n ∷ ns) = not (has ns n) && distinct ns

abbrev pub all_free : List Bool → List ℕ → Bool
all_free ms [] = true
all_free ms (n ∷ ns) = marked ms n && all_free ms ns
