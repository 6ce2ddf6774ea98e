-- What the memory of a list ends as, where one of its places is lent. Assumes nothing.
--   lends_at i r    once the borrow r ends, place i has the last value written through r
use Rattle.std.specs.Prelude.{ℕ, slice_set}
use Rattle.std.specs.Borrow.{Lends, Fml, RattleType, MutBor}
use Rattle.fixed.specs.contracts.cells.Cells.{the_row}

module _ (T N : RattleType) (cells : MutBor (the_row T N).Denot) where
  abbrev pub lends_at : ℕ → MutBor T.Denot → Fml
  lends_at i r = Lends (the_row T N) T cells r (λ x. record { xs = slice_set cells.now.xs i x })
