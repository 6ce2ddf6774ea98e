-- What a list ends as, where one of its elements is lent. Assumes nothing.
--   with_element v i x   the list with x in place i
--   lends_item i r       once the borrow r ends, place i has the last value written through r
--   lends_get i r        the same where there may be no place i, and then nothing changes
use Rattle.std.specs.Prelude.{ℕ, Option, slice_set}
use Rattle.std.specs.Borrow.{Lends, LendsIf, Fml, RattleType, MutBor}
use Rattle.fixed.specs.declared.FixedVec.{FixedVec}
use Rattle.fixed.specs.contracts.FixedVec.{the_row}

abbrev pub with_element : {T : Type 0} {N : ℕ} → FixedVec T N → ℕ → T → FixedVec T N
with_element v i x = record v { cells = record { xs = slice_set v.cells.xs i x } }

module _ (T N : RattleType) (v : MutBor (the_row T N).Denot) where
  abbrev pub lends_item : ℕ → MutBor T.Denot → Fml
  lends_item i r = Lends (the_row T N) T v r (with_element v.now i)

  abbrev pub lends_get : ℕ → Option (MutBor T.Denot) → Fml
  lends_get i r = LendsIf (the_row T N) T v r (with_element v.now i) v.now
