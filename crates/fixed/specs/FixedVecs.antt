-- What a list in fixed memory holds. Assumes nothing.
--   elements v        its elements, in order
--   with_room n xs ys what becomes of xs, of which at most n fit: ys where there is room for one more, else xs still
use Rattle.std.specs.Prelude.{ℕ, List, length, take, cond, nat_lt}
use Rattle.fixed.specs.declared.FixedVec.{FixedVec}

abbrev pub elements : {T : Type 0} {N : ℕ} → FixedVec T N → List T
elements v = take v.len v.cells.xs

abbrev pub with_room : {T : Type 0} → ℕ → List T → List T → List T
with_room n xs ys = cond (nat_lt (length xs) n) ys xs
