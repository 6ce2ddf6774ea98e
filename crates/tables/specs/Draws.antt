-- The moves that take a block from the pool, where the pool chooses its number. Assumes nothing.
--   HandsOut c m r s after   block r was free, and is handed out with message m, carrying c; or none is free and nothing changes
--   Posts e m r s after      message m is put at exchange e, in a block that was free where no task waits; or no task waits, no block
--                            is free and nothing changes
use Rattle.std.specs.Prelude.{◌≡◌, ℕ, Bool, true, false, Some, None, Option}
use Rattle.pool.specs.Marks.{marked}
use Rattle.plain.specs.Lookups.{first_waiting}
use Rattle.plain.specs.Moves.{hands_out, post}
use Rattle.plain.specs.States.{State}
use Rattle.plain.specs.declared.records.Carries.{Carries}

module _ {M : Type 0} where
  abbrev pub HandsOut : Carries → M → Option ℕ → State M → State M → Type 0
  HandsOut c m (Some n) s after = (marked s.free n ≡ true) × (after ≡ hands_out n c m s)
  HandsOut c m None s after = ((n : ℕ) → marked s.free n ≡ false) × (after ≡ s)

  abbrev pub Posts : ℕ → M → Bool → State M → State M → Type 0
  Posts e m true s after = (n : ℕ) × ((first_waiting s e ≡ None → marked s.free n ≡ true) × (after ≡ post e m n s))
  Posts e m false s after = (first_waiting s e ≡ None) × (((n : ℕ) → marked s.free n ≡ false) × (after ≡ s))
