-- A taken block goes to a hand or to the pool: nothing but the block records and the free marks changes. Assumes nothing.
use Rattle.std.proofs.Common.{◌≡◌, ℕ, Bool, List}
use Rattle.plain.specs.Moves.{keeps}
use Rattle.plain.specs.States.{State, with_blocks, with_free}
use Rattle.plain.specs.declared.records.BlockRecord.{BlockRecord}
use Rattle.plain.specs.declared.records.Carries.{Carries}
use Rattle.plain.specs.declared.records.Carries.TheVariants as carries

-- what does not see them sees the same
pub keeps_part : {M A : Type 0} (see : State M → A) → ((f : List Bool) (bs : List BlockRecord) (s : State M) → see (with_free f (with_blocks bs s)) ≡ see s)
    → (t b : ℕ) (c : Carries) (s : State M) → see (keeps t b c s) ≡ see s
keeps_part see blind t b carries.Message s = blind _ _ s
keeps_part see blind t b (carries.Request r) s = blind _ _ s
keeps_part see blind t b (carries.Reply status) s = blind _ _ s
keeps_part see blind t b carries.Alarm s = blind _ _ s
