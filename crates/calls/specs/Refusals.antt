-- The number of each refusal, and those that speak of one row of a batch. Assumes nothing.
use Rattle.std.specs.Prelude.{ℕ}
use Rattle.calls.specs.declared.refusal.Refusal.{Refusal}
use Rattle.calls.specs.declared.refusal.Refusal.TheVariants as refusal
use Rattle.calls.specs.declared.refusal.RowFault.{RowFault}
use Rattle.calls.specs.declared.refusal.RowFault.TheVariants as fault

abbrev pub refusal_number : Refusal → ℕ
refusal_number refusal.DraftSize = 1
refusal_number refusal.TableLength = 2
refusal_number refusal.BatchShape = 3
refusal_number refusal.ShortBuffer = 4
refusal_number refusal.UnknownCode = 5
refusal_number refusal.UnusedField = 6
refusal_number refusal.BadName = 7
refusal_number refusal.BadMessage = 8
refusal_number refusal.NoneRunning = 9
refusal_number refusal.OutOfRange = 10
refusal_number refusal.AlreadyThere = 11
refusal_number refusal.ExchangeClosed = 12
refusal_number refusal.UnknownName = 13
refusal_number refusal.ExchangeBound = 14
refusal_number refusal.RegisterFull = 15
refusal_number refusal.NoFreeBlock = 16
refusal_number refusal.NoItem = 17
refusal_number refusal.NotHeld = 18
refusal_number refusal.RequestInHand = 19

-- the refusal of a fault that is found in one row
abbrev pub row_refusal : RowFault → Refusal
row_refusal fault.UnknownCode = refusal.UnknownCode
row_refusal fault.UnusedField = refusal.UnusedField
row_refusal fault.BadName = refusal.BadName
row_refusal fault.BadMessage = refusal.BadMessage
