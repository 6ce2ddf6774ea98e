-- What is wrong with the record of a call, before it is made: the least of 5 to 8 that holds. Assumes nothing.
--   all_zero       every byte is zero
--   unused_set     a field that the call does not use is not zero
--   fault          the record's fault, or none
use Rattle.std.specs.Prelude.{ℕ, Bool, true, cond, not, ◌&&◌, ◌||◌, List, [], ◌∷◌, is_some, Some, None, Option, ◌==◌}
use Rattle.messages.specs.Names.{service_name}
use Rattle.calls.specs.Codes.{code_of, uses}
use Rattle.calls.specs.declared.code.CallCode.{CallCode}
use Rattle.calls.specs.declared.code.Uses.{Uses}
use Rattle.calls.specs.declared.record.CallRecord.{CallRecord}
use Rattle.calls.specs.declared.refusal.RowFault.{RowFault}
use Rattle.calls.specs.declared.refusal.RowFault.TheVariants.{UnknownCode, UnusedField, BadName, BadMessage}

abbrev pub all_zero : List ℕ → Bool
all_zero [] = true
all_zero (b ∷ bs) = b == 0 && all_zero bs

-- a field is set though it is not used
abbrev pub set_unused : Bool → Bool → Bool
set_unused used zero = not used && not zero

abbrev pub unused_set : Uses → CallRecord → Bool
unused_set u r =
    set_unused u.n1 (r.n1 == 0)
    || (set_unused u.n2 (r.n2 == 0)
    || (set_unused u.n3 (r.n3 == 0)
    || (set_unused u.name (all_zero r.name)
    || set_unused u.message (all_zero r.message))))

module _ {M : Type 0} (reading : List ℕ → Option M) where
  abbrev pub fault_of : CallRecord → CallCode → Option RowFault
  fault_of r c =
      cond (unused_set (uses c) r) (Some UnusedField)
      (cond ((uses c).name && not (service_name r.name)) (Some BadName)
      (cond ((uses c).message && not (is_some (reading r.message))) (Some BadMessage)
      None))

  abbrev pub fault_under : CallRecord → Option CallCode → Option RowFault
  fault_under r None = Some UnknownCode
  fault_under r (Some c) = fault_of r c

  abbrev pub fault : CallRecord → Option RowFault
  fault r = fault_under r (code_of r.code)
