use Rattle.std.proofs.Common.{◌≡◌, true, false, get_or, drop}
use Rattle.messages.specs.Names.{in_order, letter}
use Rattle.messages.proofs.name.is_service_name.Given as goal

-- the bytes that are left decide as all of them do
abbrev pub invariant-loop-b : goal.invariant-loop-b
invariant-loop-b l = (letter (get_or l.bytes 0 0) ≡ true) × (in_order false l.bytes ≡ in_order l.after_space (drop l.b-index l.bytes))
