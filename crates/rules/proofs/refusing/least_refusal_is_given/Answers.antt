use Rattle.rules.proofs.RefusalLaws.{least}
use Rattle.rules.proofs.refusing.least_refusal_is_given.Goals as goal

pub returns : goal.returns
returns g c = least g.M.Message.reading
