use Rattle.rules.proofs.FrameLaws.{frame}
use Rattle.rules.proofs.framing.call_changes_what_its_rule_names.Goals as goal

pub returns : goal.returns
returns g c = frame g.M.Message.reading
