use Rattle.rules.proofs.OrderLaws.{served_in_order}
use Rattle.rules.proofs.framing.waiting_tasks_are_served_in_order.Goals as goal

pub returns : goal.returns
returns g c = served_in_order g.M.Message.reading
