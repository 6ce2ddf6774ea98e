use Rattle.rules.proofs.RefusalLaws.{block_needed}
use Rattle.rules.proofs.refusing.sixteen_means_no_free_block.Goals as goal

pub returns : goal.returns
returns g c = block_needed g.M.Message.reading
