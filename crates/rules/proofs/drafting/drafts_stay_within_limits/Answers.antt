use Rattle.rules.proofs.DraftLaws.{drafts_fit}
use Rattle.rules.proofs.drafting.drafts_stay_within_limits.Goals as goal

pub returns : goal.returns
returns c = drafts_fit
