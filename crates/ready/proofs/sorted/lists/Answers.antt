use Rattle.std.proofs.Common.{eqb, ◌∙◌, rules, tests}
use Rattle.std.proofs.lemmas.Iterator.{YieldsList-from_slice}
use Rattle.std.proofs.lemmas.Iterator.Search.{any_from_yields_List}
use Rattle.ready.proofs.SortLaws.{list_any-task}
use Rattle.ready.proofs.sorted.lists.Goals as goal

pub returns : goal.returns
returns c =
    any_from_yields_List (λ x. eqb x.task c.args.task) _ _ _ c.any.ensures.ran (YieldsList-from_slice c.args.line.now cc)
    (λ x b f h. search (rules, tests))
    ∙ list_any-task c.args.task c.args.line.now
