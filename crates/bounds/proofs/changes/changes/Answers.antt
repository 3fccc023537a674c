use Rattle.std.proofs.Common.{◌∙◌, rules, tests}
use Rattle.std.proofs.lemmas.Iterator.{YieldsList-from_slice, YieldsList-from_zip}
use Rattle.std.proofs.lemmas.Iterator.Consumers.{count_from_yields_List, YieldsList-from_filter, YieldsList-at}
use Rattle.bounds.proofs.TightenLaws.{is_other, changed_count}
use Rattle.bounds.proofs.changes.changes.Goals as goal

pub returns : goal.returns
returns c =
    count_from_yields_List _ _ c.count.ensures.ran (YieldsList-from_filter _ is_other (YieldsList-at c.filter.ensures.source (YieldsList-from_zip (YieldsList-from_slice c.args.before.now cc) (YieldsList-from_slice c.args.after.now cc))) c.filter.ensures.closure (λ x r q k. search (rules, tests)))
    ∙ changed_count c.args.before.now c.args.after.now c.requires.alike
