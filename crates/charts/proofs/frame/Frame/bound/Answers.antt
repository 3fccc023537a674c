use Rattle.std.proofs.Common.{◌∙◌, rules, arith}
use Rattle.charts.proofs.BoundLaws.{bound_from}
use Rattle.charts.proofs.frame.Frame.bound.Goals as goal

pub returns : goal.returns
returns c = c.from_box.ensures.is ∙ bound_from c.args.self.now c.args.count c.saturating_add.result c.saturating_add-2.result (omega arith) (omega arith) (search rules) (search rules)
