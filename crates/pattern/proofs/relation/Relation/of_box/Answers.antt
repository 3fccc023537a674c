use Rattle.std.proofs.Common.{rules}
use Rattle.pattern.proofs.BoxLaws.{box_told}
use Rattle.pattern.proofs.relation.Relation.of_box.Goals as goal

pub returns-clause-exact : goal.returns-clause-exact
returns-clause-exact c = box_told c.args.part c.args.cell _ (search rules)
