use Rattle.std.proofs.Common.{rules}
use Rattle.bounds.proofs.RuleLaws.{tighten_told}
use Rattle.bounds.proofs.tree.BoundedTree.tighten.Goals as goal

pub returns-clause-law : goal.returns-clause-law
returns-clause-law c = search (rules, tighten_told)
