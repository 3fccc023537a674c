use Rattle.std.proofs.Common.{rules}
use Rattle.bounds.proofs.MarkLaws.{gathered_told}
use Rattle.bounds.proofs.tree.BoundedTree.covering.Goals as goal

pub returns-clause-is : goal.returns-clause-is
returns-clause-is c = search (rules, gathered_told)
