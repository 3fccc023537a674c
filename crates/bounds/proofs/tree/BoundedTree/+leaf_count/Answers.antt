use Rattle.std.proofs.Common.{rules}
use Rattle.bounds.proofs.CoverLaws.{leaf_count_told, inner_count_told}
use Rattle.bounds.proofs.LeafCounts.{inner_few}
use Rattle.bounds.proofs.tree.BoundedTree.+leaf_count.Goals as goal

pub returns-in-Leaf-clause-is : goal.returns-in-Leaf-clause-is
returns-in-Leaf-clause-is t c = search (rules, leaf_count_told)

pub returns-in-Inner-clause-is : goal.returns-in-Inner-clause-is
returns-in-Inner-clause-is t c = search (rules, inner_count_told)

pub returns-in-Inner-clause-few : goal.returns-in-Inner-clause-few
returns-in-Inner-clause-few t c = search (rules, inner_few)
