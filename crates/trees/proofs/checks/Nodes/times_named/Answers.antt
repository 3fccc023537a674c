use Rattle.std.proofs.Common.{rules}
use Rattle.trees.proofs.SearchLaws.{times_named_from_sum}
use Rattle.trees.proofs.checks.Nodes.times_named.Goals as goal

pub returns : goal.returns
returns c = search (rules, times_named_from_sum)
