use Rattle.std.proofs.Common.{rules}
use Rattle.bounds.proofs.FirstLaws.{filled_more}
use Rattle.bounds.proofs.first.FirstBounds.table.Goals as goal

pub loop-number-preserved : goal.loop-number-preserved
loop-number-preserved g c = (search (rules, filled_more), c.loop-number.invariant.1, search rules)
