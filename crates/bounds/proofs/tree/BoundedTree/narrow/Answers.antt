use Rattle.std.proofs.Common.{rules}
use Rattle.bounds.specs.Tables.{Good}
use Rattle.bounds.proofs.SetLaws.{good_narrowed}
use Rattle.bounds.proofs.tree.BoundedTree.narrow.Goals as goal

pub invariant_of-self : goal.invariant_of-self
invariant_of-self c =
    let good : Good c.narrow.new.self = search (rules, good_narrowed) in
    record { some = good.some; few = good.few; whole = good.whole; below = good.below; parents = good.parents }
