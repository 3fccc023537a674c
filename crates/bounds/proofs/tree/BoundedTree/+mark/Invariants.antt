use Rattle.bounds.proofs.tree.BoundedTree.+mark.Given as goal

abbrev pub decreases-mark : goal.decreases-mark
decreases-mark l = l.number
