use Rattle.bounds.proofs.tree.BoundedTree.+judge_at.Given as goal

abbrev pub decreases-judge_at : goal.decreases-judge_at
decreases-judge_at g l = l.number
