use Rattle.std.proofs.Common.{◌≡◌, length}
use Rattle.bounds.specs.Tightening.{downward}
use Rattle.bounds.specs.Trees.{nodes_of}
use Rattle.bounds.proofs.tree.BoundedTree.cut_downward.Given as goal

abbrev pub invariant-loop-number : goal.invariant-loop-number
invariant-loop-number l =
    (downward l.number (nodes_of l.self) ≡ downward (length (nodes_of l.initial.self)) (nodes_of l.initial.self)) × (length (nodes_of l.self) ≡ length (nodes_of l.initial.self))
