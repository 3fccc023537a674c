use Rattle.std.proofs.Common.{◌≡◌, length}
use Rattle.bounds.specs.Tightening.{upward}
use Rattle.bounds.specs.Trees.{nodes_of}
use Rattle.bounds.proofs.tree.BoundedTree.cut_upward.Given as goal

abbrev pub invariant-loop-number : goal.invariant-loop-number
invariant-loop-number l = (nodes_of l.self ≡ upward l.number (nodes_of l.initial.self)) × (length (nodes_of l.self) ≡ length (nodes_of l.initial.self))
