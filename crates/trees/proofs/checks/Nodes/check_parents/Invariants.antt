use Rattle.std.proofs.Common.{◌≡◌, ◌-◌, length}
use Rattle.trees.specs.Nodes.{nodes_from}
use Rattle.trees.specs.Checks.{parent_faults}
use Rattle.trees.proofs.checks.Nodes.check_parents.Given as goal

-- the first fault of the nodes still to come is the first of all
abbrev pub invariant-loop-child : goal.invariant-loop-child
invariant-loop-child l =
    parent_faults (nodes_from l.self.nodes.now) l.child (length l.self.nodes.now - 1 - l.child)
    ≡ parent_faults (nodes_from l.self.nodes.now) 0 (length l.self.nodes.now - 1)
