use Rattle.std.proofs.Common.{◌≡◌, drop}
use Rattle.trees.specs.Checks.{node_faults}
use Rattle.trees.proofs.checks.Nodes.check_nodes.Given as goal

-- the first fault of the nodes still to come is the first of all
abbrev pub invariant-loop-number : goal.invariant-loop-number
invariant-loop-number l = node_faults l.leaves l.number (drop l.number l.self.nodes.now) ≡ node_faults l.leaves 0 l.self.nodes.now
