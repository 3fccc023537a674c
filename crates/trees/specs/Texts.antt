-- How faults are printed.
use Rattle.std.specs.Prelude.{ℕ, List, ◌++◌, codes, decimal}
use Rattle.grid.specs.Texts.{reason_of}
use Rattle.trees.specs.declared.fault.Fault.{Fault}
use Rattle.trees.specs.declared.fault.Fault.TheVariants.{Numbers, NodeCount, UnknownOperation, ChildNotBelow, LeafMissing, ParentNotOne}
use Rattle.trees.specs.declared.node.UnknownOperation as unknown

-- A fault is printed as the reason for it, with the node that is at fault.
abbrev pub reason_for : Fault → List ℕ
reason_for (Numbers refusal) = reason_of refusal
reason_for NodeCount = codes "a tree has 1 to 127 nodes"
reason_for (UnknownOperation node) = codes "node " ++ decimal node ++ codes " has an unknown operation"
reason_for (ChildNotBelow node) = codes "node " ++ decimal node ++ codes " has a child not below it"
reason_for (LeafMissing node) = codes "node " ++ decimal node ++ codes " names a leaf that is missing"
reason_for (ParentNotOne node) = codes "node " ++ decimal node ++ codes " is not named just once"

-- An unknown operation is printed by its number.
abbrev pub told_operation : unknown.UnknownOperation → List ℕ
told_operation o = decimal o.0 ++ codes " is no operation"
