-- What trees with bounds and lists of covering leaves stand for.
use Rattle.std.specs.Prelude.{ℕ, cond, List, length, take, Some, None, Ok, Err, Option, Result, nat_lt, slice_index_or}
use Rattle.trees.specs.declared.fault.Fault.{Fault}
use Rattle.trees.specs.Faults.{Told, told_of}
use Rattle.bounds.specs.declared.bounded_node.BoundedNode.{BoundedNode}
use Rattle.bounds.specs.declared.tree.BoundedTree.{BoundedTree}
use Rattle.bounds.specs.declared.covering_leaves.CoveringLeaves.{CoveringLeaves}
use Rattle.bounds.specs.Tables.{entries}

-- The nodes of a tree with their bounds.
abbrev pub nodes_of : BoundedTree → List BoundedNode
nodes_of t = entries t.table

-- The numbers of the covering leaves.
abbrev pub numbers_of : CoveringLeaves → List ℕ
numbers_of l = take l.count l.numbers

-- What stands at a number of a list, if anything does; the default is not read.
abbrev pub possible_at : {A : Type 0} → List A → ℕ → A → Option A
possible_at items i d = cond (nat_lt i (length items)) (Some (slice_index_or items i d)) None

-- An answer with what is told of its fault in the place of the fault, and a tree's nodes in the place of the tree.
abbrev pub told_tree : Result BoundedTree Fault → Result (List BoundedNode) Told
told_tree (Ok t) = Ok (nodes_of t)
told_tree (Err f) = Err (told_of f)
