-- The first bounds of a tree.
use Rattle.std.specs.Prelude.{List, map, Some, Option}
use Rattle.grid.specs.declared.cell.Cell.{Cell}
use Rattle.pattern.specs.Banks.{Meaning}
use Rattle.trees.specs.declared.bare.BareNode.{BareNode}
use Rattle.trees.specs.declared.node.Node.{Node}
use Rattle.trees.specs.declared.node.Node.TheVariants.{Leaf, Inner}
use Rattle.trees.specs.Nodes.{node_from}
use Rattle.bounds.specs.declared.bounded_node.BoundedNode.{BoundedNode}
use Rattle.bounds.specs.Tables.{cut_both}

-- The first bound of a leaf node is its leaf's, cut by the workspace; that of an inner node is the workspace.
abbrev pub first_bound : Meaning → Cell → Node → Option Cell
first_bound m workspace (Leaf k) = cut_both (m.bound k) (Some workspace)
first_bound m workspace (Inner o l r) = Some workspace

-- A node with its first bound.
abbrev pub first_node : Meaning → Cell → Node → BoundedNode
first_node m workspace n = record { node = n; bound = first_bound m workspace n }

-- The nodes of a tree with their first bounds.
abbrev pub first_bounds : Meaning → Cell → List BareNode → List BoundedNode
first_bounds m workspace = map (λ b. first_node m workspace (node_from b))
