-- Tables of nodes with their bounds, and how a bound is narrowed.
use Rattle.std.specs.Prelude.{◌≡◌, ℕ, suc, ◌<◌, ◌≤◌, true, List, map, length, get_or, take, Some, None, Option, slice_index_or, slice_set}
use Rattle.grid.specs.declared.cell.Cell.{Cell}
use Rattle.grid.specs.Cells.{cut_of}
use Rattle.trees.specs.declared.node.Node.{Node}
use Rattle.trees.specs.declared.node.Node.TheVariants.{Leaf}
use Rattle.trees.specs.Nodes.{node_at, children_below, times_named}
use Rattle.bounds.specs.declared.bounded_node.BoundedNode.{BoundedNode}
use Rattle.bounds.specs.declared.table.NodeTable.{NodeTable}

-- The nodes that a table has, with their bounds; slots behind them say nothing.
abbrev pub entries : NodeTable → List BoundedNode
entries t = take t.count t.nodes

-- The nodes without their bounds.
abbrev pub nodes_in : List BoundedNode → List Node
nodes_in = map (λ e. e.node)

-- What is read where there is no node; it is never read of a tree.
abbrev pub blank : BoundedNode
blank = record { node = Leaf 0; bound = None }

-- The bound of the node at a number.
abbrev pub bound_at : List BoundedNode → ℕ → Option Cell
bound_at table i = (get_or table i blank).bound

-- What two possible cells have in common.
abbrev pub cut_both : Option Cell → Option Cell → Option Cell
cut_both (Some a) (Some b) = cut_of a b
cut_both (Some a) None = None
cut_both None b = None

-- A node with its bound cut by another.
abbrev pub cut_node : BoundedNode → Option Cell → BoundedNode
cut_node e b = record { node = e.node; bound = cut_both e.bound b }

-- The table with the bound of one node cut by another.
abbrev pub narrowed : List BoundedNode → ℕ → Option Cell → List BoundedNode
narrowed table i b = slice_set table i (cut_node (slice_index_or table i blank) b)

-- A table that holds a tree: it has as many nodes as it counts, 1 to 127; a node names only nodes before it; and each node
-- but the last is named exactly once.
pub record Good (t : NodeTable) : Type 0 where
  pub some : 0 < t.count
  pub few : t.count ≤ 127
  pub whole : length (entries t) ≡ t.count
  pub below : (i : ℕ) → i < t.count → children_below i (node_at (nodes_in (entries t)) i) ≡ true
  pub parents : (child : ℕ) → suc child < t.count → times_named (nodes_in (entries t)) child ≡ 1
