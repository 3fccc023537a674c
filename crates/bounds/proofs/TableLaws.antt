-- Tables and the nodes that they show. Assumes nothing.
use Rattle.std.proofs.Common.{◌≡◌, ℕ, ◌<◌, List, length, get_or, take, set, Option, sym, ap, ◌∙◌, arith, get_or-take}
use lib.Seq.{take-set-lt}
use Rattle.std.proofs.lemmas.List.{get_or_default, get_or-map, length-map}
use Rattle.grid.specs.declared.cell.Cell.{Cell}
use Rattle.trees.specs.declared.node.Operation.{Operation}
use Rattle.trees.specs.declared.node.Node.{Node}
use Rattle.trees.specs.declared.node.Node.TheVariants.{Leaf, Inner}
use Rattle.trees.specs.Nodes.{node_at, Tree}
use Rattle.trees.proofs.TreeLaws.{inner_below}
use Rattle.bounds.specs.declared.bounded_node.BoundedNode.{BoundedNode}
use Rattle.bounds.specs.declared.table.NodeTable.{NodeTable}
use Rattle.bounds.specs.declared.tree.BoundedTree.{BoundedTree}
use Rattle.bounds.specs.Trees.{nodes_of}
use Rattle.bounds.specs.Tables.{entries, nodes_in, blank, cut_node, narrowed, Good}

-- A node of the table is one of those that are shown.
pub shown_at : (nodes : List BoundedNode) (count i : ℕ) (d : BoundedNode) → i < count → i < length nodes → get_or nodes i d ≡ get_or (take count nodes) i blank
shown_at nodes count i d h k = get_or_default nodes i d blank k ∙ sym (get_or-take count nodes i blank h)

-- To narrow a node of the table is to narrow it among those that are shown.
pub shown_narrowed : (nodes : List BoundedNode) (count i : ℕ) (d v : BoundedNode) (b : Option Cell) → i < count → i < length nodes → v ≡ cut_node (get_or nodes i d) b → take count (set nodes i v) ≡ narrowed (take count nodes) i b
shown_narrowed nodes count i d v b h k is = take-set-lt count nodes i v h ∙ ap (set (take count nodes) i) (is ∙ ap (λ e. cut_node e b) (shown_at nodes count i d h k))

-- There are as many nodes without their bounds as with them.
pub nodes_count : (table : List BoundedNode) → length (nodes_in table) ≡ length table
nodes_count table = length-map table (λ e. e.node)

-- The node at a number, with and without its bound.
pub entry_node : (table : List BoundedNode) (i : ℕ) → i < length table → node_at (nodes_in table) i ≡ (get_or table i blank).node
entry_node table i h = get_or-map (λ e. e.node) table i blank (Leaf 0) h

-- Children have lower numbers than their node.
pub inner_lower : (table : List BoundedNode) → Tree (nodes_in table) → (i : ℕ) (o : Operation) (l r : ℕ) → i < length table → (get_or table i blank).node ≡ Inner o l r → (l < i) × (r < i)
inner_lower table tree i o l r h is = inner_below (nodes_in table) tree i o l r (omega (arith, nodes_count table)) (entry_node table i h ∙ is)

-- The nodes of a checked tree are those of a tree.
pub tree_of : (t : BoundedTree) → Tree (nodes_in (nodes_of t))
tree_of t =
    let long = nodes_count (nodes_of t) in
    record {
      some = omega (arith, t.some, t.whole);
      few = omega (arith, t.few, t.whole);
      below = λ i h. t.below i (omega (arith, t.whole));
      parents = λ child h. t.parents child (omega (arith, t.whole));
    }

-- A table with the nodes of a tree, as many as it counts, is one that a checked tree may keep.
pub good_from : (t : NodeTable) → Tree (nodes_in (entries t)) → length (entries t) ≡ t.count → Good t
good_from t tree whole =
    let long = nodes_count (entries t) in
    record {
      some = omega (arith, tree.some);
      few = omega (arith, tree.few);
      whole = whole;
      below = λ i h. tree.below i (omega arith);
      parents = λ child h. tree.parents child (omega arith);
    }

-- A node that was read from a table.
module _ (table : List BoundedNode) (i : ℕ) (h : i < length table) where
  pub seen_here : i < length (nodes_in table)
  seen_here = omega (arith, nodes_count table)

  pub seen_node : (e : BoundedNode) (n : Node) → e ≡ get_or table i blank → e.node ≡ n → node_at (nodes_in table) i ≡ n
  seen_node e n read is = entry_node table i h ∙ ap (λ x. x.node) (sym read) ∙ is

-- The children of a node that was read from a checked tree have lower numbers.
pub seen_below : (t : BoundedTree) (i : ℕ) → i < length (nodes_of t) → (e : BoundedNode) → e ≡ get_or (nodes_of t) i blank → (o : Operation) (l r : ℕ) → e.node ≡ Inner o l r → (l < i) × (r < i)
seen_below t i h e read o l r is = inner_lower (nodes_of t) (tree_of t) i o l r h (ap (λ x. x.node) (sym read) ∙ is)
