-- Tightening: the bounds of a tree narrowed by one another.
use Rattle.std.specs.Prelude.{◌≡◌, ℕ, zero, suc, Bool, true, false, cond, not, ◌&&◌, ◌⊎◌, List, [], ◌∷◌, ◌++◌, length, Some, None, Option, slice_index_or}
use Rattle.grid.specs.declared.cell.Cell.{Cell}
use Rattle.grid.specs.Cells.{within, hull_of}
use Rattle.trees.specs.declared.node.Operation.{Operation}
use Rattle.trees.specs.declared.node.Operation.TheVariants.{Union, Both, Less, Differ}
use Rattle.trees.specs.declared.node.Node.{Node}
use Rattle.trees.specs.declared.node.Node.TheVariants.{Leaf, Inner}
use Rattle.bounds.specs.declared.bounded_node.BoundedNode.{BoundedNode}
use Rattle.bounds.specs.Tables.{blank, bound_at, cut_both, narrowed}

-- Where the set of an inner node can lie at all, by the bounds of its children: for union and differ in their hull, for
-- both in each of them, for less in the left one.
abbrev pub reach : Operation → Option Cell → Option Cell → Option Cell
reach Union a b = hull_of a b
reach Both a b = cut_both a b
reach Less a b = a
reach Differ a b = hull_of a b

-- The node at the number i cut by what its children's bounds leave it; a leaf node has no children.
abbrev pub cut_by_children : Node → ℕ → List BoundedNode → List BoundedNode
cut_by_children (Leaf k) i table = table
cut_by_children (Inner o l r) i table = narrowed table i (reach o (bound_at table l) (bound_at table r))

-- The children of the node at the number i cut by its bound.
abbrev pub cut_children : Node → ℕ → List BoundedNode → List BoundedNode
cut_children (Leaf k) i table = table
cut_children (Inner o l r) i table = narrowed (narrowed table l (bound_at table i)) r (bound_at table i)

-- The first n nodes cut by their children, in rising order.
unfoldable pub upward : ℕ → List BoundedNode → List BoundedNode
upward zero table = table
upward (suc n) table = cut_by_children (slice_index_or (upward n table) n blank).node n (upward n table)

-- The children of the first n nodes cut by them, in falling order.
unfoldable pub downward : ℕ → List BoundedNode → List BoundedNode
downward zero table = table
downward (suc n) table = downward n (cut_children (slice_index_or table n blank).node n table)

-- A tightening: upward, and then downward.
abbrev pub tightened : List BoundedNode → List BoundedNode
tightened table = downward (length table) (upward (length table) table)

-- Whether two bounds are the same.
abbrev pub same_bound : Option Cell → Option Cell → Bool
same_bound (Some a) (Some b) = within a b && within b a
same_bound (Some a) None = false
same_bound None (Some b) = false
same_bound None None = true

-- Whether the node at a number has another bound than before.
abbrev pub is_changed : List BoundedNode → List BoundedNode → ℕ → Bool
is_changed before after i = not (same_bound (bound_at before i) (bound_at after i))

-- The numbers below n that pass a test, in rising order.
unfoldable pub passing : (ℕ → Bool) → ℕ → List ℕ
passing test zero = []
passing test (suc n) = passing test n ++ cond (test n) (n ∷ []) []

-- The number stands in the list.
abbrev pub Among : ℕ → List ℕ → Type 0
Among k [] = ⊥
Among k (n ∷ rest) = (k ≡ n) ⊎ Among k rest

-- The nodes that have another bound than before, in rising order.
abbrev pub changed_nodes : List BoundedNode → List BoundedNode → List ℕ
changed_nodes before after = passing (is_changed before after) (length before)
