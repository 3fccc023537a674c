-- The sets of the nodes of a tree, each cut by its bound.
use Rattle.std.specs.Prelude.{ℕ, ◌&&◌, List, Option}
use Rattle.grid.specs.declared.cell.Cell.{Cell}
use Rattle.pattern.specs.Sets.{PlaceSet, nowhere, leaf_set}
use Rattle.pattern.specs.Relations.{box_set}
use Rattle.trees.specs.Sets.{join_sets, root_of}
use Rattle.trees.specs.Values.{Rule, value_at}
use Rattle.bounds.specs.declared.bounded_node.BoundedNode.{BoundedNode}

-- The places of a set that lie in a possible cell.
abbrev pub cut_set : Option Cell → PlaceSet → PlaceSet
cut_set b s p = box_set b p && s p

-- Sets with bounds: what lies beyond the bound of a node is left out there, before the node's parent is worked out.
abbrev pub bounded_rule : List PlaceSet → Rule BoundedNode PlaceSet
bounded_rule sets = record {
  node = λ e. e.node;
  leaf = λ i e k. cut_set e.bound (leaf_set sets k);
  inner = λ e o s t. cut_set e.bound (join_sets o s t);
  none = nowhere;
}

-- The bounded set of a node by its number.
abbrev pub bounded_set : List PlaceSet → List BoundedNode → ℕ → PlaceSet
bounded_set sets table i = value_at (bounded_rule sets) table i

-- The bounded set of the root.
abbrev pub root_set : List PlaceSet → List BoundedNode → PlaceSet
root_set sets table = bounded_set sets table (root_of table)
