-- What holds of bounds, tightening, covering leaves and judgement, in terms of places.
use Rattle.std.specs.Prelude.{◌≡◌, ℕ, ◌<◌, true, ◌&&◌, ◌↔◌, List, length, Ok, Err, Option, Result, ◌≢◌}
use Rattle.grid.specs.declared.cell.Cell.{Cell}
use Rattle.grid.specs.declared.place.Place.{Place}
use Rattle.grid.specs.Cells.{inside}
use Rattle.grid.specs.Laws.{Holds, Part}
use Rattle.pattern.specs.Sets.{PlaceSet}
use Rattle.pattern.specs.Banks.{Meaning}
use Rattle.trees.specs.declared.bare.BareNode.{BareNode}
use Rattle.trees.specs.declared.node.Operation.{Operation}
use Rattle.trees.specs.declared.node.Node.TheVariants.{Leaf, Inner}
use Rattle.trees.specs.Nodes.{nodes_from, node_at}
use Rattle.trees.specs.Sets.{tree_set, root_of}
use Rattle.trees.specs.Faults.{Told}
use Rattle.trees.specs.Checks.{First, Sound}
use Rattle.bounds.specs.declared.bounded_node.BoundedNode.{BoundedNode}
use Rattle.bounds.specs.Tables.{nodes_in, bound_at, cut_both}
use Rattle.bounds.specs.Sets.{root_set}
use Rattle.bounds.specs.Tightening.{reach, Among, changed_nodes}
use Rattle.bounds.specs.Covering.{covering_leaves}

-- A refused tree is refused with its first fault. An accepted one is sound, and with the first bounds the bounded set of
-- its root is the tree's set within the workspace.
abbrev pub FirstLaw : Meaning → Cell → List BareNode → Result (List BoundedNode) Told → Type 0
FirstLaw m workspace bare (Ok table) = Sound (length m.sets) bare × ((p : Place) → root_set m.sets table p ≡ (inside p workspace && tree_set m.sets (nodes_from bare) p))
FirstLaw m workspace bare (Err t) = First (length m.sets) bare t

-- What the bounds are after a tightening, node by node. Upward, a leaf node keeps its bound, and an inner node's is cut by
-- what the bounds of its children leave it. Downward, the root keeps that, and each child's is cut by its parent's.
pub record Tightened (before after : List BoundedNode) : Type 0 where
  pub risen : ℕ → Option Cell
  pub leaf : (i k : ℕ) → i < length before → node_at (nodes_in before) i ≡ Leaf k → risen i ≡ bound_at before i
  pub inner : (i : ℕ) (o : Operation) (l r : ℕ) → i < length before → node_at (nodes_in before) i ≡ Inner o l r → risen i ≡ cut_both (bound_at before i) (reach o (risen l) (risen r))
  pub root : bound_at after (root_of before) ≡ risen (root_of before)
  pub children : (i : ℕ) (o : Operation) (l r : ℕ) → i < length before → node_at (nodes_in before) i ≡ Inner o l r → (bound_at after l ≡ cut_both (risen l) (bound_at after i)) × (bound_at after r ≡ cut_both (risen r) (bound_at after i))

-- A tightening leaves the nodes as they are. It only narrows bounds. The bounded set of the root has just the places that
-- it had, whatever the leaves' sets are. The nodes told as changed are just those with another bound than before. And the
-- bounds are those of the rule.
pub record TightenLaw (before after : List BoundedNode) : Type 0 where
  pub nodes : nodes_in after ≡ nodes_in before
  pub narrows : (i : ℕ) → Part (bound_at after i) (bound_at before i)
  pub keeps : (sets : List PlaceSet) (p : Place) → root_set sets after p ≡ root_set sets before p
  pub changed : (i : ℕ) → Among i (changed_nodes before after) ↔ ((i < length before) × (bound_at before i ≢ bound_at after i))
  pub rule : Tightened before after

-- The covering leaves are leaf nodes, and each place of the root's bounded set lies in the bound of one of them, whatever
-- the leaves' sets are.
pub record CoverLaw (table : List BoundedNode) : Type 0 where
  pub leaf : (i : ℕ) → Among i (covering_leaves (nodes_in table)) → (k : ℕ) × (node_at (nodes_in table) i ≡ Leaf k)
  pub covered : (sets : List PlaceSet) (p : Place) → root_set sets table p ≡ true → (i : ℕ) × (Among i (covering_leaves (nodes_in table)) × Holds (bound_at table i) p)
