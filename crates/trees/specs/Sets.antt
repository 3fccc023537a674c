-- The sets of the nodes of a tree.
use Rattle.std.specs.Prelude.{ℕ, ◌-◌, Bool, true, cond, not, ◌&&◌, ◌||◌, List, length}
use Rattle.pattern.specs.Sets.{PlaceSet, nowhere, leaf_set}
use Rattle.trees.specs.declared.node.Operation.{Operation}
use Rattle.trees.specs.declared.node.Operation.TheVariants.{Union, Both, Less, Differ}
use Rattle.trees.specs.declared.node.Node.{Node}
use Rattle.trees.specs.Values.{Rule, value_at}

-- Whether a place is in the set that an operation makes of two others, from whether it is in these.
abbrev pub joins : Operation → Bool → Bool → Bool
joins Union a b = a || b
joins Both a b = a && b
joins Less a b = a && not b
joins Differ a b = cond a (not b) b

-- Whether that depends on the second set, once it is known whether the place is in the first.
abbrev pub asks : Operation → Bool → Bool
asks Union a = not a
asks Both a = a
asks Less a = a
asks Differ a = true

-- The set that an operation makes of two others: their union, their intersection, the left without the right, or the
-- places that are in just one.
abbrev pub join_sets : Operation → PlaceSet → PlaceSet → PlaceSet
join_sets o s t p = joins o (s p) (t p)

-- The set of a leaf node is that of the leaf it names, and that of an inner node is made of its children's by the
-- operation.
abbrev pub set_rule : List PlaceSet → Rule Node PlaceSet
set_rule sets = record { node = λ n. n; leaf = λ i n k. leaf_set sets k; inner = λ n o s t. join_sets o s t; none = nowhere }

-- The set of a node by its number.
abbrev pub node_set : List PlaceSet → List Node → ℕ → PlaceSet
node_set sets nodes i = value_at (set_rule sets) nodes i

-- The number of the root, which is the last node.
abbrev pub root_of : {A : Type 0} → List A → ℕ
root_of nodes = length nodes - 1

-- A tree stands for the set of its root.
abbrev pub tree_set : List PlaceSet → List Node → PlaceSet
tree_set sets nodes = node_set sets nodes (root_of nodes)
