-- The nodes of a tree: what bare numbers stand for, and the children that a node names.
use Rattle.std.specs.Prelude.{◌≡◌, ℕ, suc, ◌+◌, ◌<◌, ◌≤◌, Bool, true, cond, ◌&&◌, List, [], ◌∷◌, map, length, ◌==◌, nat_lt, slice_index_or, Ok, Err, Result}
use Rattle.trees.specs.declared.bare.BareNode.{BareNode}
use Rattle.trees.specs.declared.node.Operation.{Operation}
use Rattle.trees.specs.declared.node.Operation.TheVariants.{Union, Both, Less, Differ}
use Rattle.trees.specs.declared.node.Node.{Node}
use Rattle.trees.specs.declared.node.UnknownOperation.{UnknownOperation}
use Rattle.trees.specs.declared.node.Node.TheVariants.{Leaf, Inner}

-- The operation by its number, which is 1 to 4.
abbrev pub operation_of : ℕ → Operation
operation_of n = cond (n == 1) Union (cond (n == 2) Both (cond (n == 3) Less Differ))

-- The node that bare numbers stand for, where the operation is 0 to 4.
abbrev pub node_from : BareNode → Node
node_from b = cond (b.operation == 0) (Leaf b.left) (Inner (operation_of b.operation) b.left b.right)

-- What a conversion of bare numbers gives: the node that they stand for, or else the operation that is none of 0 to 4.
abbrev pub Converts : BareNode → Result Node UnknownOperation → Type 0
Converts b r = r ≡ cond (nat_lt 4 b.operation) (Err (record { 0 = b.operation })) (Ok (node_from b))

-- The nodes that a tree has, in order.
abbrev pub nodes_from : List BareNode → List Node
nodes_from = map node_from

-- The node at a number. The default is never read of a tree.
abbrev pub node_at : List Node → ℕ → Node
node_at nodes i = slice_index_or nodes i (Leaf 0)

-- Both children have numbers below i; a leaf node has no children.
abbrev pub children_below : ℕ → Node → Bool
children_below i (Leaf k) = true
children_below i (Inner o l r) = nat_lt l i && nat_lt r i

-- 1 if two numbers are the same, else 0.
abbrev pub once : ℕ → ℕ → ℕ
once a b = cond (a == b) 1 0

-- How often a node names another as its child.
abbrev pub names : Node → ℕ → ℕ
names (Leaf k) child = 0
names (Inner o l r) child = once l child + once r child

-- How often the nodes name another as a child.
abbrev pub times_named : List Node → ℕ → ℕ
times_named [] child = 0
times_named (n ∷ rest) child = names n child + times_named rest child

-- What holds of the nodes of every tree: there are 1 to 127; a node names only nodes before it; and each of them is named
-- exactly once, but for the last, which is the root.
pub record Tree (nodes : List Node) : Type 0 where
  pub some : 0 < length nodes
  pub few : length nodes ≤ 127
  pub below : (i : ℕ) → i < length nodes → children_below i (node_at nodes i) ≡ true
  pub parents : (child : ℕ) → suc child < length nodes → times_named nodes child ≡ 1
