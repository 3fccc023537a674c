-- The leaf nodes that cover a tree: each place of the tree's set lies in the set of one of them.
use Rattle.std.specs.Prelude.{ℕ, ◌+◌, Bool, false, cond, ◌||◌, List, length, ◌==◌, nat_le}
use Rattle.trees.specs.declared.node.Operation.{Operation}
use Rattle.trees.specs.declared.node.Operation.TheVariants.{Union, Both, Less, Differ}
use Rattle.trees.specs.declared.node.Node.{Node}
use Rattle.trees.specs.Sets.{root_of}
use Rattle.trees.specs.Values.{Rule, value_at}
use Rattle.bounds.specs.Tightening.{passing}

-- What is known of a node: how many leaf nodes it is made of, and whether a node by its number is one of those that cover
-- it.
pub record Cover : Type 0 where
  pub leaves : ℕ
  pub covers : ℕ → Bool

-- An inner node is covered by what covers its children: for union and differ by both, for less by the left one, and for
-- both by the one that has fewer leaf nodes, the left one if they have as many.
abbrev pub covers_inner : Operation → Cover → Cover → ℕ → Bool
covers_inner Union a b j = a.covers j || b.covers j
covers_inner Both a b j = cond (nat_le a.leaves b.leaves) (a.covers j) (b.covers j)
covers_inner Less a b j = a.covers j
covers_inner Differ a b j = a.covers j || b.covers j

-- A leaf node is one leaf node and is covered by itself.
abbrev pub cover_rule : Rule Node Cover
cover_rule = record {
  node = λ n. n;
  leaf = λ i n k. record { leaves = 1; covers = λ j. (i == j) };
  inner = λ n o a b. record { leaves = a.leaves + b.leaves; covers = covers_inner o a b };
  none = record { leaves = 0; covers = λ j. false };
}

-- What is known of the node at a number.
abbrev pub cover_at : List Node → ℕ → Cover
cover_at nodes i = value_at cover_rule nodes i

-- The covering leaves of a tree, which are those of its root, in node order.
abbrev pub covering_leaves : List Node → List ℕ
covering_leaves nodes = passing (cover_at nodes (root_of nodes)).covers (length nodes)
