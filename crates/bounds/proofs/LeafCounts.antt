-- A node of a tree is made of at most as many leaf nodes as there are nodes up to it. Assumes nothing.
use Rattle.std.proofs.Common.{◌≡◌, ℕ, zero, suc, ◌+◌, ◌*◌, ◌<◌, ◌≤◌, List, [], ◌∷◌, length, get_or, take, refl, ap, ⊎_elim, mul-le-mul_right, add-mul, arith}
use Rattle.std.proofs.lemmas.Bool.{cases_lt, cond-true, eq-eqb}
use Rattle.trees.specs.declared.node.Operation.{Operation}
use Rattle.trees.specs.declared.node.Node.{Node}
use Rattle.trees.specs.declared.node.Node.TheVariants.{Leaf, Inner}
use Rattle.trees.specs.Nodes.{node_at, once, names, times_named, Tree}
use Rattle.trees.proofs.TreeLaws.{inner_below}
use Rattle.trees.proofs.ValueLaws.{value_leaf, value_inner}
use Rattle.bounds.specs.declared.bounded_node.BoundedNode.{BoundedNode}
use Rattle.bounds.specs.declared.tree.BoundedTree.{BoundedTree}
use Rattle.bounds.specs.Tables.{nodes_in, blank}
use Rattle.bounds.specs.Covering.{Cover, cover_rule, cover_at}
use Rattle.bounds.specs.Trees.{nodes_of}
use Rattle.bounds.proofs.TableLaws.{tree_of, seen_here}
use Rattle.bounds.proofs.CoverLaws.{inner_count_told}

-- The nodes before number k name a child no more often than all do, and node k adds what it names itself.
front_few : (nodes : List Node) (k c : ℕ) → times_named (take k nodes) c ≤ times_named nodes c
front_few nodes zero c = omega arith
front_few [] (suc k) c = omega arith
front_few (n ∷ rest) (suc k) c = omega (arith, front_few rest k c)

front_more : (nodes : List Node) (k c : ℕ) → k < length nodes → times_named (take (suc k) nodes) c ≡ times_named (take k nodes) c + names (node_at nodes k) c
front_more [] k c h = absurd (omega arith)
front_more (n ∷ rest) zero c h = omega arith
front_more (n ∷ rest) (suc k) c h = omega (arith, front_more rest k c (omega arith))

module _ (f : ℕ → ℕ) where
  -- the sum of f over the numbers below n, each as often as it is named
  abbrev total : (ℕ → ℕ) → ℕ → ℕ
  total times zero = 0
  total times (suc n) = total times n + times n * f n

  total_le : (s t : ℕ → ℕ) (n : ℕ) → ((j : ℕ) → j < n → s j ≤ t j) → total s n ≤ total t n
  total_le s t zero h = omega arith
  total_le s t (suc n) h = omega (arith, total_le s t n (λ j l. h j (omega arith)), mul-le-mul_right (f n) (h n (omega arith)))

  total_add : (s t u : ℕ → ℕ) (n : ℕ) → ((j : ℕ) → u j ≡ s j + t j) → total u n ≡ total s n + total t n
  total_add s t u zero h = omega arith
  total_add s t u (suc n) h = omega (arith, total_add s t u n h, ap (λ m. m * f n) (h n), add-mul (s n) (t n) (f n))

  total_once : (c n : ℕ) → c < n → f c ≤ total (once c) n
  total_once c zero h = absurd (omega arith)
  total_once c (suc n) h =
      ⊎_elim
      (λ l. omega (arith, total_once c n l))
      (λ l. let e : c ≡ n = omega arith in omega (arith, ap f e, ap (λ m. m * f n) (cond-true _ 1 0 (eq-eqb c n e))))
      (cases_lt c n)

-- How many leaf nodes the node at a number is made of.
abbrev leaves : List Node → ℕ → ℕ
leaves nodes j = (cover_at nodes j).leaves

module _ (nodes : List Node) (tree : Tree nodes) where
  -- A node is made of one leaf node, or of those of the children that it names.
  leaves_at : (k n : ℕ) (node : Node) → k < length nodes → k ≤ n → node_at nodes k ≡ node → leaves nodes k ≤ 1 + total (leaves nodes) (names node) n
  leaves_at k n (Leaf a) h m is = omega (arith, ap (λ (c : Cover). c.leaves) (value_leaf cover_rule nodes k a (Leaf 0) h is))
  leaves_at k n (Inner o l r) h m is =
      let below = inner_below nodes tree k o l r h is in
      omega (
        arith,
        ap (λ (c : Cover). c.leaves) (value_inner cover_rule nodes k o l r (Leaf 0) h is below.0 below.1),
        total_add (leaves nodes) (once l) (once r) (names (Inner o l r)) n (λ j. refl),
        total_once (leaves nodes) l n (omega arith),
        total_once (leaves nodes) r n (omega arith),
      )

  -- Over the nodes before number k: their leaf nodes are at most k more than those of the children that they name.
  leaves_front : (k n : ℕ) → k ≤ length nodes → k ≤ suc n → total (leaves nodes) (λ j. 1) k ≤ k + total (leaves nodes) (times_named (take k nodes)) n
  leaves_front zero n h m = omega arith
  leaves_front (suc k) n h m =
      omega (
        arith,
        leaves_front k n (omega arith) (omega arith),
        leaves_at k n (node_at nodes k) (omega arith) (omega arith) refl,
        total_add (leaves nodes) (times_named (take k nodes)) (names (node_at nodes k)) (times_named (take (suc k) nodes)) n (λ j. front_more nodes k j (omega arith)),
      )

-- A node is made of at most as many leaf nodes as there are nodes up to it: those nodes name only lower ones, each at most
-- once.
pub leaves_few : (nodes : List Node) → Tree nodes → (i : ℕ) → i < length nodes → (cover_at nodes i).leaves ≤ i + 1
leaves_few nodes tree i h =
    omega (
      arith,
      leaves_front nodes tree (suc i) i (omega arith) (omega arith),
      total_le (leaves nodes) (times_named (take (suc i) nodes)) (λ j. 1) i (λ j l. omega (arith, front_few nodes (suc i) j, tree.parents j (omega arith))),
    )

pub inner_few : (t : BoundedTree) (i : ℕ) → i < length (nodes_of t) → (e : BoundedNode) → e ≡ get_or (nodes_of t) i blank → (o : Operation) (l r m n : ℕ) → e.node ≡ Inner o l r → m ≡ (cover_at (nodes_in (nodes_of t)) l).leaves → n ≡ (cover_at (nodes_in (nodes_of t)) r).leaves → m + n ≤ i + 1
inner_few t i h e read o l r m n is left right =
    omega (arith, inner_count_told t i h e read o l r m n is left right, leaves_few (nodes_in (nodes_of t)) (tree_of t) i (seen_here (nodes_of t) i h))
