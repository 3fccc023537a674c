-- What covers a node, and that it does. Assumes nothing.
use Rattle.std.proofs.Common.{◌≡◌, ℕ, ◌+◌, ◌<◌, Bool, true, false, ◌&&◌, eqb, leb, ◌⊎◌, List, length, get_or, sym, refl, ap, ◌∙◌, inl, inr, ⊎_elim, arith}
use Rattle.std.proofs.lemmas.Bool.{and_parts, or_cases, or_left, or_right, eqb-true, eq-eqb, cases_Bool, cond_both, cond-true, cond-false}
use Rattle.grid.specs.declared.place.Place.{Place}
use Rattle.grid.specs.Laws.{Holds}
use Rattle.pattern.specs.Sets.{PlaceSet}
use Rattle.pattern.specs.Relations.{box_set}
use Rattle.trees.specs.declared.node.Operation.{Operation}
use Rattle.trees.specs.declared.node.Operation.TheVariants.{Union, Both, Less, Differ}
use Rattle.trees.specs.declared.node.Node.{Node}
use Rattle.trees.specs.declared.node.Node.TheVariants.{Leaf, Inner}
use Rattle.trees.specs.Nodes.{Tree, node_at}
use Rattle.trees.specs.Sets.{joins, root_of}
use Rattle.trees.proofs.ValueLaws.{rising, value_leaf, value_inner}
use Rattle.trees.proofs.TreeLaws.{inner_below}
use Rattle.bounds.specs.declared.bounded_node.BoundedNode.{BoundedNode}
use Rattle.bounds.specs.declared.tree.BoundedTree.{BoundedTree}
use Rattle.bounds.specs.Trees.{nodes_of}
use Rattle.bounds.specs.Tables.{nodes_in, blank, bound_at}
use Rattle.bounds.specs.Covering.{Cover, covers_inner, cover_rule, cover_at}
use Rattle.bounds.specs.Laws.{CoverLaw}
use Rattle.bounds.proofs.TableLaws.{nodes_count, entry_node, inner_lower, tree_of, seen_here, seen_node}
use Rattle.bounds.proofs.PassingLaws.{passing_just}
use Rattle.bounds.proofs.SetLaws.{node_in, uncut, has, has_is, has_in}

-- what is known of a leaf node, and of an inner node
module _ (nodes : List Node) (i : ℕ) (h : i < length nodes) where
  pub leaf_count : (k : ℕ) → node_at nodes i ≡ Leaf k → (cover_at nodes i).leaves ≡ 1
  leaf_count k is = ap (λ (c : Cover). c.leaves) (value_leaf cover_rule nodes i k (Leaf 0) h is)

  pub leaf_covers : (k : ℕ) → node_at nodes i ≡ Leaf k → (j : ℕ) → (cover_at nodes i).covers j ≡ eqb i j
  leaf_covers k is j = ap (λ (c : Cover). c.covers j) (value_leaf cover_rule nodes i k (Leaf 0) h is)

  module _ (tree : Tree nodes) (o : Operation) (l r : ℕ) (is : node_at nodes i ≡ Inner o l r) where
    inner_cover : cover_at nodes i ≡ record { leaves = (cover_at nodes l).leaves + (cover_at nodes r).leaves; covers = covers_inner o (cover_at nodes l) (cover_at nodes r) }
    inner_cover = let below = inner_below nodes tree i o l r h is in value_inner cover_rule nodes i o l r (Leaf 0) h is below.0 below.1

    pub inner_count : (cover_at nodes i).leaves ≡ (cover_at nodes l).leaves + (cover_at nodes r).leaves
    inner_count = ap (λ (c : Cover). c.leaves) inner_cover

    pub inner_covers : (j : ℕ) → (cover_at nodes i).covers j ≡ covers_inner o (cover_at nodes l) (cover_at nodes r) j
    inner_covers j = ap (λ (c : Cover). c.covers j) inner_cover

-- How many leaf nodes a node is made of that was read from a checked tree.
module _ (t : BoundedTree) (i : ℕ) (h : i < length (nodes_of t)) (e : BoundedNode) (read : e ≡ get_or (nodes_of t) i blank) where
  pub leaf_count_told : (k : ℕ) → e.node ≡ Leaf k → 1 ≡ (cover_at (nodes_in (nodes_of t)) i).leaves
  leaf_count_told k is = sym (leaf_count (nodes_in (nodes_of t)) i (seen_here (nodes_of t) i h) k (seen_node (nodes_of t) i h e (Leaf k) read is))

  pub inner_count_told : (o : Operation) (l r m n : ℕ) → e.node ≡ Inner o l r → m ≡ (cover_at (nodes_in (nodes_of t)) l).leaves → n ≡ (cover_at (nodes_in (nodes_of t)) r).leaves → m + n ≡ (cover_at (nodes_in (nodes_of t)) i).leaves
  inner_count_told o l r m n is left right = omega (arith, left, right, inner_count (nodes_in (nodes_of t)) i (seen_here (nodes_of t) i h) (tree_of t) o l r (seen_node (nodes_of t) i h e (Inner o l r) read is))

-- what covers an inner node covers one of its children
covers_from : (o : Operation) (a b : Cover) (j : ℕ) → covers_inner o a b j ≡ true → (a.covers j ≡ true) ⊎ (b.covers j ≡ true)
covers_from Union a b j t = or_cases (a.covers j) (b.covers j) t
covers_from Both a b j t = cond_both (leb a.leaves b.leaves) (a.covers j) (b.covers j) (λ x. x ≡ true → (a.covers j ≡ true) ⊎ (b.covers j ≡ true)) (λ _ e. inl e) (λ _ e. inr e) t
covers_from Less a b j t = inl t
covers_from Differ a b j t = or_cases (a.covers j) (b.covers j) t

-- of the children whose sets have a place, one is such that what covers it covers the node
abbrev Serves : Operation → Cover → Cover → Cover → Type 0
Serves o a b c = (j : ℕ) → c.covers j ≡ true → covers_inner o a b j ≡ true

covers_by : (o : Operation) (a b : Cover) (s t : Bool) → joins o s t ≡ true → ((s ≡ true) × Serves o a b a) ⊎ ((t ≡ true) × Serves o a b b)
covers_by Union a b s t e = ⊎_elim (λ h. inl (h, λ j c. or_left (a.covers j) (b.covers j) c)) (λ h. inr (h, λ j c. or_right (a.covers j) (b.covers j) c)) (or_cases s t e)
covers_by Both a b s t e =
    let h = and_parts s t e in
    ⊎_elim (λ f. inl (h.0, λ j c. cond-true (leb a.leaves b.leaves) (a.covers j) (b.covers j) f ∙ c)) (λ f. inr (h.1, λ j c. cond-false (leb a.leaves b.leaves) (a.covers j) (b.covers j) f ∙ c))
    (cases_Bool (leb a.leaves b.leaves))
covers_by Less a b s t e = inl ((and_parts s _ e).0, λ j c. c)
covers_by Differ a b true t e = inl (refl, λ j c. or_left (a.covers j) (b.covers j) c)
covers_by Differ a b false t e = inr (e, λ j c. or_right (a.covers j) (b.covers j) c)

-- covering leaves are leaf nodes
module _ (nodes : List Node) (tree : Tree nodes) (j : ℕ) where
  IsLeaf : ℕ → Type 0
  IsLeaf i = i < length nodes → (cover_at nodes i).covers j ≡ true → (k : ℕ) × (node_at nodes j ≡ Leaf k)

  leaf_node : (i : ℕ) → ((m : ℕ) → m < i → IsLeaf m) → i < length nodes → (cover_at nodes i).covers j ≡ true → (n : Node) → node_at nodes i ≡ n → (k : ℕ) × (node_at nodes j ≡ Leaf k)
  unfolding IsLeaf
  leaf_node i ih h t (Leaf k) is = (k, ap (node_at nodes) (sym (eqb-true i j (sym (leaf_covers nodes i h k is j) ∙ t))) ∙ is)
  leaf_node i ih h t (Inner o l r) is =
      let below = inner_below nodes tree i o l r h is in
      ⊎_elim (λ c. ih l below.0 (omega (arith, below.0)) c) (λ c. ih r below.1 (omega (arith, below.1)) c)
      (covers_from o (cover_at nodes l) (cover_at nodes r) j (sym (inner_covers nodes i h tree o l r is j) ∙ t))

  covering_leaf : (i : ℕ) → i < length nodes → (cover_at nodes i).covers j ≡ true → (k : ℕ) × (node_at nodes j ≡ Leaf k)
  unfolding IsLeaf
  covering_leaf = rising IsLeaf (λ i ih h t. leaf_node i ih h t (node_at nodes i) refl)

-- each place of a node's bounded set lies in the bound of a leaf node that covers it
module _ (table : List BoundedNode) (tree : Tree (nodes_in table)) (sets : List PlaceSet) (p : Place) where
  Covered : ℕ → Type 0
  Covered i = (j : ℕ) × (j < length table) × ((cover_at (nodes_in table) i).covers j ≡ true) × Holds (bound_at table j) p

  covered_node : (i : ℕ) → ((m : ℕ) → m < i → m < length table → has sets p table m ≡ true → Covered m) → i < length table → has sets p table i ≡ true → (n : Node) → node_in table i ≡ n → Covered i
  unfolding Covered
  covered_node i ih h t (Leaf k) is =
      let long = nodes_count table in
      (i, h, leaf_covers (nodes_in table) i (omega arith) k (entry_node table i h ∙ is) i ∙ eq-eqb i i refl, has_in sets p table tree i h t)
  covered_node i ih h t (Inner o l r) is =
      let long = nodes_count table in
      let lower = inner_lower table tree i o l r h is in
      let join = (and_parts (box_set (bound_at table i) p) (joins o (has sets p table l) (has sets p table r)) (ap (λ n. box_set (bound_at table i) p && uncut sets p n (has sets p table)) (sym is) ∙ sym (has_is sets p table tree i h) ∙ t)).1 in
      let covers = inner_covers (nodes_in table) i (omega arith) tree o l r (entry_node table i h ∙ is) in
      ⊎_elim
      (λ s. let c = ih l lower.0 (omega (arith, lower.0)) s.0 in (c.0, c.1, covers c.0 ∙ s.1 c.0 c.2, c.3))
      (λ s. let c = ih r lower.1 (omega (arith, lower.1)) s.0 in (c.0, c.1, covers c.0 ∙ s.1 c.0 c.2, c.3))
      (covers_by o (cover_at (nodes_in table) l) (cover_at (nodes_in table) r) (has sets p table l) (has sets p table r) join)

  covered_by : (i : ℕ) → i < length table → has sets p table i ≡ true → Covered i
  covered_by = rising (λ i. i < length table → has sets p table i ≡ true → Covered i) (λ i ih h t. covered_node i ih h t (node_in table i) refl)

pub cover_law : (table : List BoundedNode) → Tree (nodes_in table) → CoverLaw table
unfolding Covered
cover_law table tree =
    let nodes = nodes_in table in
    let long = nodes_count table in
    let root : root_of table ≡ root_of nodes = omega arith in
    let just = passing_just (cover_at nodes (root_of nodes)).covers (length nodes) in
    record {
      leaf = λ i among. covering_leaf nodes tree i (root_of nodes) (omega (arith, tree.some)) ((just i).0 among).1;
      covered = λ sets p c. let d = covered_by table tree sets p (root_of table) (omega (arith, tree.some)) c in (d.0, ((just d.0).1 (omega (arith, d.1), ap (λ n. (cover_at nodes n).covers d.0) (sym root) ∙ d.2), d.3));
    }

-- The same of a checked tree.
pub cover_told : (t : BoundedTree) → CoverLaw (nodes_of t)
cover_told t = cover_law (nodes_of t) (tree_of t)
