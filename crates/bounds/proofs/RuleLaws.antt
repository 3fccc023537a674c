-- The bounds after a tightening are those of its rule, node by node. Assumes nothing.
use Rattle.std.proofs.Common.{◌≡◌, ℕ, zero, suc, ◌+◌, ◌-◌, ◌<◌, ◌≤◌, true, cond, ◌≢◌, ◌⊎◌, List, length, Option, sym, refl, ap, ◌∙◌, subst, inl, inr, ⊎_elim, arith}
use Rattle.std.proofs.lemmas.Bool.{cases_eq, ne_eqb}
use Rattle.grid.specs.declared.cell.Cell.{Cell}
use Rattle.trees.specs.declared.node.Operation.{Operation}
use Rattle.trees.specs.declared.node.Node.{Node}
use Rattle.trees.specs.declared.node.Node.TheVariants.{Leaf, Inner}
use Rattle.trees.specs.Nodes.{Tree, children_below, once, names}
use Rattle.trees.specs.Sets.{root_of}
use Rattle.trees.proofs.TreeLaws.{below_parts}
use Rattle.trees.proofs.ParentLaws.{named_at}
use Rattle.bounds.specs.declared.bounded_node.BoundedNode.{BoundedNode}
use Rattle.bounds.specs.declared.tree.BoundedTree.{BoundedTree}
use Rattle.bounds.specs.Trees.{nodes_of}
use Rattle.bounds.specs.Tables.{nodes_in, bound_at, cut_both, narrowed}
use Rattle.bounds.specs.Tightening.{reach, cut_by_children, cut_children, upward, downward, tightened}
use Rattle.bounds.specs.Laws.{Tightened, TightenLaw}
use Rattle.bounds.proofs.TableLaws.{nodes_count, entry_node, inner_lower, tree_of}
use Rattle.bounds.proofs.NodeLaws.{nodes_children, nodes_upward, nodes_downward}
use Rattle.bounds.proofs.SetLaws.{node_in, node_below, narrowed_other, narrowed_same, narrowed_length}
use Rattle.bounds.proofs.TightenLaws.{like_length, like_tree, like_node, once_self, only_parent, tightened_keeps, upward_narrows, downward_narrows, changed_just}

bound_other : (table : List BoundedNode) (c : ℕ) (b : Option Cell) (i : ℕ) → i ≢ c → bound_at (narrowed table c b) i ≡ bound_at table i
bound_other table c b i ne = ap (λ e. e.bound) (narrowed_other table c b i ne)

bound_same : (table : List BoundedNode) (c : ℕ) (b : Option Cell) → c < length table → bound_at (narrowed table c b) c ≡ cut_both (bound_at table c) b
bound_same table c b h = ap (λ e. e.bound) (narrowed_same table c b h)

-- upward

by_children_other : (n : Node) (c : ℕ) (table : List BoundedNode) (i : ℕ) → i ≢ c → bound_at (cut_by_children n c table) i ≡ bound_at table i
by_children_other (Leaf k) c table i ne = refl
by_children_other (Inner o l r) c table i ne = bound_other table c (reach o (bound_at table l) (bound_at table r)) i ne

upward_one : (n : ℕ) (table : List BoundedNode) → upward (suc n) table ≡ cut_by_children (node_in (upward n table) n) n (upward n table)
unfolding upward
upward_one n table = refl

-- nodes that are not yet reached are as before
upward_later : (n : ℕ) (table : List BoundedNode) (i : ℕ) → n ≤ i → bound_at (upward n table) i ≡ bound_at table i
unfolding upward
upward_later zero table i h = refl
upward_later (suc n) table i h = by_children_other (node_in (upward n table) n) n (upward n table) i (omega arith) ∙ upward_later n table i (omega arith)

-- nodes that were reached stay
upward_stays : (more n : ℕ) (table : List BoundedNode) (i : ℕ) → i < n → bound_at (upward (more + n) table) i ≡ bound_at (upward n table) i
upward_stays zero n table i h = ap (λ m. bound_at (upward m table) i) (let e : 0 + n ≡ n = omega arith in e)
upward_stays (suc more) n table i h =
    let so_far = upward (more + n) table in
    ap (λ m. bound_at (upward m table) i) (let e : suc more + n ≡ suc (more + n) = omega arith in e)
    ∙ ap (λ t. bound_at t i) (upward_one (more + n) table)
    ∙ by_children_other (node_in so_far (more + n)) (more + n) so_far i (omega arith)
    ∙ upward_stays more n table i h

module _ (table : List BoundedNode) (tree : Tree (nodes_in table)) where
  risen_at : ℕ → Option Cell
  risen_at i = bound_at (upward (length table) table) i

  risen_from : (i n : ℕ) → i < n → n ≤ length table → risen_at i ≡ bound_at (upward n table) i
  unfolding risen_at
  risen_from i n h k =
      ap (λ m. bound_at (upward m table) i) (let e : length table ≡ (length table - n) + n = omega arith in e) ∙ upward_stays (length table - n) n table i h

  -- the step at a node
  step_at : (i : ℕ) (n : Node) → i < length table → node_in table i ≡ n → risen_at i ≡ bound_at (cut_by_children n i (upward i table)) i
  step_at i n h is =
      risen_from i (suc i) (omega arith) h
      ∙ ap (λ t. bound_at t i) (upward_one i table)
      ∙ ap (λ n. bound_at (cut_by_children n i (upward i table)) i) (like_node table (upward i table) (nodes_upward i table) i h ∙ is)

  risen_leaf : (i k : ℕ) → i < length table → node_in table i ≡ Leaf k → risen_at i ≡ bound_at table i
  risen_leaf i k h is = step_at i (Leaf k) h is ∙ upward_later i table i (omega arith)

  risen_inner : (i : ℕ) (o : Operation) (l r : ℕ) → i < length table → node_in table i ≡ Inner o l r → risen_at i ≡ cut_both (bound_at table i) (reach o (risen_at l) (risen_at r))
  risen_inner i o l r h is =
      let lower = inner_lower table tree i o l r h is in
      let so_far = upward i table in
      step_at i (Inner o l r) h is
      ∙ bound_same so_far i (reach o (bound_at so_far l) (bound_at so_far r)) (omega (arith, like_length table so_far (nodes_upward i table)))
      ∙ ap (λ b. cut_both b (reach o (bound_at so_far l) (bound_at so_far r))) (upward_later i table i (omega arith))
      ∙ ap (λ b. cut_both (bound_at table i) (reach o b (bound_at so_far r))) (sym (risen_from l i lower.0 (omega arith)))
      ∙ ap (λ b. cut_both (bound_at table i) (reach o (risen_at l) b)) (sym (risen_from r i lower.1 (omega arith)))

-- downward

once_other : (a b : ℕ) → a ≢ b → once a b ≡ 0
once_other a b ne = ap {B = ℕ} (λ t. cond t 1 0) (ne_eqb a b ne)

-- a bound that the node does not name as a child is as before
children_other : (n : Node) (q : ℕ) (table : List BoundedNode) (i : ℕ) → names n i ≡ 0 → bound_at (cut_children n q table) i ≡ bound_at table i
children_other (Leaf k) q table i z = refl
children_other (Inner o l r) q table i z =
    bound_other (narrowed table l (bound_at table q)) r (bound_at table q) i (λ e. omega (arith, z, once_self r, ap (once r) e))
    ∙ bound_other table l (bound_at table q) i (λ e. omega (arith, z, once_self l, ap (once l) e))

-- no node names one that is not below it
unnamed_node : (n : Node) (j i : ℕ) → children_below j n ≡ true → j ≤ i → names n i ≡ 0
unnamed_node (Leaf k) j i below h = refl
unnamed_node (Inner o l r) j i below h =
    let lower = below_parts j o l r (Inner o l r) refl below in
    omega (arith, once_other l i (omega arith), once_other r i (omega arith))

unnamed : (table : List BoundedNode) → Tree (nodes_in table) → (j i : ℕ) → j < length table → j ≤ i → names (node_in table j) i ≡ 0
unnamed table tree j i h k = unnamed_node (node_in table j) j i (node_below table tree j h) k

-- a bound that none of the first n nodes names is as before
downward_other : (n : ℕ) (table : List BoundedNode) (i : ℕ) → n ≤ length table → ((j : ℕ) → j < n → names (node_in table j) i ≡ 0) → bound_at (downward n table) i ≡ bound_at table i
unfolding downward
downward_other zero table i h not_named = refl
downward_other (suc n) table i h not_named =
    let next = cut_children (node_in table n) n table in
    let same = nodes_children (node_in table n) n table in
    downward_other n next i (omega (arith, like_length table next same)) (λ j l. ap (λ x. names x i) (like_node table next same j (omega arith)) ∙ not_named j (omega arith))
    ∙ children_other (node_in table n) n table i (not_named n (omega arith))

-- and so is that of the nodes from the last of them on
downward_high : (n : ℕ) (table : List BoundedNode) → Tree (nodes_in table) → (i : ℕ) → n ≤ length table → n ≤ suc i → bound_at (downward n table) i ≡ bound_at table i
downward_high n table tree i h k = downward_other n table i h (λ j l. unnamed table tree j i (omega arith) (omega arith))

-- the children of a node are two
two_children : (table : List BoundedNode) → Tree (nodes_in table) → (q : ℕ) (o : Operation) (l r : ℕ) → q < length table → node_in table q ≡ Inner o l r → l ≢ r
two_children table tree q o l r h is e =
    let long = nodes_count table in
    let lower = inner_lower table tree q o l r h is in
    omega (arith, named_at (nodes_in table) q l (omega arith), tree.parents l (omega (arith, lower.0)), ap (λ n. names n l) (entry_node table q h ∙ is), once_self l, ap (λ k. once k l) e)

named_child : (o : Operation) (l r c : ℕ) → names (Inner o l r) c ≢ 0 → (l ≡ c) ⊎ (r ≡ c)
named_child o l r c named = ⊎_elim inl (λ nl. ⊎_elim inr (λ nr. absurd (named (omega (arith, once_other l c nl, once_other r c nr)))) (cases_eq r c)) (cases_eq l c)

-- a child is cut by the bound of its node
child_cut : (table : List BoundedNode) → Tree (nodes_in table) → (q c : ℕ) → q < length table → names (node_in table q) c ≢ 0 → (n : Node) → node_in table q ≡ n → bound_at (cut_children n q table) c ≡ cut_both (bound_at table c) (bound_at table q)
child_cut table tree q c h named (Leaf k) is = absurd (named (ap (λ n. names n c) is))
child_cut table tree q c h named (Inner o l r) is =
    let lower = inner_lower table tree q o l r h is in
    let apart = two_children table tree q o l r h is in
    let b = bound_at table q in
    let first = narrowed table l b in
    ⊎_elim
    (λ e. subst (λ k. bound_at (narrowed first r b) k ≡ cut_both (bound_at table k) b) e (bound_other first r b l apart ∙ bound_same table l b (omega (arith, lower.0))))
    (λ e. subst (λ k. bound_at (narrowed first r b) k ≡ cut_both (bound_at table k) b) e
    (bound_same first r b (omega (arith, lower.1, narrowed_length table l b)) ∙ ap (λ x. cut_both x b) (bound_other table l b r (λ e. apart (sym e)))))
    (named_child o l r c (λ z. named (ap (λ n. names n c) is ∙ z)))

-- a node that is not the parent does not name the child
not_parent : (table : List BoundedNode) → Tree (nodes_in table) → (q c j : ℕ) → c < q → q < length table → names (node_in table q) c ≢ 0 → j < length table → j ≢ q → names (node_in table j) c ≡ 0
not_parent table tree q c j l h named k ne = ⊎_elim (λ z. z) (λ nz. absurd (ne (only_parent table tree c q l h named j k nz))) (cases_eq (names (node_in table j) c) 0)

downward_child : (n : ℕ) (table : List BoundedNode) → Tree (nodes_in table) → (q c : ℕ) → n ≤ length table → q < n → c < q → names (node_in table q) c ≢ 0 → bound_at (downward n table) c ≡ cut_both (bound_at table c) (bound_at (downward n table) q)
unfolding downward
downward_child zero table tree q c h k l named = absurd (omega arith)
downward_child (suc n) table tree q c h k l named =
    let next = cut_children (node_in table n) n table in
    let same = nodes_children (node_in table n) n table in
    let long = like_length table next same in
    let next-tree = like_tree table next same tree in
    let next-named : names (node_in next q) c ≢ 0 = λ z. named (ap (λ x. names x c) (sym (like_node table next same q (omega arith))) ∙ z) in
    ⊎_elim
    (λ e.
    downward_other n next c (omega arith) (λ j m. not_parent next next-tree q c j l (omega arith) next-named (omega arith) (omega arith))
    ∙ child_cut table tree n c (omega arith) (λ z. named (ap (λ i. names (node_in table i) c) e ∙ z)) (node_in table n) refl
    ∙ ap (cut_both (bound_at table c)) (sym (children_other (node_in table n) n table n (unnamed table tree n n (omega arith) (omega arith))) ∙ sym (downward_high n next next-tree n (omega arith) (omega arith)) ∙ ap (bound_at (downward n next)) (sym e)))
    (λ ne.
    downward_child n next next-tree q c (omega arith) (omega arith) l next-named
    ∙ ap (λ b. cut_both b (bound_at (downward n next) q)) (children_other (node_in table n) n table c (not_parent table tree q c n l (omega arith) named (omega arith) (λ e. ne (sym e)))))
    (cases_eq q n)

-- The bounds after a tightening are those of its rule.
pub tightened_rule : (table : List BoundedNode) → Tree (nodes_in table) → Tightened table (tightened table)
unfolding risen_at
tightened_rule table tree =
    let up = upward (length table) table in
    let same = nodes_upward (length table) table in
    let long = like_length table up same in
    let up-tree = like_tree table up same tree in
    let some : 0 < length table = omega (arith, tree.some, nodes_count table) in
    record {
      risen = risen_at table tree;
      leaf = λ i k h is. risen_leaf table tree i k h (sym (entry_node table i h) ∙ is);
      inner = λ i o l r h is. risen_inner table tree i o l r h (sym (entry_node table i h) ∙ is);
      root = downward_high (length table) up up-tree (root_of table) (omega arith) (omega arith);
      children = λ i o l r h is.
          let in-up : node_in up i ≡ Inner o l r = like_node table up same i h ∙ sym (entry_node table i h) ∙ is in
          let lower = inner_lower up up-tree i o l r (omega arith) in-up in (
            downward_child (length table) up up-tree i l (omega arith) h lower.0 (λ z. omega (arith, once_self l, ap (λ n. names n l) in-up, z)),
            downward_child (length table) up up-tree i r (omega arith) h lower.1 (λ z. omega (arith, once_self r, ap (λ n. names n r) in-up, z)),
          );
    }

-- A tightening keeps what it should, and is what it should be.
pub tighten_law : (table : List BoundedNode) → Tree (nodes_in table) → TightenLaw table (tightened table)
tighten_law table tree =
    let up = upward (length table) table in
    record {
      nodes = nodes_downward (length table) up ∙ nodes_upward (length table) table;
      narrows = λ i p h. upward_narrows (length table) table i p (downward_narrows (length table) up i p h);
      keeps = λ sets p. tightened_keeps sets p table tree;
      changed = changed_just table (tightened table);
      rule = tightened_rule table tree;
    }

-- The same of a checked tree, from what the two passes leave.
pub tighten_told : (t : BoundedTree) (up after : List BoundedNode) → up ≡ upward (length (nodes_of t)) (nodes_of t) → length up ≡ length (nodes_of t) → after ≡ downward (length up) up → TightenLaw (nodes_of t) after
tighten_told t up after risen long is =
    let same : after ≡ tightened (nodes_of t) = is ∙ ap (λ n. downward n up) long ∙ ap (downward (length (nodes_of t))) risen in
    subst (TightenLaw (nodes_of t)) (sym same) (tighten_law (nodes_of t) (tree_of t))
