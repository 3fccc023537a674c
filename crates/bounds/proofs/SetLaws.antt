-- Narrowing and the bounded sets, at one place. Assumes nothing.
use Rattle.std.proofs.Common.{◌≡◌, ℕ, ◌<◌, Bool, true, false, cond, ◌&&◌, ◌≢◌, List, length, get_or, Option, sym, refl, ap, ◌∙◌, subst, ⊎_elim, arith, length-set, get_or-set_other, get_or-set_same}
use Rattle.std.proofs.lemmas.Bool.{and_parts, and_left, eq-eqb, cases_eq, cases_Bool, false≢true}
use Rattle.grid.specs.declared.cell.Cell.{Cell}
use Rattle.grid.specs.declared.place.Place.{Place}
use Rattle.grid.specs.Laws.{Holds}
use Rattle.pattern.specs.Sets.{PlaceSet, leaf_set}
use Rattle.pattern.specs.Relations.{box_set}
use Rattle.trees.specs.declared.node.Node.{Node}
use Rattle.trees.specs.declared.node.Node.TheVariants.{Leaf, Inner}
use Rattle.trees.specs.Nodes.{Tree, once, names, children_below}
use Rattle.trees.specs.Sets.{joins}
use Rattle.trees.proofs.ValueLaws.{rising, value_leaf, value_inner}
use Rattle.trees.proofs.TreeLaws.{below_parts}
use Rattle.bounds.specs.declared.bounded_node.BoundedNode.{BoundedNode}
use Rattle.bounds.specs.declared.table.NodeTable.{NodeTable}
use Rattle.bounds.specs.declared.tree.BoundedTree.{BoundedTree}
use Rattle.bounds.specs.Tables.{entries, nodes_in, blank, bound_at, cut_node, narrowed, Good}
use Rattle.bounds.specs.Trees.{nodes_of}
use Rattle.bounds.specs.Sets.{bounded_rule, bounded_set}
use Rattle.bounds.proofs.TableLaws.{nodes_count, entry_node, inner_lower, tree_of, good_from}
use Rattle.bounds.proofs.NodeLaws.{nodes_narrowed}
use Rattle.bounds.proofs.BoxLaws.{decides_box, box_cut}

-- Whether a node's set has the place before it is cut, from whether its children's sets have it.
abbrev pub uncut : List PlaceSet → Place → Node → (ℕ → Bool) → Bool
uncut sets p (Leaf k) v = leaf_set sets k p
uncut sets p (Inner o l r) v = joins o (v l) (v r)

-- The node at a number of a table.
abbrev pub node_in : List BoundedNode → ℕ → Node
node_in table i = (get_or table i blank).node

module _ (sets : List PlaceSet) (p : Place) where
  -- whether the bounded set of a node has the place
  abbrev pub has : List BoundedNode → ℕ → Bool
  has table i = bounded_set sets table i p

  has_node : (table : List BoundedNode) → Tree (nodes_in table) → (i : ℕ) → i < length table → (n : Node) → node_in table i ≡ n → has table i ≡ (box_set (bound_at table i) p && uncut sets p n (has table))
  has_node table tree i h (Leaf k) is = ap (λ (s : PlaceSet). s p) (value_leaf (bounded_rule sets) table i k blank h is)
  has_node table tree i h (Inner o l r) is =
      let below = inner_lower table tree i o l r h is in
      ap (λ (s : PlaceSet). s p) (value_inner (bounded_rule sets) table i o l r blank h is below.0 below.1)

  -- The bounded set of a node is worked out from those of its children, and cut by its bound.
  pub has_is : (table : List BoundedNode) → Tree (nodes_in table) → (i : ℕ) → i < length table → has table i ≡ (box_set (bound_at table i) p && uncut sets p (node_in table i) (has table))
  has_is table tree i h = has_node table tree i h (node_in table i) refl

  -- and lies in it
  pub has_in : (table : List BoundedNode) → Tree (nodes_in table) → (i : ℕ) → i < length table → has table i ≡ true → Holds (bound_at table i) p
  has_in table tree i h t = (decides_box (bound_at table i) p).0 (and_parts (box_set (bound_at table i) p) (uncut sets p (node_in table i) (has table)) (sym (has_is table tree i h) ∙ t)).0

-- what one narrowing does to the entries
module _ (table : List BoundedNode) (c : ℕ) (b : Option Cell) where
  pub narrowed_other : (i : ℕ) → i ≢ c → get_or (narrowed table c b) i blank ≡ get_or table i blank
  narrowed_other i ne = get_or-set_other table c i (cut_node (get_or table c blank) b) blank ne

  pub narrowed_same : c < length table → get_or (narrowed table c b) c blank ≡ cut_node (get_or table c blank) b
  narrowed_same h = get_or-set_same table c (cut_node (get_or table c blank) b) blank h

  pub narrowed_length : length (narrowed table c b) ≡ length table
  narrowed_length = length-set table c (cut_node (get_or table c blank) b)

  pub narrowed_tree : Tree (nodes_in table) → Tree (nodes_in (narrowed table c b))
  narrowed_tree tree = subst Tree (sym (nodes_narrowed table c b)) tree

  narrowed_box : c < length table → (p : Place) → box_set (bound_at (narrowed table c b) c) p ≡ (box_set (bound_at table c) p && box_set b p)
  narrowed_box h p = ap (λ (e : BoundedNode). box_set e.bound p) (narrowed_same h) ∙ box_cut (bound_at table c) b p

  narrowed_node : c < length table → (i : ℕ) → node_in (narrowed table c b) i ≡ node_in table i
  narrowed_node h i = ⊎_elim (λ e. ap (node_in (narrowed table c b)) e ∙ ap (λ x. x.node) (narrowed_same h) ∙ ap (node_in table) (sym e)) (λ ne. ap (λ x. x.node) (narrowed_other i ne)) (cases_eq i c)

-- A checked tree with one bound narrowed is one still.
pub good_narrowed : (t : BoundedTree) (u : NodeTable) (c : ℕ) (b : Option Cell) → entries u ≡ narrowed (nodes_of t) c b → u.count ≡ t.table.count → Good u
good_narrowed t u c b is count =
    good_from u (subst (λ table. Tree (nodes_in table)) (sym is) (narrowed_tree (nodes_of t) c b (tree_of t))) (ap length is ∙ narrowed_length (nodes_of t) c b ∙ t.whole ∙ sym count)

-- the children of a node are below it
pub node_below : (table : List BoundedNode) → Tree (nodes_in table) → (i : ℕ) → i < length table → children_below i (node_in table i) ≡ true
node_below table tree i h = ap (children_below i) (sym (entry_node table i h)) ∙ tree.below i (omega (arith, nodes_count table))

once_zero : (a b : ℕ) → once a b ≡ 0 → a ≢ b
once_zero a b z e = omega (arith, z, ap {B = ℕ} (λ t. cond t 1 0) (eq-eqb a b e))

and_drop : (x b u : Bool) → ((x && u) ≡ true → b ≡ true) → ((x && b) && u) ≡ (x && u)
and_drop true true u h = refl
and_drop true false true h = absurd (false≢true (h refl))
and_drop true false false h = refl
and_drop false b u h = refl

module _ (sets : List PlaceSet) (p : Place) where
  uncut_same : (n : Node) (i : ℕ) (v w : ℕ → Bool) → children_below i n ≡ true → ((j : ℕ) → j < i → v j ≡ w j) → uncut sets p n v ≡ uncut sets p n w
  uncut_same (Leaf k) i v w below same = refl
  uncut_same (Inner o l r) i v w below same =
      let h = below_parts i o l r (Inner o l r) refl below in
      ap (λ x. joins o x (v r)) (same l h.0) ∙ ap (λ x. joins o (w l) x) (same r h.1)

  uncut_unnamed : (n : Node) (i c : ℕ) (v w : ℕ → Bool) → names n c ≡ 0 → children_below i n ≡ true → ((j : ℕ) → j < i → j ≢ c → v j ≡ w j) → uncut sets p n v ≡ uncut sets p n w
  uncut_unnamed (Leaf k) i c v w unnamed below same = refl
  uncut_unnamed (Inner o l r) i c v w unnamed below same =
      let h = below_parts i o l r (Inner o l r) refl below in
      let left = once_zero l c (omega arith) in
      let right = once_zero r c (omega arith) in
      ap (λ x. joins o x (v r)) (same l h.0 left) ∙ ap (λ x. joins o (w l) x) (same r h.1 right)

  module _ (table : List BoundedNode) (tree : Tree (nodes_in table)) (c : ℕ) (b : Option Cell) (here : c < length table) where
    -- a node of the narrowed table, where the sets of all nodes below it have the place as before
    has_narrowed : (i : ℕ) → i < length table → ((j : ℕ) → j < i → has sets p (narrowed table c b) j ≡ has sets p table j) → has sets p (narrowed table c b) i ≡ (box_set (bound_at (narrowed table c b) i) p && uncut sets p (node_in table i) (has sets p table))
    has_narrowed i h same =
        has_is sets p (narrowed table c b) (narrowed_tree table c b tree) i (omega (arith, narrowed_length table c b))
        ∙ ap (λ n. box_set (bound_at (narrowed table c b) i) p && uncut sets p n (has sets p (narrowed table c b))) (narrowed_node table c b here i)
        ∙ ap (λ u. box_set (bound_at (narrowed table c b) i) p && u) (uncut_same (node_in table i) i _ _ (node_below table tree i h) same)

    -- the bounded set of the narrowed node, where the sets of all nodes below it have the place as before, and the cell it
    -- is cut by holds the place if the set has it
    has_cut : (has sets p table c ≡ true → box_set b p ≡ true) → ((j : ℕ) → j < c → has sets p (narrowed table c b) j ≡ has sets p table j) → has sets p (narrowed table c b) c ≡ has sets p table c
    has_cut holds same =
        let u = uncut sets p (node_in table c) (has sets p table) in
        has_narrowed c here same
        ∙ ap (λ x. x && u) (narrowed_box table c b here p)
        ∙ and_drop (box_set (bound_at table c) p) (box_set b p) u (λ t. holds (has_is sets p table tree c here ∙ t))
        ∙ sym (has_is sets p table tree c here)

    -- the bounded set of any other node, likewise
    has_other : (i : ℕ) → i ≢ c → i < length table → ((j : ℕ) → j < i → has sets p (narrowed table c b) j ≡ has sets p table j) → has sets p (narrowed table c b) i ≡ has sets p table i
    has_other i ne h same =
        has_narrowed i h same
        ∙ ap (λ (e : BoundedNode). box_set e.bound p && uncut sets p (node_in table i) (has sets p table)) (narrowed_other table c b i ne)
        ∙ sym (has_is sets p table tree i h)

    -- Cut by what holds its bounded set anyhow, a node leaves all bounded sets as they are.
    keeps_step : (has sets p table c ≡ true → Holds b p) → (i : ℕ) → ((j : ℕ) → j < i → j < length table → has sets p (narrowed table c b) j ≡ has sets p table j) → i < length table → has sets p (narrowed table c b) i ≡ has sets p table i
    keeps_step holds i ih h =
        ⊎_elim
        (λ e. subst (λ k. has sets p (narrowed table c b) k ≡ has sets p table k) (sym e) (has_cut (λ t. (decides_box b p).1 (holds t)) (λ j l. ih j (omega (arith, e)) (omega arith))))
        (λ ne. has_other i ne h (λ j l. ih j l (omega arith)))
        (cases_eq i c)

    pub narrow_keeps : (has sets p table c ≡ true → Holds b p) → (i : ℕ) → i < length table → has sets p (narrowed table c b) i ≡ has sets p table i
    narrow_keeps holds = rising (λ i. i < length table → has sets p (narrowed table c b) i ≡ has sets p table i) (keeps_step holds)

    -- A child cut by the bound of its parent, which is the only node that names it, leaves all other bounded sets as they
    -- are: where the place lies in that bound nothing changes, and elsewhere the parent's set has it neither before nor
    -- after.
    module _ (q : ℕ) (above : c < q) (cut : b ≡ bound_at table q) (only : (j : ℕ) → j < length table → names (node_in table j) c ≢ 0 → j ≡ q) where
      -- the parent, where the place lies in its bound
      at_parent : (i : ℕ) → i ≡ q → i < length table → box_set (bound_at table i) p ≡ true → ((j : ℕ) → j < i → j ≢ c → has sets p (narrowed table c b) j ≡ has sets p table j) → has sets p (narrowed table c b) i ≡ has sets p table i
      at_parent i e h t same =
          let inside : box_set b p ≡ true = ap (λ o. box_set o p) (cut ∙ ap (bound_at table) (sym e)) ∙ t in
          let child : has sets p (narrowed table c b) c ≡ has sets p table c = has_cut (λ _. inside) (λ j l. same j (omega (arith, e)) (omega arith)) in
          has_other i (omega (arith, e)) h
          (λ j l. ⊎_elim (λ k. subst (λ m. has sets p (narrowed table c b) m ≡ has sets p table m) (sym k) child) (λ ne. same j l ne) (cases_eq j c))

      -- any node whose bound leaves the place out
      outside_bound : (i : ℕ) → i ≢ c → i < length table → box_set (bound_at table i) p ≡ false → has sets p (narrowed table c b) i ≡ has sets p table i
      outside_bound i ne h f =
          has_is sets p (narrowed table c b) (narrowed_tree table c b tree) i (omega (arith, narrowed_length table c b))
          ∙ and_left (box_set (bound_at (narrowed table c b) i) p) _ (ap (λ (e : BoundedNode). box_set e.bound p) (narrowed_other table c b i ne) ∙ f)
          ∙ sym (has_is sets p table tree i h ∙ and_left (box_set (bound_at table i) p) _ f)

      -- a node that does not name the child
      unnamed : (i : ℕ) → i ≢ c → i < length table → names (node_in table i) c ≡ 0 → ((j : ℕ) → j < i → j ≢ c → has sets p (narrowed table c b) j ≡ has sets p table j) → has sets p (narrowed table c b) i ≡ has sets p table i
      unnamed i ne h z same =
          has_is sets p (narrowed table c b) (narrowed_tree table c b tree) i (omega (arith, narrowed_length table c b))
          ∙ ap (λ (e : BoundedNode). box_set e.bound p && uncut sets p e.node (has sets p (narrowed table c b))) (narrowed_other table c b i ne)
          ∙ ap (λ u. box_set (bound_at table i) p && u) (uncut_unnamed (node_in table i) i c _ _ z (node_below table tree i h) same)
          ∙ sym (has_is sets p table tree i h)

      child_step : (i : ℕ) → ((j : ℕ) → j < i → j < length table → j ≢ c → has sets p (narrowed table c b) j ≡ has sets p table j) → i < length table → i ≢ c → has sets p (narrowed table c b) i ≡ has sets p table i
      child_step i ih h ne =
          let same = λ (j : ℕ) (l : j < i) (m : j ≢ c). ih j l (omega arith) m in
          ⊎_elim (λ z. unnamed i ne h z same)
          (λ nz. ⊎_elim (λ t. at_parent i (only i h nz) h t same) (λ f. outside_bound i ne h f) (cases_Bool (box_set (bound_at table i) p)))
          (cases_eq (names (node_in table i) c) 0)

      pub narrow_child : (i : ℕ) → i < length table → i ≢ c → has sets p (narrowed table c b) i ≡ has sets p table i
      narrow_child = rising (λ i. i < length table → i ≢ c → has sets p (narrowed table c b) i ≡ has sets p table i) child_step
