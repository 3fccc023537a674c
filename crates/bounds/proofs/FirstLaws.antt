-- The first bounds leave of a tree's set just what lies in the workspace. Assumes nothing.
use Rattle.std.proofs.Common.{◌≡◌, ℕ, ◌+◌, ◌<◌, Bool, true, false, ◌&&◌, List, [], ◌∷◌, ◌++◌, map, length, get_or, take, set, Some, Ok, sym, refl, ap, ◌∙◌, subst, arith}
use Rattle.std.proofs.lemmas.List.{get_or-map, length-map, take_more, take_more_set}
use Rattle.std.proofs.lemmas.Bool.{false≢true}
use Rattle.grid.specs.declared.cell.Cell.{Cell}
use Rattle.grid.specs.declared.place.Place.{Place}
use Rattle.grid.specs.Cells.{inside}
use Rattle.pattern.specs.Sets.{PlaceSet, leaf_set}
use Rattle.pattern.specs.Relations.{box_set}
use Rattle.pattern.specs.Banks.{Meaning, Facts}
use Rattle.trees.specs.declared.bare.BareNode.{BareNode}
use Rattle.trees.specs.declared.node.Operation.{Operation}
use Rattle.trees.specs.declared.node.Node.{Node}
use Rattle.trees.specs.declared.node.Node.TheVariants.{Leaf, Inner}
use Rattle.trees.specs.Nodes.{node_from, nodes_from, node_at, Tree}
use Rattle.trees.specs.Sets.{joins, node_set, tree_set, root_of}
use Rattle.trees.specs.Checks.{Sound}
use Rattle.trees.proofs.ValueLaws.{rising}
use Rattle.trees.proofs.TreeLaws.{inner_below, set_leaf, set_inner}
use Rattle.bounds.specs.declared.bounded_node.BoundedNode.{BoundedNode}
use Rattle.bounds.specs.declared.table.NodeTable.{NodeTable}
use Rattle.bounds.specs.Tables.{entries, nodes_in, blank, Good}
use Rattle.bounds.specs.Sets.{root_set}
use Rattle.bounds.specs.First.{first_bound, first_node, first_bounds}
use Rattle.bounds.specs.Laws.{FirstLaw}
use Rattle.bounds.proofs.TableLaws.{good_from}
use Rattle.bounds.proofs.BoxLaws.{decides_box, box_cut}
use Rattle.bounds.proofs.SetLaws.{uncut, has, has_is}

-- one node more of a table that is filled from a list
pub filled_more : (f : BareNode → BoundedNode) (slots : List BoundedNode) (bare : List BareNode) (i : ℕ) (d : BareNode) (y : BoundedNode) → i < length slots → i < length bare → y ≡ f (get_or bare i d) → take i slots ≡ take i (map f bare) → take (i + 1) (set slots i y) ≡ take (i + 1) (map f bare)
filled_more f slots bare i d y h k is so_far =
    take_more_set slots i y h
    ∙ ap (λ front. front ++ (y ∷ [])) so_far
    ∙ ap (λ x. take i (map f bare) ++ (x ∷ [])) (is ∙ sym (get_or-map f bare i d blank k))
    ∙ sym (take_more (map f bare) i blank (omega (arith, length-map bare f)))

-- the nodes of the first table are those that were handed over
pub nodes_first : (m : Meaning) (workspace : Cell) (bare : List BareNode) → nodes_in (first_bounds m workspace bare) ≡ nodes_from bare
nodes_first m workspace [] = refl
nodes_first m workspace (b ∷ rest) = ap (λ ns. node_from b ∷ ns) (nodes_first m workspace rest)

and_first : (b w s : Bool) → (s ≡ true → b ≡ true) → ((b && w) && s) ≡ (w && s)
and_first true w s h = refl
and_first false true true h = absurd (false≢true (h refl))
and_first false true false h = refl
and_first false false s h = refl

and_join : (o : Operation) (w a b : Bool) → (w && joins o (w && a) (w && b)) ≡ (w && joins o a b)
and_join o true a b = refl
and_join o false a b = refl

module _ (m : Meaning) (facts : Facts m) (workspace : Cell) (bare : List BareNode) (tree : Tree (nodes_from bare)) (p : Place) where
  abbrev first_table : List BoundedNode
  first_table = first_bounds m workspace bare

  first_tree : Tree (nodes_in first_table)
  first_tree = subst Tree (sym (nodes_first m workspace bare)) tree

  first_entry : (i : ℕ) → i < length bare → get_or first_table i blank ≡ first_node m workspace (node_at (nodes_from bare) i)
  first_entry i h =
      get_or-map (λ b. first_node m workspace (node_from b)) bare i (record { operation = 0; left = 0; right = 0 }) blank h
      ∙ ap (first_node m workspace) (sym (get_or-map node_from bare i (record { operation = 0; left = 0; right = 0 }) (Leaf 0) h))

  -- the bounded set of a node has the place if the workspace and the node's set have it
  Agrees : ℕ → Type 0
  Agrees i = i < length bare → has m.sets p first_table i ≡ (inside p workspace && node_set m.sets (nodes_from bare) i p)

  first_has : (i : ℕ) → i < length bare → (n : Node) → node_at (nodes_from bare) i ≡ n → has m.sets p first_table i ≡ (box_set (first_bound m workspace n) p && uncut m.sets p n (has m.sets p first_table))
  first_has i h n is =
      has_is m.sets p first_table first_tree i (omega (arith, length-map bare (λ b. first_node m workspace (node_from b))))
      ∙ ap (λ (e : BoundedNode). box_set e.bound p && uncut m.sets p e.node (has m.sets p first_table)) (first_entry i h ∙ ap (first_node m workspace) is)

  agrees_node : (i : ℕ) → ((j : ℕ) → j < i → Agrees j) → i < length bare → (n : Node) → node_at (nodes_from bare) i ≡ n → has m.sets p first_table i ≡ (inside p workspace && node_set m.sets (nodes_from bare) i p)
  unfolding Agrees
  agrees_node i ih h (Leaf k) is =
      let long = length-map bare node_from in
      first_has i h (Leaf k) is
      ∙ ap (λ b. b && leaf_set m.sets k p) (box_cut (m.bound k) (Some workspace) p)
      ∙ and_first (box_set (m.bound k) p) (inside p workspace) (leaf_set m.sets k p) (λ t. (decides_box (m.bound k) p).1 (facts.bounds k p t))
      ∙ ap (λ s. inside p workspace && s) (sym (set_leaf m.sets (nodes_from bare) p i k (omega arith) is))
  agrees_node i ih h (Inner o l r) is =
      let long = length-map bare node_from in
      let below = inner_below (nodes_from bare) tree i o l r (omega arith) is in
      let left = ih l below.0 (omega (arith, below.0)) in
      let right = ih r below.1 (omega (arith, below.1)) in
      first_has i h (Inner o l r) is
      ∙ ap (λ s. inside p workspace && joins o s (has m.sets p first_table r)) left
      ∙ ap (λ s. inside p workspace && joins o (inside p workspace && node_set m.sets (nodes_from bare) l p) s) right
      ∙ and_join o (inside p workspace) (node_set m.sets (nodes_from bare) l p) (node_set m.sets (nodes_from bare) r p)
      ∙ ap (λ s. inside p workspace && s) (sym (set_inner m.sets (nodes_from bare) p tree i o l r (omega arith) is))

  agrees : (i : ℕ) → i < length bare → has m.sets p first_table i ≡ (inside p workspace && node_set m.sets (nodes_from bare) i p)
  unfolding Agrees
  agrees = rising Agrees (λ i ih h. agrees_node i ih h (node_at (nodes_from bare) i) refl)

  -- The root's bounded set is its set within the workspace.
  pub first_root : root_set m.sets first_table p ≡ (inside p workspace && tree_set m.sets (nodes_from bare) p)
  first_root =
      let long = length-map bare node_from in
      let root : root_of first_table ≡ root_of (nodes_from bare) = omega (arith, length-map bare (λ b. first_node m workspace (node_from b))) in
      ap (has m.sets p first_table) root ∙ agrees (root_of (nodes_from bare)) (omega (arith, tree.some))

-- A table of the nodes of a tree with their first bounds is one that a checked tree may keep.
pub good_first : (m : Meaning) (workspace : Cell) (bare : List BareNode) (t : NodeTable) → Tree (nodes_from bare) → entries t ≡ first_bounds m workspace bare → t.count ≡ length bare → Good t
good_first m workspace bare t tree is count =
    good_from t (subst Tree (sym (ap nodes_in is ∙ nodes_first m workspace bare)) tree) (ap length is ∙ length-map bare (λ b. first_node m workspace (node_from b)) ∙ sym count)

-- The law of the first bounds, of a tree that was accepted over the sets of a bank.
pub first_told : (m : Meaning) → Facts m → (sets : List PlaceSet) → m.sets ≡ sets → (workspace : Cell) (bare : List BareNode) → Sound (length sets) bare → (table : List BoundedNode) → table ≡ first_bounds m workspace bare → FirstLaw m workspace bare (Ok table)
first_told m facts sets own workspace bare sound table is = (
  subst (λ s. Sound (length s) bare) (sym own) sound,
  λ p. subst (λ t. root_set m.sets t p ≡ (inside p workspace && tree_set m.sets (nodes_from bare) p)) (sym is) (first_root m facts workspace bare sound.tree p),
)
