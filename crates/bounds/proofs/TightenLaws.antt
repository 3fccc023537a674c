-- What a tightening keeps, and what it changes. Assumes nothing.
use Rattle.std.proofs.Common.{◌≡◌, ℕ, zero, suc, ◌+◌, ◌<◌, ◌≤◌, Bool, true, false, cond, not, ◌&&◌, ◌≢◌, ◌↔◌, List, [], ◌∷◌, length, get_or, Some, None, Decides, Option, sym, refl, ap, ◌∙◌, subst, ⊎_elim, arith}
use Rattle.std.specs.List.{filter, zip}
use Rattle.std.proofs.lemmas.List.{set_past}
use Rattle.std.proofs.lemmas.Bool.{and_parts, and_from, eq-eqb, cases_eq, cases_lt, false≢true}
use Rattle.std.proofs.lemmas.Bool.Decides.{Decides-not}
use Rattle.grid.specs.declared.cell.Cell.{Cell}
use Rattle.grid.specs.declared.place.Place.{Place}
use Rattle.grid.specs.Laws.{Holds, Part}
use Rattle.grid.specs.Cells.{lo, hi, within}
use Rattle.grid.specs.Axes.{below}
use Rattle.grid.specs.Places.{below_true}
use Rattle.grid.proofs.CellLaws.{cell_ext}
use Rattle.grid.proofs.Meanings.{decides_within}
use Rattle.pattern.specs.Sets.{PlaceSet}
use Rattle.pattern.specs.Relations.{box_set}
use Rattle.trees.specs.declared.node.Node.{Node}
use Rattle.trees.specs.declared.node.Node.TheVariants.{Leaf, Inner}
use Rattle.trees.specs.Nodes.{Tree, node_at, once, names}
use Rattle.trees.specs.Sets.{joins, root_of}
use Rattle.trees.proofs.ParentLaws.{one_parent}
use Rattle.bounds.specs.declared.bounded_node.BoundedNode.{BoundedNode}
use Rattle.bounds.specs.Tables.{nodes_in, blank, bound_at, cut_node, narrowed}
use Rattle.bounds.specs.Sets.{root_set}
use Rattle.bounds.specs.Tightening.{reach, cut_by_children, cut_children, upward, downward, tightened, same_bound, is_changed, Among, changed_nodes}
use Rattle.bounds.proofs.TableLaws.{nodes_count, entry_node, inner_lower}
use Rattle.bounds.proofs.NodeLaws.{nodes_children, nodes_upward, nodes_downward}
use Rattle.bounds.proofs.PassingLaws.{passing_none, passing_just, count_front}
use Rattle.bounds.proofs.BoxLaws.{cut_part, reach_holds}
use Rattle.bounds.proofs.SetLaws.{node_in, uncut, has, has_is, has_in, narrowed_other, narrowed_same, narrowed_length, narrowed_tree, narrow_keeps, narrow_child}

-- tables with the same nodes are equally long
pub like_length : (t u : List BoundedNode) → nodes_in u ≡ nodes_in t → length u ≡ length t
like_length t u same = omega (arith, nodes_count t, nodes_count u, ap length same)

pub like_tree : (t u : List BoundedNode) → nodes_in u ≡ nodes_in t → Tree (nodes_in t) → Tree (nodes_in u)
like_tree t u same tree = subst Tree (sym same) tree

pub like_node : (t u : List BoundedNode) → nodes_in u ≡ nodes_in t → (i : ℕ) → i < length t → node_in u i ≡ node_in t i
like_node t u same i h = sym (entry_node u i (omega (arith, like_length t u same))) ∙ ap (λ ns. node_at ns i) same ∙ entry_node t i h

pub once_self : (a : ℕ) → once a a ≡ 1
once_self a = ap {B = ℕ} (λ t. cond t 1 0) (eq-eqb a a refl)

-- the parent of a child is the only node that names it
pub only_parent : (table : List BoundedNode) → Tree (nodes_in table) → (c q : ℕ) → c < q → q < length table → names (node_in table q) c ≢ 0 → (j : ℕ) → j < length table → names (node_in table j) c ≢ 0 → j ≡ q
only_parent table tree c q l h n j k m =
    let many = nodes_count table in
    one_parent (nodes_in table) c j q (tree.parents c (omega arith)) (omega arith) (omega arith) (λ z. m (ap (λ x. names x c) (sym (entry_node table j k)) ∙ z)) (λ z. n (ap (λ x. names x c) (sym (entry_node table q h)) ∙ z))

module _ (sets : List PlaceSet) (p : Place) where
  -- upward, no bounded set changes
  by_children_keeps : (table : List BoundedNode) → Tree (nodes_in table) → (n : Node) (i : ℕ) → node_in table i ≡ n → i < length table → (j : ℕ) → j < length table → has sets p (cut_by_children n i table) j ≡ has sets p table j
  by_children_keeps table tree (Leaf k) i is h j l = refl
  by_children_keeps table tree (Inner o a b) i is h j l =
      let lower = inner_lower table tree i o a b h is in
      narrow_keeps sets p table tree i (reach o (bound_at table a) (bound_at table b)) h
      (λ t. reach_holds o (bound_at table a) (bound_at table b) p (has sets p table a) (has sets p table b) (has_in sets p table tree a (omega (arith, lower.0))) (has_in sets p table tree b (omega (arith, lower.1)))
      (and_parts (box_set (bound_at table i) p) (joins o (has sets p table a) (has sets p table b)) (ap (λ n. box_set (bound_at table i) p && uncut sets p n (has sets p table)) (sym is) ∙ sym (has_is sets p table tree i h) ∙ t)).1)
      j l

  upward_keeps : (table : List BoundedNode) → Tree (nodes_in table) → (n : ℕ) → n ≤ length table → (j : ℕ) → j < length table → has sets p (upward n table) j ≡ has sets p table j
  unfolding upward
  upward_keeps table tree zero h j l = refl
  upward_keeps table tree (suc n) h j l =
      let so_far = upward n table in
      let same = nodes_upward n table in
      let long = like_length table so_far same in
      by_children_keeps so_far (like_tree table so_far same tree) (node_in so_far n) n refl (omega arith) j (omega arith)
      ∙ upward_keeps table tree n (omega arith) j l

  -- downward, that of the root does not
  children_keep : (table : List BoundedNode) → Tree (nodes_in table) → (n : Node) (q : ℕ) → node_in table q ≡ n → q < length table → (k : ℕ) → suc k ≡ length table → has sets p (cut_children n q table) k ≡ has sets p table k
  children_keep table tree (Leaf a) q is h k root = refl
  children_keep table tree (Inner o a b) q is h k root =
      let lower = inner_lower table tree q o a b h is in
      let bound = bound_at table q in
      let first = narrowed table a bound in
      let long = narrowed_length table a bound in
      let left : a < length table = omega (arith, lower.0) in
      let right : b < length first = omega (arith, lower.1) in
      let parent : get_or first q blank ≡ get_or table q blank = narrowed_other table a bound q (omega (arith, lower.0)) in
      let names-left : names (node_in table q) a ≢ 0 = λ z. omega (arith, once_self a, ap (λ n. names n a) is, z) in
      let names-right : names (node_in first q) b ≢ 0 = λ z. omega (arith, once_self b, ap (λ n. names n b) (ap (λ e. e.node) parent ∙ is), z) in
      narrow_child sets p first (narrowed_tree table a bound tree) b bound right q lower.1 (ap (λ e. e.bound) (sym parent)) (only_parent first (narrowed_tree table a bound tree) b q lower.1 (omega arith) names-right) k (omega arith) (omega (arith, lower.1))
      ∙ narrow_child sets p table tree a bound left q lower.0 refl (only_parent table tree a q lower.0 h names-left) k (omega arith) (omega (arith, lower.0))

  downward_keeps : (n : ℕ) (table : List BoundedNode) → Tree (nodes_in table) → n ≤ length table → (k : ℕ) → suc k ≡ length table → has sets p (downward n table) k ≡ has sets p table k
  unfolding downward
  downward_keeps zero table tree h k root = refl
  downward_keeps (suc n) table tree h k root =
      let next = cut_children (node_in table n) n table in
      let same = nodes_children (node_in table n) n table in
      let long = like_length table next same in
      downward_keeps n next (like_tree table next same tree) (omega arith) k (omega arith)
      ∙ children_keep table tree (node_in table n) n refl (omega arith) k root

  pub tightened_keeps : (table : List BoundedNode) → Tree (nodes_in table) → root_set sets (tightened table) p ≡ root_set sets table p
  tightened_keeps table tree =
      let up = upward (length table) table in
      let same = nodes_upward (length table) table in
      let long = like_length table up same in
      let longer = like_length up (tightened table) (nodes_downward (length table) up) in
      let some = nodes_count table in
      let root : root_of (tightened table) ≡ root_of table = omega (arith, long, longer) in
      ap (has sets p (tightened table)) root
      ∙ downward_keeps (length table) up (like_tree table up same tree) (omega arith) (root_of table) (omega (arith, tree.some))
      ∙ upward_keeps table tree (length table) (omega arith) (root_of table) (omega (arith, tree.some))

-- bounds only become narrower

narrowed_narrows : (table : List BoundedNode) (c : ℕ) (b : Option Cell) (i : ℕ) → Part (bound_at (narrowed table c b) i) (bound_at table i)
narrowed_narrows table c b i p h =
    ⊎_elim
    (λ e. ⊎_elim
    (λ l. let at_c : Holds (bound_at (narrowed table c b) c) p = subst (λ k. Holds (bound_at (narrowed table c b) k) p) e h in
    subst (λ k. Holds (bound_at table k) p) (sym e) (cut_part (bound_at table c) b p (subst (λ (x : BoundedNode). Holds x.bound p) (narrowed_same table c b l) at_c)))
    (λ l. subst (λ t. Holds (bound_at t i) p) (set_past table c (cut_node (get_or table c blank) b) l) h)
    (cases_lt c (length table)))
    (λ ne. subst (λ (x : BoundedNode). Holds x.bound p) (narrowed_other table c b i ne) h)
    (cases_eq i c)

by_children_narrows : (n : Node) (c : ℕ) (table : List BoundedNode) (i : ℕ) → Part (bound_at (cut_by_children n c table) i) (bound_at table i)
by_children_narrows (Leaf k) c table i p h = h
by_children_narrows (Inner o l r) c table i p h = narrowed_narrows table c (reach o (bound_at table l) (bound_at table r)) i p h

children_narrow : (n : Node) (c : ℕ) (table : List BoundedNode) (i : ℕ) → Part (bound_at (cut_children n c table) i) (bound_at table i)
children_narrow (Leaf k) c table i p h = h
children_narrow (Inner o l r) c table i p h =
    let first = narrowed table l (bound_at table c) in
    narrowed_narrows table l (bound_at table c) i p (narrowed_narrows first r (bound_at table c) i p h)

pub upward_narrows : (n : ℕ) (table : List BoundedNode) (i : ℕ) → Part (bound_at (upward n table) i) (bound_at table i)
unfolding upward
upward_narrows zero table i p h = h
upward_narrows (suc n) table i p h = upward_narrows n table i p (by_children_narrows (node_in (upward n table) n) n (upward n table) i p h)

pub downward_narrows : (n : ℕ) (table : List BoundedNode) (i : ℕ) → Part (bound_at (downward n table) i) (bound_at table i)
unfolding downward
downward_narrows zero table i p h = h
downward_narrows (suc n) table i p h =
    children_narrow (node_in table n) n table i p (downward_narrows n (cut_children (node_in table n) n table) i p h)

-- two bounds are the same exactly if the test says so

within_self : (c : Cell) → within c c ≡ true
within_self c = (decides_within c c).1 (λ p i. i)

same_cells : (a b : Cell) → (within a b && within b a) ≡ true → a ≡ b
same_cells a b t =
    let h = and_parts (within a b) (within b a) t in
    let ab = and_parts (below (lo b) (lo a)) (below (hi a) (hi b)) h.0 in
    let ba = and_parts (below (lo a) (lo b)) (below (hi b) (hi a)) h.1 in
    cell_ext a b (λ x. omega (arith, below_true (lo b) (lo a) ab.0 x, below_true (lo a) (lo b) ba.0 x))
    (λ x. omega (arith, below_true (hi a) (hi b) ab.1 x, below_true (hi b) (hi a) ba.1 x))

same_self : (a : Option Cell) → same_bound a a ≡ true
same_self (Some a) = and_from (within a a) (within a a) (within_self a) (within_self a)
same_self None = refl

same_true : (a b : Option Cell) → same_bound a b ≡ true → a ≡ b
same_true (Some a) (Some b) t = ap Some (same_cells a b t)
same_true (Some a) None t = absurd (false≢true t)
same_true None (Some b) t = absurd (false≢true t)
same_true None None t = refl

decides_same : (a b : Option Cell) → Decides (same_bound a b) (a ≡ b)
decides_same a b = (same_true a b, λ e. ap (same_bound a) (sym e) ∙ same_self a)

pub changed_just : (before after : List BoundedNode) (i : ℕ) → Among i (changed_nodes before after) ↔ ((i < length before) × (bound_at before i ≡ bound_at after i → ⊥))
changed_just before after i =
    let just = passing_just (is_changed before after) (length before) i in
    let other = Decides-not (same_bound (bound_at before i) (bound_at after i)) (decides_same (bound_at before i) (bound_at after i)) in
    (λ h. let g = just.0 h in (g.0, other.0 g.1), λ h. just.1 (h.0, other.1 h.1))

-- Of two tables side by side as many nodes are other than before as are told as changed.

abbrev pub is_other : BoundedNode × BoundedNode → Bool
is_other p = not (same_bound p.0.bound p.1.bound)

length_one : (t : Bool) (p : BoundedNode × BoundedNode) (rest : List (BoundedNode × BoundedNode)) → length (cond t (p ∷ rest) rest) ≡ cond t 1 0 + length rest
length_one true p rest = omega arith
length_one false p rest = omega arith

pub changed_count : (before after : List BoundedNode) → length after ≡ length before → length (filter is_other (zip before after)) ≡ length (changed_nodes before after)
changed_count [] after e = ap length (sym (passing_none (is_changed [] after)))
changed_count (b ∷ before) [] e = absurd (omega arith)
changed_count (b ∷ before) (a ∷ after) e =
    let rest : length (filter is_other (zip before after)) ≡ length (changed_nodes before after) = changed_count before after (omega arith) in
    length_one (is_other (b, a)) (b, a) (filter is_other (zip before after))
    ∙ ap (λ n. cond (is_other (b, a)) 1 0 + n) rest
    ∙ sym (count_front (is_changed (b ∷ before) (a ∷ after)) (length before))
