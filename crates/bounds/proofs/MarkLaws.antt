-- Marking the leaf nodes that cover a node. Assumes nothing.
use Rattle.std.proofs.Common.{◌≡◌, ℕ, zero, suc, ◌-◌, ◌<◌, Bool, true, false, cond, ◌||◌, eqb, leb, ◌⊎◌, List, length, get_or, take, set, replicate, sym, refl, ap, ◌∙◌, subst, ⊎_elim, get_or-set_other, get_or-set_same, get_or-take, length-take-le, arith}
use Rattle.std.proofs.Math.Bool.{or_assoc, or-false}
use Rattle.std.proofs.lemmas.Bool.{cases_eq, or_right, eq-eqb, ne_eqb}
use Rattle.trees.specs.declared.node.Operation.{Operation}
use Rattle.trees.specs.declared.node.Operation.TheVariants.{Union, Both, Less, Differ}
use Rattle.trees.specs.declared.node.Node.{Node}
use Rattle.trees.specs.declared.node.Node.TheVariants.{Leaf, Inner}
use Rattle.trees.specs.Nodes.{Tree, node_at}
use Rattle.trees.specs.Sets.{root_of}
use Rattle.bounds.specs.declared.tree.BoundedTree.{BoundedTree}
use Rattle.bounds.specs.Tables.{nodes_in}
use Rattle.bounds.specs.Trees.{nodes_of}
use Rattle.bounds.specs.Tightening.{passing}
use Rattle.bounds.specs.Covering.{covers_inner, cover_at, covering_leaves}
use Rattle.bounds.proofs.TableLaws.{nodes_count}
use Rattle.bounds.proofs.PassingLaws.{passing_like}
use Rattle.bounds.proofs.CoverLaws.{leaf_covers, inner_covers}

-- The marks are those from before, and those of the numbers that pass.
abbrev pub Marked : List Bool → List Bool → (ℕ → Bool) → Type 0
Marked before after test = (j : ℕ) → get_or after j false ≡ (get_or before j false || test j)

marked_as : (before after : List Bool) (f g : ℕ → Bool) → ((j : ℕ) → g j ≡ f j) → Marked before after f → Marked before after g
marked_as before after f g same marked j = marked j ∙ ap (λ b. get_or before j false || b) (sym (same j))

marked_two : (before between after : List Bool) (f g : ℕ → Bool) → Marked before between f → Marked between after g → Marked before after (λ j. f j || g j)
marked_two before between after f g first second j = second j ∙ ap (λ b. b || g j) (first j) ∙ or_assoc (get_or before j false) (f j) (g j)

marked_one : (marks : List Bool) (i : ℕ) → i < length marks → Marked marks (set marks i true) (λ j. eqb i j)
marked_one marks i h j =
    ⊎_elim
    (λ e. ap (λ k. get_or (set marks i true) k false) e ∙ get_or-set_same marks i true false h ∙ sym (or_right (get_or marks j false) (eqb i j) (eq-eqb i j (sym e))))
    (λ ne. get_or-set_other marks i j true false ne ∙ sym (ap (λ b. get_or marks j false || b) (ne_eqb i j (λ e. ne (sym e))) ∙ or-false (get_or marks j false)))
    (cases_eq j i)

-- The marks of a node, from those of its children.
module _ (nodes : List Node) (i : ℕ) (here : i < length nodes) where
  pub marked_leaf : (k : ℕ) → node_at nodes i ≡ Leaf k → (marks : List Bool) → i < length marks → Marked marks (set marks i true) (cover_at nodes i).covers
  marked_leaf k is marks h = marked_as marks (set marks i true) (λ j. eqb i j) (cover_at nodes i).covers (leaf_covers nodes i here k is) (marked_one marks i h)

  module _ (tree : Tree nodes) (o : Operation) (l r : ℕ) (is : node_at nodes i ≡ Inner o l r) (before after : List Bool) where
    marked_inner : (p : Operation) → o ≡ p → Marked before after (covers_inner p (cover_at nodes l) (cover_at nodes r)) → Marked before after (cover_at nodes i).covers
    marked_inner p e = marked_as before after (covers_inner p (cover_at nodes l) (cover_at nodes r)) (cover_at nodes i).covers (λ j. inner_covers nodes i here tree o l r is j ∙ ap (λ q. covers_inner q (cover_at nodes l) (cover_at nodes r) j) e)

    pub marked_union : (o ≡ Union) ⊎ (o ≡ Differ) → (between : List Bool) → Marked before between (cover_at nodes l).covers → Marked between after (cover_at nodes r).covers → Marked before after (cover_at nodes i).covers
    marked_union e between first second =
        let two = marked_two before between after (cover_at nodes l).covers (cover_at nodes r).covers first second in
        ⊎_elim (λ u. marked_inner Union u two) (λ d. marked_inner Differ d two) e

    pub marked_less : o ≡ Less → Marked before after (cover_at nodes l).covers → Marked before after (cover_at nodes i).covers
    marked_less e first = marked_inner Less e first

    pub marked_both : o ≡ Both → (f : ℕ) → f ≡ cond (leb (cover_at nodes l).leaves (cover_at nodes r).leaves) l r → Marked before after (cover_at nodes f).covers → Marked before after (cover_at nodes i).covers
    marked_both e f chosen marked =
        marked_inner Both e
        (marked_as before after (cover_at nodes f).covers (covers_inner Both (cover_at nodes l) (cover_at nodes r)) (λ j. sym (ap (λ n. (cover_at nodes n).covers j) chosen ∙ same j)) marked)
      where
        same : (j : ℕ) → (cover_at nodes (cond (leb (cover_at nodes l).leaves (cover_at nodes r).leaves) l r)).covers j ≡ covers_inner Both (cover_at nodes l) (cover_at nodes r) j
        same j = elim (leb (cover_at nodes l).leaves (cover_at nodes r).leaves) as (λ b. (cover_at nodes (cond b l r)).covers j ≡ cond b ((cover_at nodes l).covers j) ((cover_at nodes r).covers j)) [ true ↦ refl | false ↦ refl ]

none_marked : (n j : ℕ) → get_or (replicate n false) j false ≡ false
none_marked zero j = refl
none_marked (suc n) zero = refl
none_marked (suc n) (suc j) = none_marked n j

-- The marks of the root, gathered, are the covering leaves.
pub gathered_covers : (nodes : List Node) (count : ℕ) (marks : List Bool) → length nodes ≡ count → Marked (replicate 127 false) marks (cover_at nodes (count - 1)).covers → passing (λ j. get_or marks j false) count ≡ covering_leaves nodes
gathered_covers nodes count marks many marked =
    passing_like (λ j. get_or marks j false) (cover_at nodes (count - 1)).covers count (λ j h. marked j ∙ ap (λ b. b || (cover_at nodes (count - 1)).covers j) (none_marked 127 j))
    ∙ ap (λ n. passing (cover_at nodes (n - 1)).covers n) (sym many)

-- The same of a checked tree, whose marks stand in front of slots that are not gathered.
pub gathered_told : (t : BoundedTree) (root : ℕ) (marks : List Bool) (found : List ℕ) → root ≡ root_of (nodes_of t) → length marks ≡ 127 → Marked (replicate 127 false) marks (cover_at (nodes_in (nodes_of t)) root).covers → found ≡ passing (λ j. get_or (take t.table.count marks) j false) (length (take t.table.count marks)) → found ≡ covering_leaves (nodes_in (nodes_of t))
gathered_told t root marks found is many marked gathered =
    let nodes = nodes_in (nodes_of t) in
    let count = t.table.count in
    gathered
    ∙ ap (passing (λ j. get_or (take count marks) j false)) (length-take-le count marks (omega (arith, t.few)))
    ∙ passing_like (λ j. get_or (take count marks) j false) (λ j. get_or marks j false) count (λ j h. get_or-take count marks j false h)
    ∙ gathered_covers nodes count marks (nodes_count (nodes_of t) ∙ t.whole) (subst (λ n. Marked (replicate 127 false) marks (cover_at nodes n).covers) (is ∙ ap (λ n. n - 1) t.whole) marked)
