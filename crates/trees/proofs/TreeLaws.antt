-- What a tree's nodes say of their children, and of the sets that are made of them. Assumes nothing.
use Rattle.std.proofs.Common.{◌≡◌, ℕ, ◌<◌, Bool, true, false, ltb, List, length, Some, None, Ok, Option, sym, refl, ap, ◌∙◌, ⊎_elim, arith}
use Rattle.std.proofs.lemmas.List.{length-map, get_or-map}
use Rattle.std.proofs.lemmas.Bool.{cases_Bool, and_parts, ltb-true, true≢false}
use Rattle.grid.specs.declared.place.Place.{Place}
use Rattle.pattern.specs.Sets.{PlaceSet, leaf_set}
use Rattle.trees.specs.declared.bare.BareNode.{BareNode}
use Rattle.trees.specs.declared.node.Operation.{Operation}
use Rattle.trees.specs.declared.node.Operation.TheVariants.{Union, Both, Less, Differ}
use Rattle.trees.specs.declared.node.Node.{Node}
use Rattle.trees.specs.declared.node.Node.TheVariants.{Leaf, Inner}
use Rattle.trees.specs.Nodes.{node_from, nodes_from, node_at, children_below, Tree}
use Rattle.trees.specs.Checks.{answered, bare_at}
use Rattle.trees.specs.Faults.{Told}
use Rattle.trees.specs.Sets.{joins, asks, set_rule, node_set}
use Rattle.trees.proofs.ValueLaws.{value_leaf, value_inner}

-- Children have lower numbers than their node.
pub below_parts : (i : ℕ) (o : Operation) (l r : ℕ) (n : Node) → n ≡ Inner o l r → children_below i n ≡ true → (l < i) × (r < i)
below_parts i o l r n is below =
    let parts = and_parts (ltb l i) (ltb r i) (ap (children_below i) (sym is) ∙ below) in
    (ltb-true l i parts.0, ltb-true r i parts.1)

pub inner_below : (nodes : List Node) → Tree nodes → (i : ℕ) (o : Operation) (l r : ℕ) → i < length nodes → node_at nodes i ≡ Inner o l r → (l < i) × (r < i)
inner_below nodes tree i o l r h is = below_parts i o l r (node_at nodes i) is (tree.below i h)

-- The node at a number of bare nodes.
pub node_from_is : (bare : List BareNode) (i : ℕ) (n : Node) → i < length bare → n ≡ node_from (bare_at bare i) → node_at (nodes_from bare) i ≡ n
node_from_is bare i n h is = get_or-map node_from bare i _ (Leaf 0) h ∙ sym is

module _ (sets : List PlaceSet) (nodes : List Node) (p : Place) where
  -- The set of a leaf node, and that of an inner node, at a place.
  pub set_leaf : (i k : ℕ) → i < length nodes → node_at nodes i ≡ Leaf k → node_set sets nodes i p ≡ leaf_set sets k p
  set_leaf i k h is = ap (λ (s : PlaceSet). s p) (value_leaf (set_rule sets) nodes i k (Leaf 0) h is)

  pub set_inner : Tree nodes → (i : ℕ) (o : Operation) (l r : ℕ) → i < length nodes → node_at nodes i ≡ Inner o l r → node_set sets nodes i p ≡ joins o (node_set sets nodes l p) (node_set sets nodes r p)
  set_inner tree i o l r h is =
      let below = inner_below nodes tree i o l r h is in
      ap (λ (s : PlaceSet). s p) (value_inner (set_rule sets) nodes i o l r (Leaf 0) h is below.0 below.1)

-- Where the second set is not asked, it does not matter.
pub joins_unasked : (o : Operation) (a b : Bool) → asks o a ≡ false → joins o a false ≡ joins o a b
joins_unasked Union true b e = refl
joins_unasked Union false b e = absurd (true≢false e)
joins_unasked Both true b e = absurd (true≢false e)
joins_unasked Both false b e = refl
joins_unasked Less true b e = absurd (true≢false e)
joins_unasked Less false b e = refl
joins_unasked Differ a b e = absurd (true≢false e)

-- A bare node of a tree: where its children are, and whether its set has a place.
module _ (bare : List BareNode) (tree : Tree (nodes_from bare)) (i : ℕ) (h : i < length bare) where
  within : i < length (nodes_from bare)
  within = omega (arith, length-map bare node_from)

  pub bare_below : (o : Operation) (l r : ℕ) → Inner o l r ≡ node_from (bare_at bare i) → (l < i) × (r < i)
  bare_below o l r is = inner_below (nodes_from bare) tree i o l r within (node_from_is bare i (Inner o l r) h is)

  pub bare_leaf : (sets : List PlaceSet) (p : Place) (k : ℕ) → Leaf k ≡ node_from (bare_at bare i) → leaf_set sets k p ≡ node_set sets (nodes_from bare) i p
  bare_leaf sets p k is = sym (set_leaf sets (nodes_from bare) p i k within (node_from_is bare i (Leaf k) h is))

  -- From what was asked of the children: the left one, and the right one where that matters.
  pub bare_joined : (sets : List PlaceSet) (p : Place) (o : Operation) (l r : ℕ) → Inner o l r ≡ node_from (bare_at bare i) → (a : Bool) → a ≡ node_set sets (nodes_from bare) l p → (c : Bool) → (asks o a ≡ false → c ≡ joins o a false) → (asks o a ≡ true → (b : Bool) × (b ≡ node_set sets (nodes_from bare) r p) × (c ≡ joins o a b)) → c ≡ node_set sets (nodes_from bare) i p
  bare_joined sets p o l r is a left c unasked asked =
      let whole = set_inner sets (nodes_from bare) p tree i o l r within (node_from_is bare i (Inner o l r) h is) in
      ⊎_elim
      (λ e. let k = asked e in let right = k.1 in let joint = k.2 in cc)
      (λ e. let same = joins_unasked o a (node_set sets (nodes_from bare) r p) e in let joint = unasked e in cc)
      (cases_Bool (asks o a))

-- What a check accepted is answered with the value at hand.
pub accepted : {A B : Type 0} (o : Option Told) (a : A) (b : B) → Ok a ≡ answered o a → Ok b ≡ answered o b
accepted (Some t) a b e = absurd (let z : ◌≡◌ {A = ℕ} 0 1 = cc in omega arith)
accepted None a b e = refl
