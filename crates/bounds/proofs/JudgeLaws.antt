-- What a judgement is worked out from, and what it says. Assumes nothing.
use Rattle.std.proofs.Common.{◌≡◌, ℕ, ◌<◌, Bool, true, false, not, ◌&&◌, ◌||◌, List, length, get_or, sym, refl, ap, ◌∙◌, subst, ⊎_elim, arith}
use Rattle.std.proofs.lemmas.Bool.{true≢false, cases_Bool, not_from_true, not_from_false, or_left, or_right, or_from}
use Rattle.grid.specs.declared.cell.Cell.{Cell}
use Rattle.grid.specs.declared.place.Place.{Place}
use Rattle.pattern.specs.declared.relation.Relation.{Relation}
use Rattle.pattern.specs.declared.relation.Relation.TheVariants.{Inside, Outside, Mixed}
use Rattle.pattern.specs.Sets.{PlaceSet, leaf_set, without}
use Rattle.pattern.specs.Relations.{Says, box_set, box_relation}
use Rattle.pattern.specs.Banks.{Meaning, Facts}
use Rattle.pattern.proofs.ExactLaws.{exact_says}
use Rattle.pattern.proofs.BoxLaws.{box_set_exact}
use Rattle.trees.specs.declared.node.Operation.{Operation}
use Rattle.trees.specs.declared.node.Operation.TheVariants.{Union, Both, Less, Differ}
use Rattle.trees.specs.declared.node.Node.{Node}
use Rattle.trees.specs.declared.node.Node.TheVariants.{Leaf, Inner}
use Rattle.trees.specs.Nodes.{Tree}
use Rattle.trees.specs.Sets.{joins, join_sets, root_of}
use Rattle.trees.proofs.ValueLaws.{rising, value_leaf, value_inner}
use Rattle.bounds.specs.declared.bounded_node.BoundedNode.{BoundedNode}
use Rattle.bounds.specs.declared.tree.BoundedTree.{BoundedTree}
use Rattle.bounds.specs.Trees.{nodes_of}
use Rattle.bounds.specs.Tables.{nodes_in, blank, bound_at}
use Rattle.bounds.specs.Sets.{cut_set, bounded_rule, bounded_set, root_set}
use Rattle.bounds.specs.Judgement.{opposite, union_of, both_of, differ_of, join_relations, judge_rule, judged_at, judged, asks_right}
use Rattle.bounds.proofs.TableLaws.{inner_lower, tree_of}

-- Where the second child is not asked, it does not matter.
pub join_unasked : (o : Operation) (b q r s : Relation) → asks_right o b q ≡ false → both_of b (join_relations o q r) ≡ both_of b (join_relations o q s)
join_unasked Union b Inside r s e = refl
join_unasked Union Inside Mixed r s e = absurd (true≢false e)
join_unasked Union Outside Mixed r s e = refl
join_unasked Union Mixed Mixed Inside Inside e = refl
join_unasked Union Mixed Mixed Inside Outside e = refl
join_unasked Union Mixed Mixed Inside Mixed e = refl
join_unasked Union Mixed Mixed Outside Inside e = refl
join_unasked Union Mixed Mixed Outside Outside e = refl
join_unasked Union Mixed Mixed Outside Mixed e = refl
join_unasked Union Mixed Mixed Mixed Inside e = refl
join_unasked Union Mixed Mixed Mixed Outside e = refl
join_unasked Union Mixed Mixed Mixed Mixed e = refl
join_unasked Union b Outside r s e = absurd (true≢false e)
join_unasked Both b Inside r s e = absurd (true≢false e)
join_unasked Both b Outside r s e = refl
join_unasked Both b Mixed r s e = absurd (true≢false e)
join_unasked Less b Inside r s e = absurd (true≢false e)
join_unasked Less b Outside r s e = refl
join_unasked Less b Mixed r s e = absurd (true≢false e)
join_unasked Differ b Inside r s e = absurd (true≢false e)
join_unasked Differ b Outside r s e = absurd (true≢false e)
join_unasked Differ b Mixed r s e = refl

-- The judgement by one node.
module _ (m : Meaning) (table : List BoundedNode) (tree : Tree (nodes_in table)) (c : Cell) (i : ℕ) (here : i < length table) (e : BoundedNode) (read : e ≡ get_or table i blank) (b : Relation) (bound : b ≡ box_relation e.bound c) where
  pub judged_leaf : (k : ℕ) → e.node ≡ Leaf k → both_of b (m.relation k c) ≡ judged_at m table c i
  judged_leaf k is =
      ap (λ x. both_of x (m.relation k c)) (bound ∙ ap (λ (x : BoundedNode). box_relation x.bound c) read)
      ∙ sym (value_leaf (judge_rule m c) table i k blank here (ap (λ x. x.node) (sym read) ∙ is))

  pub judged_inner : (o : Operation) (l r : ℕ) → e.node ≡ Inner o l r → both_of b (join_relations o (judged_at m table c l) (judged_at m table c r)) ≡ judged_at m table c i
  judged_inner o l r is =
      let at_i : (get_or table i blank).node ≡ Inner o l r = ap (λ x. x.node) (sym read) ∙ is in
      let lower = inner_lower table tree i o l r here at_i in
      ap (λ x. both_of x (join_relations o (judged_at m table c l) (judged_at m table c r))) (bound ∙ ap (λ (x : BoundedNode). box_relation x.bound c) read)
      ∙ sym (value_inner (judge_rule m c) table i o l r blank here at_i lower.0 lower.1)

  missed_node : (n : Node) → e.node ≡ n → b ≡ Outside → Outside ≡ judged_at m table c i
  missed_node (Leaf k) is out = ap (λ x. both_of x (m.relation k c)) (sym out) ∙ judged_leaf k is
  missed_node (Inner o l r) is out = ap (λ x. both_of x (join_relations o (judged_at m table c l) (judged_at m table c r))) (sym out) ∙ judged_inner o l r is

  -- a node whose bound misses the cell
  pub judged_missed : b ≡ Outside → Outside ≡ judged_at m table c i
  judged_missed out = missed_node e.node refl out

  -- an inner node, from the relations of its children
  module _ (o : Operation) (l r : ℕ) (is : e.node ≡ Inner o l r) (q : Relation) (left : q ≡ judged_at m table c l) where
    pub judged_both : (s : Relation) → s ≡ judged_at m table c r → both_of b (join_relations o q s) ≡ judged_at m table c i
    judged_both s right = ap (λ x. both_of b (join_relations o x s)) left ∙ ap (λ x. both_of b (join_relations o (judged_at m table c l) x)) right ∙ judged_inner o l r is

    -- where that of the right one is known only if it was asked
    pub judged_asked : (s : Relation) (asked : Bool) → asked ≡ asks_right o b q → (asked ≡ true → s ≡ judged_at m table c r) → both_of b (join_relations o q s) ≡ judged_at m table c i
    judged_asked s asked asks right =
        ⊎_elim
        (λ t. judged_both s (right t))
        (λ f. join_unasked o b q s (judged_at m table c r) (sym asks ∙ f) ∙ judged_both (judged_at m table c r) refl)
        (cases_Bool asked)

-- What relations say under the operations.

says_opposite : (q : Relation) (s : PlaceSet) (c : Cell) → Says q s c → Says (opposite q) (without s) c
says_opposite Inside s c h = λ p i. not_from_true (s p) (h p i)
says_opposite Outside s c h = λ p i. not_from_false (s p) (h p i)
says_opposite Mixed s c h = h

-- what is said of a set is said of one with the same places
says_same : (q : Relation) (s t : PlaceSet) (c : Cell) → ((p : Place) → s p ≡ t p) → Says q s c → Says q t c
says_same Inside s t c same h = λ p i. sym (same p) ∙ h p i
says_same Outside s t c same h = λ p i. sym (same p) ∙ h p i
says_same Mixed s t c same h = h

says_union : (q r : Relation) (s t : PlaceSet) (c : Cell) → Says q s c → Says r t c → Says (union_of q r) (join_sets Union s t) c
says_union Inside r s t c h k = λ p i. or_left (s p) (t p) (h p i)
says_union Outside Inside s t c h k = λ p i. or_right (s p) (t p) (k p i)
says_union Outside Outside s t c h k = λ p i. or_from (s p) (t p) (h p i) (k p i)
says_union Outside Mixed s t c h k = k
says_union Mixed Inside s t c h k = λ p i. or_right (s p) (t p) (k p i)
says_union Mixed Outside s t c h k = h
says_union Mixed Mixed s t c h k = h

de_morgan : (a b : Bool) → not (not a || not b) ≡ (a && b)
de_morgan true true = refl
de_morgan true false = refl
de_morgan false b = refl

pub says_both : (q r : Relation) (s t : PlaceSet) (c : Cell) → Says q s c → Says r t c → Says (both_of q r) (join_sets Both s t) c
says_both q r s t c h k =
    says_same (both_of q r) (without (join_sets Union (without s) (without t))) (join_sets Both s t) c (λ p. de_morgan (s p) (t p))
    (says_opposite (union_of (opposite q) (opposite r)) (join_sets Union (without s) (without t)) c (says_union (opposite q) (opposite r) (without s) (without t) c (says_opposite q s c h) (says_opposite r t c k)))

says_differ : (q r : Relation) (s t : PlaceSet) (c : Cell) → Says q s c → Says r t c → Says (differ_of q r) (join_sets Differ s t) c
says_differ Inside Inside s t c h k = λ p i. ap (λ a. joins Differ a (t p)) (h p i) ∙ not_from_true (t p) (k p i)
says_differ Inside Outside s t c h k = λ p i. ap (λ a. joins Differ a (t p)) (h p i) ∙ not_from_false (t p) (k p i)
says_differ Inside Mixed s t c h k = k
says_differ Outside Inside s t c h k = λ p i. ap (λ a. joins Differ a (t p)) (h p i) ∙ k p i
says_differ Outside Outside s t c h k = λ p i. ap (λ a. joins Differ a (t p)) (h p i) ∙ k p i
says_differ Outside Mixed s t c h k = k
says_differ Mixed r s t c h k = h

says_join : (o : Operation) (q r : Relation) (s t : PlaceSet) (c : Cell) → Says q s c → Says r t c → Says (join_relations o q r) (join_sets o s t) c
says_join Union q r s t c h k = says_union q r s t c h k
says_join Both q r s t c h k = says_both q r s t c h k
says_join Less q r s t c h k = says_both q (opposite r) s (without t) c h (says_opposite r t c k)
says_join Differ q r s t c h k = says_differ q r s t c h k

-- A judgement says what it should of the bounded set of its node.
module _ (m : Meaning) (facts : Facts m) (table : List BoundedNode) (tree : Tree (nodes_in table)) (c : Cell) where
  says_cut : (i : ℕ) (q : Relation) (s : PlaceSet) → Says q s c → Says (both_of (box_relation (bound_at table i) c) q) (cut_set (bound_at table i) s) c
  says_cut i q s h = says_both (box_relation (bound_at table i) c) q (box_set (bound_at table i)) s c (exact_says (box_set (bound_at table i)) c (box_relation (bound_at table i) c) (box_set_exact (bound_at table i) c)) h

  says_node : (i : ℕ) → i < length table → ((j : ℕ) → j < i → j < length table → Says (judged_at m table c j) (bounded_set m.sets table j) c) → (n : Node) → (get_or table i blank).node ≡ n → Says (judged_at m table c i) (bounded_set m.sets table i) c
  says_node i h ih (Leaf k) is =
      let judgement = value_leaf (judge_rule m c) table i k blank h is in
      let set = value_leaf (bounded_rule m.sets) table i k blank h is in
      subst (λ q. Says q (bounded_set m.sets table i) c) (sym judgement) (subst (λ s. Says (both_of (box_relation (bound_at table i) c) (m.relation k c)) s c) (sym set) (says_cut i (m.relation k c) (leaf_set m.sets k) (facts.relates k c)))
  says_node i h ih (Inner o l r) is =
      let lower = inner_lower table tree i o l r h is in
      let judgement = value_inner (judge_rule m c) table i o l r blank h is lower.0 lower.1 in
      let set = value_inner (bounded_rule m.sets) table i o l r blank h is lower.0 lower.1 in
      let join = says_join o (judged_at m table c l) (judged_at m table c r) (bounded_set m.sets table l) (bounded_set m.sets table r) c (ih l lower.0 (omega (arith, lower.0))) (ih r lower.1 (omega (arith, lower.1))) in
      let both = says_cut i (join_relations o (judged_at m table c l) (judged_at m table c r)) (join_sets o (bounded_set m.sets table l) (bounded_set m.sets table r)) join in
      subst (λ q. Says q (bounded_set m.sets table i) c) (sym judgement) (subst (λ s. Says (both_of (box_relation (bound_at table i) c) (join_relations o (judged_at m table c l) (judged_at m table c r))) s c) (sym set) both)

  pub judged_says : (i : ℕ) → i < length table → Says (judged_at m table c i) (bounded_set m.sets table i) c
  judged_says = rising (λ i. i < length table → Says (judged_at m table c i) (bounded_set m.sets table i) c) (λ i ih h. says_node i h ih (get_or table i blank).node refl)

-- The judgement by the root of a checked tree, likewise.
pub judged_told : (m : Meaning) → Facts m → (t : BoundedTree) (c : Cell) (r : Relation) → r ≡ judged m (nodes_of t) c → Says r (root_set m.sets (nodes_of t)) c
judged_told m facts t c r is =
    let tree = tree_of t in
    subst (λ q. Says q (root_set m.sets (nodes_of t)) c) (sym is) (judged_says m facts (nodes_of t) tree c (root_of (nodes_of t)) (omega (arith, t.some, t.whole)))
