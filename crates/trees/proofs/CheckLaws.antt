-- The first fault of a tree is there and nothing before it is broken, and a tree with no fault is sound. Assumes nothing.
use Rattle.std.proofs.Common.{◌≡◌, ℕ, zero, suc, ◌+◌, ◌-◌, ◌<◌, ◌≤◌, true, false, cond, ◌&&◌, ◌||◌, eqb, ltb, List, length, drop, Some, None, Option, Result, sym, refl, subst, inl, inr, ⊎_elim, arith}
use Rattle.std.proofs.lemmas.List.{at_drop_all, get_or-map, length-map}
use Rattle.std.proofs.lemmas.Bool.{cases_eq, cond_both, and_from, and_parts, and_cases, or_cases, or_parts, eqb-true, eqb-false, ltb-true, ltb-false, lt-ltb}
use Rattle.trees.specs.declared.bare.BareNode.{BareNode}
use Rattle.trees.specs.declared.node.Node.TheVariants.{Leaf, Inner}
use Rattle.trees.specs.Nodes.{operation_of, node_from, nodes_from, children_below, times_named, Tree}
use Rattle.trees.specs.Faults.{Told}
use Rattle.trees.specs.Checks.{fault, or_else, node_fault, node_faults, parent_faults, tree_fault, answered, bare_at, Broken, size, operation, child, leaf, parent, turn, Sound, CheckLaw}
use Rattle.trees.proofs.SearchLaws.{fault_next}

-- The node at the number i has no fault of its own.
record Fine (leaves i : ℕ) (b : BareNode) : Type 0 where
  known : b.operation ≤ 4
  leaf : b.operation ≡ 0 → b.left < leaves
  children : 0 < b.operation → (b.left < i) × (b.right < i)

-- Nothing is broken before a turn.
record Clear (leaves : ℕ) (bare : List BareNode) (before : ℕ) : Type 0 where
  size : 0 < before → (0 < length bare) × (length bare ≤ 127)
  nodes : (i : ℕ) → i < length bare → 1 + i < before → Fine leaves i (bare_at bare i)
  parents : (i : ℕ) → suc i < length bare → 1 + length bare + i < before → times_named (nodes_from bare) i ≡ 1

positive : (n : ℕ) → eqb n 0 ≡ false → 0 < n
positive n other = omega (arith, eqb-false n 0 other)

not_before : (before t : ℕ) → (t < before → ⊥) → before ≤ t
not_before before t late = omega (arith, late)

-- What is broken has its turn only then.
clear_turn : {leaves : ℕ} {bare : List BareNode} {number node : ℕ} (before : ℕ) → Clear leaves bare before → Broken leaves bare number node → before ≤ turn (length bare) (fault number node)
clear_turn before clear (size wrong) = not_before before 0 (λ early. let ok = clear.size early in ⊎_elim (λ z. omega arith) (λ z. omega arith) wrong)
clear_turn before clear (operation i within above) = not_before before (1 + i) (λ early. omega (arith, (clear.nodes i within early).known))
clear_turn before clear (child i within inner known wrong) =
    not_before before (1 + i) (λ early. let ok = (clear.nodes i within early).children inner in ⊎_elim (λ z. omega arith) (λ z. omega arith) wrong)
clear_turn before clear (leaf i within is above) = not_before before (1 + i) (λ early. omega (arith, (clear.nodes i within early).leaf is))
clear_turn {bare} before clear (parent i within other) = not_before before (1 + length bare + i) (λ early. other (clear.parents i within early))

module _ (leaves : ℕ) (bare : List BareNode) where
  -- A possible fault of a search: it is there and nothing is broken before it, or nothing is before the end of the search.
  Searched : ℕ → Option Told → Type 0
  Searched end (Some t) = Broken leaves bare t.number t.node × Clear leaves bare (turn (length bare) t)
  Searched end None = Clear leaves bare end

  -- The possible fault of the node at the number i.
  AtNode : ℕ → Option Told → Type 0
  AtNode i (Some t) = Broken leaves bare t.number t.node × (turn (length bare) t ≡ 1 + i)
  AtNode i None = Fine leaves i (bare_at bare i)

  at_leaf : (i : ℕ) → i < length bare → (bare_at bare i).operation ≡ 0 → AtNode i (cond (ltb (bare_at bare i).left leaves) None (Some (fault 8 i)))
  unfolding AtNode
  at_leaf i within is =
      let b : BareNode = bare_at bare i in
      cond_both (ltb b.left leaves) None (Some (fault 8 i)) (AtNode i)
      (λ there. record { known = omega arith; leaf = λ e. ltb-true b.left leaves there; children = λ inner. absurd (omega arith) })
      (λ missing. (leaf i within is (ltb-false b.left leaves missing), refl))

  at_inner : (i : ℕ) → i < length bare → 0 < (bare_at bare i).operation → (bare_at bare i).operation ≤ 4 → AtNode i (cond (ltb (bare_at bare i).left i && ltb (bare_at bare i).right i) None (Some (fault 7 i)))
  unfolding AtNode
  at_inner i within inner known =
      let b : BareNode = bare_at bare i in
      let low = ltb b.left i in
      let lower = ltb b.right i in
      cond_both (low && lower) None (Some (fault 7 i)) (AtNode i)
      (λ both. record { known = known; leaf = λ e. absurd (omega arith); children = λ e. (ltb-true b.left i (and_parts low lower both).0, ltb-true b.right i (and_parts low lower both).1) })
      (λ one. (child i within inner known (⊎_elim (λ z. inl (ltb-false b.left i z)) (λ z. inr (ltb-false b.right i z)) (and_cases low lower one)), refl))

  at_node : (i : ℕ) → i < length bare → AtNode i (node_fault leaves i (bare_at bare i))
  unfolding AtNode
  at_node i within =
      let n = (bare_at bare i).operation in
      cond_both (ltb 4 n) _ _ (AtNode i)
      (λ unknown. (operation i within (ltb-true 4 n unknown), refl))
      (λ known. cond_both (eqb n 0) _ _ (AtNode i) (λ zero. at_leaf i within (eqb-true n 0 zero)) (λ other. at_inner i within (positive n other) (ltb-false 4 n known)))

  -- One more node is fine.
  clear_node : (i : ℕ) → i < length bare → Clear leaves bare (1 + i) → Fine leaves i (bare_at bare i) → Clear leaves bare (1 + (i + 1))
  clear_node i within clear fine = record {
    size = λ _. clear.size (omega arith);
    nodes = λ j inside early. ⊎_elim (λ same. subst (λ k. Fine leaves k (bare_at bare k)) (sym same) fine) (λ other. clear.nodes j inside (omega arith)) (cases_eq j i);
    parents = λ j inside early. absurd (omega arith);
  }

  -- The nodes from i on, once those before it are fine.
  nodes_searched : (more i : ℕ) → i + more ≡ length bare → Clear leaves bare (1 + i) → Searched (1 + length bare) (node_faults leaves i (drop i bare))
  unfolding Searched AtNode
  nodes_searched zero i all clear =
      subst (Searched (1 + length bare)) (sym (at_drop_all (node_faults leaves i) bare i (omega arith)))
      (subst (Clear leaves bare) (let e : 1 + i ≡ 1 + length bare = omega arith in e) clear)
  nodes_searched (suc more) i all clear =
      let within : i < length bare = omega arith in
      let rest = node_faults leaves (i + 1) (drop (i + 1) bare) in
      let next : (o : Option Told) → AtNode i o → Searched (1 + length bare) (or_else o rest) = elim [
        | Some t ↦ λ found. (found.0, subst (Clear leaves bare) (sym found.1) clear)
        | None ↦ λ fine. nodes_searched more (i + 1) (omega arith) (clear_node i within clear fine)
      ] in
      subst (Searched (1 + length bare)) (sym (fault_next bare i _ within leaves i _ refl)) (next (node_fault leaves i (bare_at bare i)) (at_node i within))

  -- One more node is named once.
  clear_parent : (i : ℕ) → suc i < length bare → Clear leaves bare (1 + length bare + i) → times_named (nodes_from bare) i ≡ 1 → Clear leaves bare (1 + length bare + suc i)
  clear_parent i within clear one = record {
    size = λ _. clear.size (omega arith);
    nodes = λ j inside early. clear.nodes j inside (omega arith);
    parents = λ j inside early. ⊎_elim (λ same. subst (λ k. times_named (nodes_from bare) k ≡ 1) (sym same) one) (λ other. clear.parents j inside (omega arith)) (cases_eq j i);
  }

  -- The parents of the nodes from i on, once those before it are named once.
  parents_searched : (more i : ℕ) → suc (i + more) ≡ length bare → Clear leaves bare (1 + length bare + i) → Searched (1 + length bare + length bare) (parent_faults (nodes_from bare) i more)
  unfolding Searched
  parents_searched zero i all clear = record {
    size = λ _. clear.size (omega arith);
    nodes = λ j inside early. clear.nodes j inside (omega arith);
    parents = λ j inside early. clear.parents j inside (omega arith);
  }
  parents_searched (suc more) i all clear =
      let rest = parent_faults (nodes_from bare) (suc i) more in
      cond_both (eqb (times_named (nodes_from bare) i) 1) None (Some (fault 9 i)) (λ o. Searched (1 + length bare + length bare) (or_else o rest))
      (λ one. parents_searched more (suc i) (omega arith) (clear_parent i (omega arith) clear (eqb-true (times_named (nodes_from bare) i) 1 one)))
      (λ other. (parent i (omega arith) (eqb-false (times_named (nodes_from bare) i) 1 other), clear))

  -- Once the number of nodes is right.
  start : eqb (length bare) 0 ≡ false → ltb 127 (length bare) ≡ false → Clear leaves bare (1 + 0)
  start some few = record {
    size = λ early. (positive (length bare) some, ltb-false 127 (length bare) few);
    nodes = λ j inside early. absurd (omega arith);
    parents = λ j inside early. absurd (omega arith);
  }

  -- The parents, once the nodes were looked at.
  nodes_then_parents : 0 < length bare → (o : Option Told) → Searched (1 + length bare) o → Searched (1 + length bare + length bare) (or_else o (parent_faults (nodes_from bare) 0 (length bare - 1)))
  unfolding Searched
  nodes_then_parents some (Some t) found = found
  nodes_then_parents some None clear =
      parents_searched (length bare - 1) 0 (omega arith) (subst (Clear leaves bare) (let e : 1 + length bare ≡ 1 + length bare + 0 = omega arith in e) clear)

  -- The whole search.
  tree_searched : Searched (1 + length bare + length bare) (tree_fault leaves bare)
  unfolding Searched
  tree_searched =
      let none = eqb (length bare) 0 in
      let many = ltb 127 (length bare) in
      cond_both (none || many) _ _ (Searched (1 + length bare + length bare))
      (λ wrong. (
        size (⊎_elim (λ z. inl (eqb-true (length bare) 0 z)) (λ z. inr (ltb-true 127 (length bare) z)) (or_cases none many wrong)),
        record { size = λ early. absurd (omega arith); nodes = λ j inside early. absurd (omega arith); parents = λ j inside early. absurd (omega arith) },
      ))
      (λ right.
      let clear = start (or_parts none many right).0 (or_parts none many right).1 in
      nodes_then_parents (clear.size (omega arith)).0 (node_faults leaves 0 bare) (nodes_searched (length bare) 0 (omega arith) clear))

  children_lie_below : (i : ℕ) (b : BareNode) → Fine leaves i b → children_below i (node_from b) ≡ true
  children_lie_below i b fine =
      cond_both (eqb b.operation 0) (Leaf b.left) (Inner (operation_of b.operation) b.left b.right) (λ n. children_below i n ≡ true) (λ zero. refl) (λ other.
      let low = fine.children (positive b.operation other) in
      and_from (ltb b.left i) (ltb b.right i) (lt-ltb b.left i low.0) (lt-ltb b.right i low.1))

  -- With nothing broken the nodes are those of a tree.
  clear_tree : Clear leaves bare (1 + length bare + length bare) → Tree (nodes_from bare)
  clear_tree clear =
      let same = length-map bare node_from in
      let count = clear.size (omega arith) in
      record {
        some = omega arith;
        few = omega arith;
        below = λ i inside.
            let within : i < length bare = omega arith in
            subst (λ n. children_below i n ≡ true) (sym (get_or-map node_from bare i _ (Leaf 0) within)) (children_lie_below i (bare_at bare i) (clear.nodes i within (omega arith)));
        parents = λ j inside. clear.parents j (omega arith) (omega arith);
      }

  clear_sound : Clear leaves bare (1 + length bare + length bare) → Sound leaves bare
  clear_sound clear = record {
    known = λ i within. (clear.nodes i within (omega arith)).known;
    leaf = λ i within is. (clear.nodes i within (omega arith)).leaf is;
    tree = clear_tree clear;
  }

  searched_law : {A : Type 0} (a : A) (o : Option Told) → Searched (1 + length bare + length bare) o → CheckLaw leaves bare (answered o a)
  unfolding Searched
  searched_law a (Some t) found = record { there = found.0; first = λ u broken. clear_turn (turn (length bare) t) found.1 broken }
  searched_law a None clear = clear_sound clear

  -- What an answer by the first fault says.
  pub check_law : {A : Type 0} (a : A) → CheckLaw leaves bare (answered (tree_fault leaves bare) a)
  check_law a = searched_law a (tree_fault leaves bare) tree_searched

  pub answer_law : {A : Type 0} (a : A) (r : Result A Told) → r ≡ answered (tree_fault leaves bare) a → CheckLaw leaves bare r
  answer_law a r is = subst (CheckLaw leaves bare) (sym is) (check_law a)
