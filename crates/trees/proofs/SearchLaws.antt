-- What is left of a search through the nodes after one more of them. Assumes nothing.
use Rattle.std.proofs.Common.{◌≡◌, ℕ, suc, ◌+◌, ◌-◌, ◌<◌, List, [], ◌∷◌, length, get_or, drop, sum_by, Some, None, Ok, Err, Option, Result, sym, refl, ap, ◌∙◌, add-one, arith}
use Rattle.std.proofs.lemmas.List.{at_drop_more}
use Rattle.std.proofs.lemmas.List.Sums.{sum_by-cons}
use Rattle.trees.specs.declared.bare.BareNode.{BareNode}
use Rattle.trees.specs.declared.node.Node.{Node}
use Rattle.trees.specs.Nodes.{node_from, nodes_from, names, times_named}
use Rattle.trees.specs.Faults.{Told}
use Rattle.trees.specs.Checks.{or_else, answered, node_fault, node_faults, parent_fault, parent_faults}

-- What an answer says of the fault that may be found.
pub refused : (o : Option Told) (t : Told) → ◌≡◌ {A = Result (Unit {0}) Told} (Err t) (answered o tt) → Some t ≡ o
refused (Some u) t e = cc
refused None t e = absurd (let z : ◌≡◌ {A = ℕ} 0 1 = cc in omega arith)

pub passed : (o : Option Told) → ◌≡◌ {A = Result (Unit {0}) Told} (Ok tt) (answered o tt) → None ≡ o
passed (Some u) e = absurd (let z : ◌≡◌ {A = ℕ} 0 1 = cc in omega arith)
passed None e = refl

-- The times that the nodes name a child are the sum of the times that each of them does.
pub times_named_sum : (bare : List BareNode) (child : ℕ) → sum_by (λ b. names (node_from b) child) bare ≡ times_named (nodes_from bare) child
times_named_sum [] child = refl
times_named_sum (b ∷ rest) child = sum_by-cons _ b rest ∙ ap (λ k. names (node_from b) child + k) (times_named_sum rest child)

pub times_named_from_sum : (bare : List BareNode) (child times : ℕ) → times ≡ sum_by (λ b. names (node_from b) child) bare → times ≡ times_named (nodes_from bare) child
times_named_from_sum bare child times is = is ∙ times_named_sum bare child

module _ (xs : List BareNode) (i : ℕ) (d : BareNode) (within : i < length xs) where
  -- the first fault from the node at i on is its own, or else the first of those behind it
  pub fault_next : (leaves number : ℕ) (r : Option Told) → r ≡ node_fault leaves number (get_or xs i d) → node_faults leaves number (drop i xs) ≡ or_else r (node_faults leaves (number + 1) (drop (i + 1) xs))
  fault_next leaves number r told =
      at_drop_more (node_faults leaves number) xs i d within
      ∙ ap (λ k. or_else (node_fault leaves number (get_or xs i d)) (node_faults leaves k (drop (i + 1) xs))) (sym (add-one number))
      ∙ ap (λ o. or_else o (node_faults leaves (number + 1) (drop (i + 1) xs))) (sym told)

-- of the nodes from i on, the first that is not named once is i, or else the first of those behind it
pub parent_next : (nodes : List Node) (i root : ℕ) → i < root → (r : Option Told) → r ≡ parent_fault nodes i → parent_faults nodes i (root - i) ≡ or_else r (parent_faults nodes (i + 1) (root - (i + 1)))
parent_next nodes i root below r told =
    ap (parent_faults nodes i) (let e : root - i ≡ suc (root - (i + 1)) = omega arith in e)
    ∙ ap (λ k. or_else (parent_fault nodes i) (parent_faults nodes k (root - (i + 1)))) (sym (add-one i))
    ∙ ap (λ o. or_else o (parent_faults nodes (i + 1) (root - (i + 1)))) (sym told)
