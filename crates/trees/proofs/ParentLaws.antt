-- A node that is named once has one parent. Assumes nothing.
use Rattle.std.proofs.Common.{◌≡◌, ℕ, zero, suc, ◌+◌, ◌<◌, ◌≤◌, ◌≢◌, List, [], ◌∷◌, length, ⊎_elim, arith}
use Rattle.std.proofs.lemmas.Bool.{cases_order}
use Rattle.trees.specs.declared.node.Node.{Node}
use Rattle.trees.specs.Nodes.{node_at, names, times_named}

-- how often one node, and how often two of them, name a child
pub named_at : (nodes : List Node) (i c : ℕ) → i < length nodes → names (node_at nodes i) c ≤ times_named nodes c
named_at [] i c h = absurd (omega arith)
named_at (n ∷ rest) zero c h = omega arith
named_at (n ∷ rest) (suc i) c h = omega (arith, named_at rest i c (omega arith))

named_two : (nodes : List Node) (i j c : ℕ) → i < j → j < length nodes → names (node_at nodes i) c + names (node_at nodes j) c ≤ times_named nodes c
named_two [] i j c l h = absurd (omega arith)
named_two (n ∷ rest) i zero c l h = absurd (omega arith)
named_two (n ∷ rest) zero (suc j) c l h = omega (arith, named_at rest j c (omega arith))
named_two (n ∷ rest) (suc i) (suc j) c l h = omega (arith, named_two rest i j c (omega arith) (omega arith))

-- Two nodes that name a child which is named once are the same.
pub one_parent : (nodes : List Node) (c i j : ℕ) → times_named nodes c ≡ 1 → i < length nodes → j < length nodes → names (node_at nodes i) c ≢ 0 → names (node_at nodes j) c ≢ 0 → i ≡ j
one_parent nodes c i j once hi hj ni nj =
    ⊎_elim (λ e. e) (⊎_elim (λ l. absurd (omega (arith, named_two nodes i j c l hj))) (λ l. absurd (omega (arith, named_two nodes j i c l hi)))) (cases_order i j)
