-- What is checked of a tree, in which order, and the test of a place.
use Rattle.std.specs.Prelude.{◌≡◌, ℕ, zero, suc, ◌+◌, ◌-◌, ◌<◌, ◌≤◌, Bool, cond, ◌&&◌, ◌||◌, ◌⊎◌, List, [], ◌∷◌, length, Some, None, Ok, Err, Option, Result, ◌==◌, ◌≢◌, nat_lt, slice_index_or}
use Rattle.grid.specs.declared.place.Place.{Place}
use Rattle.pattern.specs.Sets.{PlaceSet}
use Rattle.trees.specs.declared.bare.BareNode.{BareNode}
use Rattle.trees.specs.declared.node.Node.{Node}
use Rattle.trees.specs.Nodes.{nodes_from, times_named, Tree}
use Rattle.trees.specs.Sets.{tree_set}
use Rattle.trees.specs.Faults.{Told}

-- The fault of a given number at a node.
abbrev pub fault : ℕ → ℕ → Told
fault number node = record { number = number; node = node }

-- The first of two possible faults.
abbrev pub or_else : Option Told → Option Told → Option Told
or_else (Some t) later = Some t
or_else None later = later

-- The fault of the node at the number i, over a pattern of so many leaves: an unknown operation, a leaf that the pattern
-- lacks, or a child that has not a lower number.
abbrev pub node_fault : ℕ → ℕ → BareNode → Option Told
node_fault leaves i b =
    cond (nat_lt 4 b.operation) (Some (fault 6 i))
    (cond (b.operation == 0) (cond (nat_lt b.left leaves) None (Some (fault 8 i))) (cond (nat_lt b.left i && nat_lt b.right i) None (Some (fault 7 i))))

-- The first fault of the nodes from the number i on.
abbrev pub node_faults : ℕ → ℕ → List BareNode → Option Told
node_faults leaves i [] = None
node_faults leaves i (b ∷ rest) = or_else (node_fault leaves i b) (node_faults leaves (suc i) rest)

-- The fault of the node at the number i, if it is not named exactly once as a child.
abbrev pub parent_fault : List Node → ℕ → Option Told
parent_fault nodes i = cond (times_named nodes i == 1) None (Some (fault 9 i))

-- The first such fault of the next `more` nodes from the number i on.
abbrev pub parent_faults : List Node → ℕ → ℕ → Option Told
parent_faults nodes i zero = None
parent_faults nodes i (suc more) = or_else (parent_fault nodes i) (parent_faults nodes (suc i) more)

-- The first fault of a tree: in the number of its nodes, then node by node, then in the parents of all but the root.
abbrev pub tree_fault : ℕ → List BareNode → Option Told
tree_fault leaves bare =
    cond (length bare == 0 || nat_lt 127 (length bare)) (Some (fault 5 0))
    (or_else (node_faults leaves 0 bare) (parent_faults (nodes_from bare) 0 (length bare - 1)))

-- The answer of a check: refused with the fault, if there is one.
abbrev pub answered : {A : Type 0} → Option Told → A → Result A Told
answered (Some t) a = Err t
answered None a = Ok a

-- The bare node at a number. The default is never read.
abbrev pub bare_at : List BareNode → ℕ → BareNode
bare_at bare i = slice_index_or bare i (record { operation = 0; left = 0; right = 0 })

-- What can be wrong with a tree, by number and node.
pub data Broken (leaves : ℕ) (bare : List BareNode) : ℕ → ℕ → Type 0 where
  size : (length bare ≡ 0) ⊎ (127 < length bare) → Broken leaves bare 5 0
  operation : (i : ℕ) → i < length bare → 4 < (bare_at bare i).operation → Broken leaves bare 6 i
  child : (i : ℕ) → i < length bare → 0 < (bare_at bare i).operation → (bare_at bare i).operation ≤ 4 → (i ≤ (bare_at bare i).left) ⊎ (i ≤ (bare_at bare i).right) → Broken leaves bare 7 i
  leaf : (i : ℕ) → i < length bare → (bare_at bare i).operation ≡ 0 → leaves ≤ (bare_at bare i).left → Broken leaves bare 8 i
  parent : (i : ℕ) → suc i < length bare → (times_named (nodes_from bare) i ≢ 1) → Broken leaves bare 9 i

-- The order in which the faults of so many nodes are looked for: their number, then the nodes in rising order, then their
-- parents in rising order.
abbrev pub turn : ℕ → Told → ℕ
turn count t = cond (t.number == 5) 0 (cond (t.number == 9) (1 + count + t.node) (1 + t.node))

-- A refusal tells a fault that is there, and no fault that is there comes before it.
pub record First (leaves : ℕ) (bare : List BareNode) (t : Told) : Type 0 where
  pub there : Broken leaves bare t.number t.node
  pub first : (u : Told) → Broken leaves bare u.number u.node → turn (length bare) t ≤ turn (length bare) u

-- An accepted tree has none of the faults: its operations are known, its leaves are the pattern's, and its nodes are those
-- of a tree.
pub record Sound (leaves : ℕ) (bare : List BareNode) : Type 0 where
  pub known : (i : ℕ) → i < length bare → (bare_at bare i).operation ≤ 4
  pub leaf : (i : ℕ) → i < length bare → (bare_at bare i).operation ≡ 0 → (bare_at bare i).left < leaves
  pub tree : Tree (nodes_from bare)

-- What an answer of the check says.
abbrev pub CheckLaw : {A : Type 0} → ℕ → List BareNode → Result A Told → Type 0
CheckLaw leaves bare (Ok a) = Sound leaves bare
CheckLaw leaves bare (Err t) = First leaves bare t

-- The test of a place by the tree, once the place is on the grid.
abbrev pub tested_at : List PlaceSet → List BareNode → Place → Result Bool Told
tested_at sets bare p = answered (tree_fault (length sets) bare) (tree_set sets (nodes_from bare) p)

-- The test of a place: refused if the place is off the grid, or else if the tree is at fault; or else whether the place
-- is in the tree's set.
abbrev pub place_tested : List PlaceSet → List BareNode → Result Place ℕ → Result Bool Told
place_tested sets bare (Ok p) = tested_at sets bare p
place_tested sets bare (Err number) = Err (fault number 0)
