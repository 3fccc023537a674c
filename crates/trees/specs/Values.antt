-- Values of the nodes of a table, worked out in rising order: each from its record, its number and the values of its
-- children.
use Rattle.std.specs.Prelude.{ℕ, List, [], ◌∷◌, ◌++◌, length, slice_index_or}
use Rattle.trees.specs.declared.node.Operation.{Operation}
use Rattle.trees.specs.declared.node.Node.{Node}
use Rattle.trees.specs.declared.node.Node.TheVariants.{Leaf, Inner}

-- The list `done` with a value more for each record, worked out by `step` from the number of the record, the record and
-- the values so far.
abbrev pub worked : {A V : Type 0} → (ℕ → A → List V → V) → List V → List A → List V
worked step done [] = done
worked step done (a ∷ rest) = worked step (done ++ (step (length done) a done ∷ [])) rest

-- How a kind of value is worked out: the node in a record; the value of a leaf node, from its number, its record and its
-- leaf; that of an inner node, from its record, its operation and the values of its children; and a value for nodes that
-- are not there, which is never read of a tree.
pub record Rule (A V : Type 0) : Type 0 where
  pub node : A → Node
  pub leaf : ℕ → A → ℕ → V
  pub inner : A → Operation → V → V → V
  pub none : V

-- The value of one node from those before it.
abbrev pub value_of : {A V : Type 0} → Rule A V → ℕ → A → Node → List V → V
value_of w i a (Leaf k) done = w.leaf i a k
value_of w i a (Inner o l r) done = w.inner a o (slice_index_or done l w.none) (slice_index_or done r w.none)

-- The values of all records, in order.
unfoldable pub values : {A V : Type 0} → Rule A V → List A → List V
values w = worked (λ i a done. value_of w i a (w.node a) done) []

-- The value at a number.
abbrev pub value_at : {A V : Type 0} → Rule A V → List A → ℕ → V
value_at w table i = slice_index_or (values w table) i w.none
