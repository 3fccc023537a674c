-- The numbers by which faults of trees are told.
use Rattle.std.specs.Prelude.{ℕ, Ok, Err, Result}
use Rattle.grid.specs.Refusals
use Rattle.trees.specs.declared.fault.Fault.{Fault}
use Rattle.trees.specs.declared.fault.Fault.TheVariants.{Numbers, NodeCount, UnknownOperation, ChildNotBelow, LeafMissing, ParentNotOne}

-- The number of a fault.
abbrev pub number_of : Fault → ℕ
number_of (Numbers refusal) = Refusals.number_of refusal
number_of NodeCount = 5
number_of (UnknownOperation node) = 6
number_of (ChildNotBelow node) = 7
number_of (LeafMissing node) = 8
number_of (ParentNotOne node) = 9

-- The node that is at fault; 0 where none is.
abbrev pub node_of : Fault → ℕ
node_of (Numbers refusal) = 0
node_of NodeCount = 0
node_of (UnknownOperation node) = node
node_of (ChildNotBelow node) = node
node_of (LeafMissing node) = node
node_of (ParentNotOne node) = node

-- A fault as it is told: its number, and the node.
pub record Told : Type 0 where
  pub number : ℕ
  pub node : ℕ

-- What is told of a fault.
abbrev pub told_of : Fault → Told
told_of f = record { number = number_of f; node = node_of f }

-- An answer with what is told of its fault in the place of the fault.
abbrev pub told : {A : Type 0} → Result A Fault → Result A Told
told (Ok a) = Ok a
told (Err f) = Err (told_of f)
