-- What a bank means, and the facts that every bank owes.
use Rattle.std.specs.Prelude.{◌≡◌, ℕ, ◌≤◌, true, List, [], ◌∷◌, length, None, Option, slice_index_or}
use Rattle.grid.specs.declared.cell.Cell.{Cell}
use Rattle.grid.specs.declared.place.Place.{Place}
use Rattle.grid.specs.Laws.{Holds}
use Rattle.pattern.specs.declared.relation.Relation.{Relation}
use Rattle.pattern.specs.declared.relation.Relation.TheVariants.{Outside}
use Rattle.pattern.specs.Sets.{PlaceSet, leaf_set}
use Rattle.pattern.specs.Relations.{Says}

-- What a bank's answers are read off: the sets of its leaves in turn, and with each leaf its bound and its relation to
-- any cell.
pub record Meaning : Type 0 where
  pub sets : List PlaceSet
  pub bound : ℕ → Option Cell
  pub relation : ℕ → Cell → Relation

-- What holds of the meaning of every bank. A leaf's bound leaves out none of its places, so a leaf without a bound is
-- empty. Inside is said of a cell only if the leaf has all of it, Outside only if it has nothing of it, and Mixed only of
-- several places. Past the last leaf there is no bound, and the relation to every cell is Outside.
pub record Facts (m : Meaning) : Type 0 where
  pub bounds : (leaf : ℕ) (p : Place) → leaf_set m.sets leaf p ≡ true → Holds (m.bound leaf) p
  pub relates : (leaf : ℕ) (c : Cell) → Says (m.relation leaf c) (leaf_set m.sets leaf) c
  pub missing_bound : (leaf : ℕ) → length m.sets ≤ leaf → m.bound leaf ≡ None
  pub missing_relation : (leaf : ℕ) (c : Cell) → length m.sets ≤ leaf → m.relation leaf c ≡ Outside

-- The meaning of a bank of one leaf, from its set, its bound and its relation to each cell.
abbrev pub one_leaf : PlaceSet → Option Cell → (Cell → Relation) → Meaning
one_leaf s b r = record { sets = s ∷ []; bound = λ leaf. slice_index_or (b ∷ []) leaf None; relation = λ leaf c. slice_index_or (r c ∷ []) leaf Outside }
