-- How many places of a cell lie in a set. A set is given by the test of a place.
use Rattle.std.specs.Prelude.{◌≡◌, ℕ, Bool, true, ◌⊎◌, ◌↔◌, List, [], ◌∷◌, length}
use Rattle.grid.specs.declared.place.Place.{Place}
use Rattle.grid.specs.declared.cell.Cell.{Cell}
use Rattle.grid.specs.Cells.{In}

-- The set of all places.
abbrev pub everywhere : Place → Bool
everywhere p = true

-- The place stands in the list.
abbrev pub Among : Place → List Place → Type 0
Among p [] = ⊥
Among p (q ∷ rest) = (p ≡ q) ⊎ Among p rest

-- No place stands in the list twice.
abbrev pub Once : List Place → Type 0
Once [] = Unit {0}
Once (q ∷ rest) = (Among q rest → ⊥) × Once rest

-- A list of just the places of the cell that lie in the set, each once.
pub record Lists (set : Place → Bool) (c : Cell) (places : List Place) : Type 0 where
  pub once : Once places
  pub just : (p : Place) → Among p places ↔ (In p c × (set p ≡ true))

-- So many places of the cell lie in the set.
pub record Counted (set : Place → Bool) (c : Cell) (n : ℕ) : Type 0 where
  pub places : List Place
  pub lists : Lists set c places
  pub many : length places ≡ n
