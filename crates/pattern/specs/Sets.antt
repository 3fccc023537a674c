-- What a pattern means: the sets of places of its leaves, in order.
use Rattle.std.specs.Prelude.{ℕ, Bool, false, not, List, slice_index_or}
use Rattle.grid.specs.declared.place.Place.{Place}

-- A set of places, by the test of a place.
abbrev pub PlaceSet : Type 0
PlaceSet = Place → Bool

-- No place.
abbrev pub nowhere : PlaceSet
nowhere p = false

-- The places that are not in the set.
abbrev pub without : PlaceSet → PlaceSet
without s p = not (s p)

-- The set of a leaf by its number; a leaf that is not there holds no place.
abbrev pub leaf_set : List PlaceSet → ℕ → PlaceSet
leaf_set sets leaf = slice_index_or sets leaf nowhere
