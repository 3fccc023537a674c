-- Two sets of places, compared.
use Rattle.std.specs.Prelude.{◌≡◌, not, ◌&&◌, List}
use Rattle.grid.specs.declared.cell.Cell.{Cell}
use Rattle.grid.specs.declared.place.Place.{Place}
use Rattle.grid.specs.Cells.{In}
use Rattle.pattern.specs.Sets.{PlaceSet, leaf_set}
use Rattle.compare.specs.declared.Holder.{Holder}
use Rattle.compare.specs.declared.Holder.TheVariants.{Both, OnlyFirst, OnlySecond}

-- The set of a pattern's first leaf.
abbrev pub first_leaf : List PlaceSet → PlaceSet
first_leaf sets = leaf_set sets 0

-- The places that lie in both sets, or in one of them alone.
abbrev pub held_by : Holder → PlaceSet → PlaceSet → PlaceSet
held_by Both first second p = first p && second p
held_by OnlyFirst first second p = first p && not (second p)
held_by OnlySecond first second p = not (first p) && second p

-- The two sets have the same places in the cell.
abbrev pub Same : PlaceSet → PlaceSet → Cell → Type 0
Same first second c = (p : Place) → In p c → first p ≡ second p
