-- The numbers by which refusals are told, and what bare numbers are taken for.
use Rattle.std.specs.Prelude.{ℕ, cond, ◌&&◌, Some, None, Ok, Err, Option, Result}
use Rattle.grid.specs.declared.axis.Axis.{Axis}
use Rattle.grid.specs.declared.bare.BarePlace.{BarePlace}
use Rattle.grid.specs.declared.place.Place.{Place}
use Rattle.grid.specs.declared.cell.Cell.{Cell}
use Rattle.grid.specs.declared.refusal.Refusal.{Refusal}
use Rattle.grid.specs.declared.refusal.Refusal.TheVariants.{OffGrid, UpsideDown}
use Rattle.grid.specs.Axes.{top, along, below}
use Rattle.grid.specs.Places.{place_from}
use Rattle.grid.specs.Cells.{cell_from}

-- The number of each refusal.
abbrev pub number_of : Refusal → ℕ
number_of OffGrid = 3
number_of UpsideDown = 4

-- An answer with its refusal told by number.
abbrev pub numbered : {A : Type 0} → Result A Refusal → Result A ℕ
numbered (Ok a) = Ok a
numbered (Err e) = Err (number_of e)

-- What is there, or a refusal with the number.
abbrev pub or_refuse : {A : Type 0} → Option A → ℕ → Result A ℕ
or_refuse (Some a) number = Ok a
or_refuse None number = Err number

-- The bare numbers, each on its axis.
abbrev pub numbers : BarePlace → Axis → ℕ
numbers b = along b.needle b.course b.track

-- A place, or a refusal: 3 if a number is off the grid.
abbrev pub place_of : BarePlace → Result Place ℕ
place_of b = or_refuse (place_from (numbers b)) 3

-- A workspace, or a refusal: 3 if a number is off the grid, or else 4 if a low end is above its high end.
abbrev pub workspace_of : BarePlace → BarePlace → Result Cell ℕ
workspace_of low high = cond (below (numbers low) top && below (numbers high) top) (or_refuse (cell_from (numbers low) (numbers high)) 4) (Err 3)
