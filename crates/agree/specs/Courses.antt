-- One course of a workspace.
use Rattle.std.specs.Prelude.{◌≡◌, ℕ, ◌↔◌, Option}
use Rattle.grid.specs.declared.axis.Axis.TheVariants.{Course}
use Rattle.grid.specs.declared.cell.Cell.{Cell}
use Rattle.grid.specs.declared.place.Place.{Place}
use Rattle.grid.specs.Cells.{In}
use Rattle.grid.specs.Laws.{Holds}
use Rattle.grid.specs.Places.{at}

-- The possible cell has just the places of the workspace that lie in the course.
abbrev pub CourseOf : Cell → ℕ → Option Cell → Type 0
CourseOf workspace course r = (p : Place) → Holds r p ↔ (In p workspace × (at p Course ≡ course))
