-- How cells and refusals are printed.
use Rattle.std.specs.Prelude.{ℕ, List, ◌++◌, codes, decimal}
use Rattle.grid.specs.declared.axis.Axis.{Axis}
use Rattle.grid.specs.declared.axis.Axis.TheVariants.{Needle, Course, Track}
use Rattle.grid.specs.declared.cell.Cell.{Cell}
use Rattle.grid.specs.declared.refusal.Refusal.{Refusal}
use Rattle.grid.specs.declared.refusal.Refusal.TheVariants.{OffGrid, UpsideDown}
use Rattle.grid.specs.Cells.{lo, hi}

-- A refusal is printed as the reason for it.
abbrev pub reason_of : Refusal → List ℕ
reason_of OffGrid = codes "a number is off the grid"
reason_of UpsideDown = codes "a low end is above its high end"

-- The low and the high end of a cell on an axis.
abbrev pub ends_on : Cell → Axis → List ℕ
ends_on c x = decimal (lo c x) ++ codes " to " ++ decimal (hi c x)

-- A cell is printed as its ends on each axis.
abbrev pub ends_of : Cell → List ℕ
ends_of c = codes "needles " ++ ends_on c Needle ++ codes ", courses " ++ ends_on c Course ++ codes ", tracks " ++ ends_on c Track
