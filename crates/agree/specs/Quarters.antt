-- The quarters of a cell.
use Rattle.std.specs.Prelude.{Some, None, Option}
use Rattle.grid.specs.declared.cell.Cell.{Cell}
use Rattle.grid.specs.Cells.{both, halves_of}

-- The halves of each of two halves, if both can be halved.
abbrev pub halves_of_halves : Option (Cell × Cell) → Option ((Cell × Cell) × (Cell × Cell))
halves_of_halves (Some h) = both (halves_of h.0) (halves_of h.1)
halves_of_halves None = None

-- A cell is halved, and so is each half.
abbrev pub quarters_of : Cell → Option ((Cell × Cell) × (Cell × Cell))
quarters_of c = halves_of_halves (halves_of c)
