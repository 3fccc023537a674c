-- Blocks: the places that one holds, and its bound.
use Rattle.std.specs.Prelude.{ℕ, Bool, ◌&&◌, Option}
use Rattle.grid.specs.declared.axis.Axis.{Axis}
use Rattle.grid.specs.declared.bare.BarePlace.{BarePlace}
use Rattle.grid.specs.declared.cell.Cell.{Cell}
use Rattle.grid.specs.Axes.{below}
use Rattle.grid.specs.Places.{at}
use Rattle.grid.specs.Cells.{box_of}
use Rattle.grid.specs.Refusals.{numbers}
use Rattle.pattern.specs.Sets.{PlaceSet}
use Rattle.shapes.specs.declared.block.Block.{Block}

-- The numbers f are nowhere below the low and nowhere above the high numbers.
abbrev pub between : (Axis → ℕ) → (Axis → ℕ) → (Axis → ℕ) → Bool
between low f high = below low f && below f high

-- A block holds the places that are on no axis below its low or above its high end.
abbrev pub block_set : Block → PlaceSet
block_set b p = between (numbers b.low) (at p) (numbers b.high)

-- The grid's places from one bare place to another: a cell, or none if the grid has no place there.
unfoldable pub bound_between : BarePlace → BarePlace → Option Cell
bound_between low high = box_of (numbers low) (numbers high)

-- A block is bounded by what of it lies on the grid.
abbrev pub block_bound : Block → Option Cell
block_bound b = bound_between b.low b.high
