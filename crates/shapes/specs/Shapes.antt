-- Shapes, each a block or a slope: the places that one holds, and its bound.
use Rattle.std.specs.Prelude.{Some, None, Option}
use Rattle.grid.specs.declared.cell.Cell.{Cell}
use Rattle.grid.specs.Cells.{grid_cell}
use Rattle.pattern.specs.Sets.{PlaceSet, nowhere}
use Rattle.shapes.specs.declared.shape.Shape.{Shape}
use Rattle.shapes.specs.declared.shape.Shape.TheVariants.{Block, Slope}
use Rattle.shapes.specs.Blocks.{block_set, block_bound}
use Rattle.shapes.specs.Slopes.{slope_set}

-- The places of a shape.
abbrev pub shape_set : Shape → PlaceSet
shape_set (Block b) = block_set b
shape_set (Slope s) = slope_set s

-- A block is bounded by what of it lies on the grid, a slope by the whole grid.
abbrev pub shape_bound : Shape → Option Cell
shape_bound (Block b) = block_bound b
shape_bound (Slope s) = Some grid_cell

-- The places of a possible shape; none if it is missing.
abbrev pub possible_set : Option Shape → PlaceSet
possible_set (Some s) = shape_set s
possible_set None = nowhere

-- The bound of a possible shape; none if it is missing.
abbrev pub possible_bound : Option Shape → Option Cell
possible_bound (Some s) = shape_bound s
possible_bound None = None
