-- A one-by-one rib.
use Rattle.std.specs.Prelude.{◌%◌, cond, Some, ◌==◌, nat_lt}
use Rattle.grid.specs.declared.axis.Axis.TheVariants.{Needle}
use Rattle.grid.specs.declared.cell.Cell.{Cell}
use Rattle.grid.specs.Places.{at}
use Rattle.grid.specs.Cells.{lo, hi, grid_cell}
use Rattle.pattern.specs.declared.relation.Relation.{Relation}
use Rattle.pattern.specs.declared.relation.Relation.TheVariants.{Inside, Outside, Mixed}
use Rattle.pattern.specs.Sets.{PlaceSet}
use Rattle.pattern.specs.Banks.{Meaning, one_leaf}
use Rattle.rib.specs.declared.Rib.{Rib}

-- The places of the even needles.
abbrev pub rib_set : PlaceSet
rib_set p = at p Needle % 2 == 0

-- A cell of several needles is Mixed; one of a single needle is Inside if that is even, else Outside.
abbrev pub rib_relation : Cell → Relation
rib_relation c = cond (nat_lt (lo c Needle) (hi c Needle)) Mixed (cond (lo c Needle % 2 == 0) Inside Outside)

-- Its bound is the grid.
abbrev pub meaning_of : Rib → Meaning
meaning_of r = one_leaf rib_set (Some grid_cell) rib_relation
