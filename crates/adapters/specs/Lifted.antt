-- What a pattern means as a bank.
use Rattle.std.specs.Prelude.{cond, List, length, Some, None, nat_lt}
use Rattle.grid.specs.declared.cell.Cell.{Cell}
use Rattle.grid.specs.Cells.{single, grid_cell}
use Rattle.pattern.specs.declared.relation.Relation.{Relation}
use Rattle.pattern.specs.declared.relation.Relation.TheVariants.{Inside, Outside, Mixed}
use Rattle.pattern.specs.Sets.{PlaceSet, leaf_set}
use Rattle.pattern.specs.Banks.{Meaning}

-- A set is exact for one place: Inside if it is in, else Outside. For a larger cell it is Mixed.
abbrev pub lifted_relation : PlaceSet → Cell → Relation
lifted_relation s c = cond (single c) (cond (s c.low) Inside Outside) Mixed

-- The leaves' sets, each with the grid as its bound and the relation above. A leaf that is not there has neither.
abbrev pub lifted_meaning : List PlaceSet → Meaning
lifted_meaning sets = record {
  sets = sets;
  bound = λ leaf. cond (nat_lt leaf (length sets)) (Some grid_cell) None;
  relation = λ leaf c. cond (nat_lt leaf (length sets)) (lifted_relation (leaf_set sets leaf) c) Outside;
}
