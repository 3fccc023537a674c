-- The places that carriage passes knit, the hull of these, and how they lie to a cell.
use Rattle.std.specs.Prelude.{◌≡◌, Bool, true, ◌&&◌, List, None, Option, ◌==◌, nat_le}
use Rattle.std.specs.List.{list_any, fold}
use Rattle.grid.specs.declared.axis.Axis.TheVariants.{Needle, Course, Track}
use Rattle.grid.specs.declared.cell.Cell.{Cell}
use Rattle.grid.specs.declared.place.Place.{Place}
use Rattle.grid.specs.Axes.{along}
use Rattle.grid.specs.Places.{at}
use Rattle.grid.specs.Cells.{box_of, hull_of}
use Rattle.grid.specs.Laws.{Holds, Part}
use Rattle.pattern.specs.declared.relation.Relation.{Relation}
use Rattle.pattern.specs.Sets.{PlaceSet}
use Rattle.pattern.specs.Relations.{box_holds, box_meets, boxed}
use Rattle.passes.specs.declared.pass.Pass.{Pass}

-- A pass holds the places of its course and track from the one needle to the other, both included.
abbrev pub pass_set : Pass → PlaceSet
pass_set s p = at p Course == s.course && (at p Track == s.track && (nat_le s.from (at p Needle) && nat_le (at p Needle) s.to))

-- The test passes for some pass of the list.
abbrev pub some : (Pass → Bool) → List Pass → Bool
some = list_any

-- A pass list holds the places that some pass of it holds.
abbrev pub passes_set : List Pass → PlaceSet
passes_set passes p = some (λ s. pass_set s p) passes

-- A pass cut by the grid: a cell, or none.
abbrev pub pass_box : Pass → Option Cell
pass_box s = box_of (along s.from s.course s.track) (along s.to s.course s.track)

-- The hull of a possible cell and of the passes, each cut by the grid.
abbrev pub hull_with : Option Cell → List Pass → Option Cell
hull_with = fold (λ hull s. hull_of hull (pass_box s))

-- The bound of a pass list: the hull of its passes.
abbrev pub passes_bound : List Pass → Option Cell
passes_bound = hull_with None

-- A possible cell is the hull of the passes if it holds all their places, and whatever holds all of these holds it.
pub record HullOfPasses (passes : List Pass) (r : Option Cell) : Type 0 where
  pub all : (p : Place) → passes_set passes p ≡ true → Holds r p
  pub least : (c : Option Cell) → ((p : Place) → passes_set passes p ≡ true → Holds c p) → Part r c

-- The relation of a pass list: Inside if one pass holds all of the cell, Outside if no pass meets it, else Mixed.
abbrev pub passes_relation : List Pass → Cell → Relation
passes_relation passes c = boxed (some (λ s. box_holds (pass_box s) c) passes) (some (λ s. box_meets (pass_box s) c) passes)
