-- Slopes: the places that one holds, and the corners of a cell where its sum is greatest and least.
use Rattle.std.specs.Prelude.{ℕ, Bool, cond, ℤ, pos, ◌+ℤ◌, ◌*ℤ◌, int_le, int_lt}
use Rattle.grid.specs.declared.axis.Axis.{Axis}
use Rattle.grid.specs.declared.axis.Axis.TheVariants.{Needle, Course, Track}
use Rattle.grid.specs.declared.cell.Cell.{Cell}
use Rattle.grid.specs.Places.{at}
use Rattle.grid.specs.Cells.{lo, hi}
use Rattle.pattern.specs.declared.relation.Relation.{Relation}
use Rattle.pattern.specs.declared.relation.Relation.TheVariants.{Inside, Outside, Mixed}
use Rattle.pattern.specs.Sets.{PlaceSet}
use Rattle.shapes.specs.declared.slope.Slope.{Slope}

-- The factor of a slope on each axis.
abbrev pub factor : Slope → Axis → ℤ
factor s Needle = s.needle
factor s Course = s.course
factor s Track = s.track

-- The sum over the axes.
abbrev pub sum_of : (Axis → ℤ) → ℤ
sum_of f = f Needle +ℤ f Course +ℤ f Track

-- The sum of the numbers f, each times the factor of its axis.
abbrev pub weighed : Slope → (Axis → ℕ) → ℤ
weighed s f = sum_of (λ x. factor s x *ℤ pos (f x))

-- That sum is not above the limit of the slope.
abbrev pub under : Slope → (Axis → ℕ) → Bool
under s f = int_le (weighed s f) s.limit

-- A slope holds the places whose sum is not above its limit.
abbrev pub slope_set : Slope → PlaceSet
slope_set s p = under s (at p)

-- Of two numbers the second, or the first if the factor is below zero. From a low to a high end this is the number that
-- gives the greatest product, and from the high to the low end the one that gives the least.
abbrev pub toward : ℤ → ℕ → ℕ → ℕ
toward f from to = cond (int_lt f (pos 0)) from to

-- The corner with such a number on every axis.
abbrev pub corner : Slope → (Axis → ℕ) → (Axis → ℕ) → Axis → ℕ
corner s from to x = toward (factor s x) (from x) (to x)

-- How a slope lies to a cell: Inside if it holds the corner of the greatest sum, Outside if it does not hold that of the
-- least, else Mixed.
abbrev pub slope_relation : Slope → Cell → Relation
slope_relation s c = cond (under s (corner s (lo c) (hi c))) Inside (cond (under s (corner s (hi c) (lo c))) Mixed Outside)
