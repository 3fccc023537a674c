-- The leaves of a shape list: each shape is one, and only the first 65,535 shapes count.
use Rattle.std.specs.Prelude.{ℕ, List, map, take, None, Option, slice_index_or}
use Rattle.grid.specs.declared.cell.Cell.{Cell}
use Rattle.pattern.specs.Sets.{PlaceSet, leaf_set}
use Rattle.pattern.specs.Relations.{exactly}
use Rattle.pattern.specs.Banks.{Meaning}
use Rattle.shapes.specs.declared.shape.Shape.{Shape}
use Rattle.lists.specs.declared.shape_list.ShapeList.{ShapeList}
use Rattle.shapes.specs.Shapes.{shape_set, shape_bound}

-- A value of each shape that counts, in order.
unfoldable pub counting : {A : Type 0} → (Shape → A) → List Shape → List A
counting f shapes = take 65535 (map f shapes)

-- The shapes that count, in order.
unfoldable pub counted : List Shape → List Shape
counted shapes = take 65535 shapes

-- The sets of the shapes.
abbrev pub sets_of : List Shape → List PlaceSet
sets_of = counting shape_set

-- The bound of the shape at a number; none if it is missing or does not count.
abbrev pub bound_at : List Shape → ℕ → Option Cell
bound_at shapes leaf = slice_index_or (counting shape_bound shapes) leaf None

-- The meaning of a list of shapes; the relation of each shape is exact.
abbrev pub meaning_of_shapes : List Shape → Meaning
meaning_of_shapes shapes = record { sets = sets_of shapes; bound = bound_at shapes; relation = λ leaf c. exactly (leaf_set (sets_of shapes) leaf) c }

-- The shapes that a list was made from.
abbrev pub listed : ShapeList → List Shape
listed l = l.shapes.now

-- The leaves of a shape list.
abbrev pub leaves_of : ShapeList → List PlaceSet
leaves_of l = sets_of (listed l)

-- What a shape list means.
abbrev pub meaning_of : ShapeList → Meaning
meaning_of l = meaning_of_shapes (listed l)
