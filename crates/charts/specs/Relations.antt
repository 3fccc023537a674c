-- Where a chart lies: its bound, and its relation to a cell.
use Rattle.std.specs.Prelude.{ℕ, ◌+◌, ◌-◌, ◌/◌, ◌%◌, min, cond, not, ◌||◌, List, length, None, Option, ◌==◌, nat_le}
use Rattle.grid.specs.declared.cell.Cell.{Cell}
use Rattle.grid.specs.Axes.{along}
use Rattle.grid.specs.Cells.{box_of, places_of}
use Rattle.pattern.specs.declared.relation.Relation.{Relation}
use Rattle.pattern.specs.declared.relation.Relation.TheVariants.{Outside, Mixed}
use Rattle.pattern.specs.Relations.{box_meets, exactly}
use Rattle.charts.specs.declared.frame.Frame.{Frame}
use Rattle.charts.specs.Charts.{stitch_set}

-- How many rows so many bytes make, the last one perhaps partial: their number divided by the width, rounded up.
abbrev pub rows_of : Frame → ℕ → ℕ
rows_of f count = count / f.width + min 1 (count % f.width)

-- The bound of a chart of so many bytes: the frame of its rows on all tracks, cut by the grid; none if the width is 0 or
-- there are no bytes.
abbrev pub chart_bound : Frame → ℕ → Option Cell
chart_bound f count =
    cond (f.width == 0 || count == 0) None
    (box_of (along f.left f.first 0) (along (f.left + f.width - 1) (f.first + rows_of f count - 1) 7))

-- A cell that misses the bound is Outside. Any other is judged exactly if it has at most 1,024 places, and is Mixed if it
-- has more.
abbrev pub chart_relation : Frame → List ℕ → Cell → Relation
chart_relation f bytes c =
    cond (not (box_meets (chart_bound f (length bytes)) c)) Outside (cond (nat_le (places_of c) 1024) (exactly (stitch_set f bytes) c) Mixed)
