-- The places of a measured piece, by IEEE 754 double arithmetic.
use Rattle.std.specs.Prelude.{ℕ, Bool, true, ◌&&◌, List, [], ◌∷◌, pos, ◌==◌, ◌≢◌, Float}
use Rattle.std.specs.Float.{nan, binary64}
use Rattle.std.specs.Float.Ieee.{of_int, mul, le, lt}
use Rattle.grid.specs.declared.axis.Axis.TheVariants.{Needle, Course, Track}
use Rattle.grid.specs.Places.{at}
use Rattle.pattern.specs.Sets.{PlaceSet}
use Rattle.pieces.specs.declared.edge.Edge.{Edge}
use Rattle.pieces.specs.declared.edge.Edge.TheVariants.{Open, Closed, Free}
use Rattle.pieces.specs.declared.Piece.{Piece}

-- Where a needle or a course stands: its number times the step from one to the next, rounded once. (A number of the grid
-- is a double without rounding.)
abbrev pub measure_of : ℕ → Float → Float
measure_of number step = mul binary64 (of_int binary64 (pos number)) step

-- A left or bottom edge: above the measure of an open one, at or above that of a closed one. A free one always passes.
abbrev pub from_low : Edge → Float → Bool
from_low (Open e) m = lt e m
from_low (Closed e) m = le e m
from_low Free m = true

-- A right or top edge, the other way round.
abbrev pub to_high : Edge → Float → Bool
to_high (Open e) m = lt m e
to_high (Closed e) m = le m e
to_high Free m = true

-- Both the edge and the measure are numbers, where there is an edge.
abbrev pub Numbers : Edge → Float → Type 0
Numbers (Open e) m = (e ≢ nan) × (m ≢ nan)
Numbers (Closed e) m = (e ≢ nan) × (m ≢ nan)
Numbers Free m = Unit {0}

-- A place is in the piece if its track is the piece's, its needle stands between left and right, and its course between
-- bottom and top.
abbrev pub piece_set : Piece → PlaceSet
piece_set s p = at p Track == s.track && (from_low s.left (measure_of (at p Needle) s.pitch) && (to_high s.right (measure_of (at p Needle) s.pitch) && (from_low s.bottom (measure_of (at p Course) s.height) && to_high s.top (measure_of (at p Course) s.height))))

-- The one leaf of a measured piece.
abbrev pub leaves_of : Piece → List PlaceSet
leaves_of s = piece_set s ∷ []
