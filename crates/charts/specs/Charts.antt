-- The places where a stitch chart has a stitch.
use Rattle.std.specs.Prelude.{ℕ, ◌+◌, ◌-◌, ◌*◌, Bool, false, cond, ◌&&◌, List, length, Some, None, Option, ◌==◌, nat_le, nat_lt, slice_index}
use Rattle.grid.specs.declared.axis.Axis.TheVariants.{Needle, Course, Track}
use Rattle.grid.specs.Places.{at}
use Rattle.pattern.specs.Sets.{PlaceSet}
use Rattle.charts.specs.declared.frame.Frame.{Frame}

-- The column is not before the left needle or the first course, and lies within the width.
abbrev pub framed : Frame → ℕ → ℕ → Bool
framed f needle course = nat_le f.left needle && (nat_le f.first course && nat_lt (needle - f.left) f.width)

-- Which byte stands at a needle and a course, counted row by row from 0.
abbrev pub index_in : Frame → ℕ → ℕ → ℕ
index_in f needle course = (course - f.first) * f.width + (needle - f.left)

-- The byte at a needle and a course; none outside the frame, and none past the last byte.
abbrev pub byte_at : Frame → List ℕ → ℕ → ℕ → Option ℕ
byte_at f bytes needle course =
    cond (framed f needle course && nat_lt (index_in f needle course) (length bytes)) (Some (slice_index bytes (index_in f needle course))) None

-- A byte below 8 is the track of the stitch; any other stands for no stitch, and so does none.
abbrev pub names : Option ℕ → ℕ → Bool
names (Some byte) track = nat_lt byte 8 && byte == track
names None track = false

-- A place has a stitch if the byte at its needle and course names its track.
abbrev pub stitch_set : Frame → List ℕ → PlaceSet
stitch_set f bytes p = names (byte_at f bytes (at p Needle) (at p Course)) (at p Track)
