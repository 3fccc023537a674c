-- Places by their numbers.
use Rattle.std.specs.Prelude.{◌≡◌, ℕ, Bool, true, false, ◌&&◌, Some, None, Option, nat_le, refl}
use Rattle.std.proofs.lemmas.Bool.{and_parts, leb-true}
use Rattle.grid.specs.declared.axis.Axis.{Axis}
use Rattle.grid.specs.declared.axis.Axis.TheVariants.{Needle, Course, Track}
use Rattle.grid.specs.declared.place.Place.{Place}
use Rattle.grid.specs.Axes.{top, along, Below, below}

-- The number of a place on each axis.
abbrev pub at : Place → Axis → ℕ
at p = along p.needle p.course p.track

-- A place and a cell carry the proof that they are on the grid, so what makes one has to hand it over. The next two
-- lemmas serve that: a passed test tells the fact, and the fact holds of the numbers one by one.

pub below_true : (f g : Axis → ℕ) → below f g ≡ true → Below f g
below_true f g h =
    let n = and_parts (nat_le (f Needle) (g Needle)) (nat_le (f Course) (g Course) && nat_le (f Track) (g Track)) h in
    let r = and_parts (nat_le (f Course) (g Course)) (nat_le (f Track) (g Track)) n.1 in
    elim [ Needle ↦ leb-true (f Needle) (g Needle) n.0 | Course ↦ leb-true (f Course) (g Course) r.0 | Track ↦ leb-true (f Track) (g Track) r.1 ]

pub below_along : (f g : Axis → ℕ) → Below f g → Below (along (f Needle) (f Course) (f Track)) (along (g Needle) (g Course) (g Track))
below_along f g h Needle = h Needle
below_along f g h Course = h Course
below_along f g h Track = h Track

pub along_on_grid : (f : Axis → ℕ) → Below f top → Below (along (f Needle) (f Course) (f Track)) top
along_on_grid f h Needle = h Needle
along_on_grid f h Course = h Course
along_on_grid f h Track = h Track

-- The place with the numbers f, which are on the grid.
abbrev pub place_at : (f : Axis → ℕ) → Below f top → Place
place_at f h = record { needle = f Needle; course = f Course; track = f Track; on_grid = along_on_grid f h }

-- The same by the test of the numbers: the place if it passes, none if it fails.
abbrev pub place_if : (f : Axis → ℕ) (b : Bool) → below f top ≡ b → Option Place
place_if f true e = Some (place_at f (below_true f top e))
place_if f false e = None

-- The place with the numbers f, or none if one of them is off the grid.
abbrev pub place_from : (Axis → ℕ) → Option Place
place_from f = place_if f (below f top) refl
