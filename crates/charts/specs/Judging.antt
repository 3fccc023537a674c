-- What is seen of a set where a cell is gone through column by column: whether some place is in the set, and whether
-- some place is out of it.
use Rattle.std.specs.Prelude.{◌≡◌, ℕ, ◌<◌, ◌≤◌, Bool, true, false, cond, not, ◌&&◌, ◌||◌, ◌⊎◌, Some, None, Decides, Option, ◌==◌, nat_le, nat_lt}
use Rattle.grid.specs.declared.axis.Axis.TheVariants.{Needle, Course}
use Rattle.grid.specs.declared.cell.Cell.{Cell}
use Rattle.grid.specs.declared.place.Place.{Place}
use Rattle.grid.specs.Places.{at}
use Rattle.grid.specs.Cells.{lo, hi, In}
use Rattle.pattern.specs.declared.relation.Relation.{Relation}
use Rattle.pattern.specs.declared.relation.Relation.TheVariants.{Inside, Outside, Mixed}
use Rattle.pattern.specs.Sets.{PlaceSet}

-- Of the places with P, some place is in the set, or, if the answer is false, some place is out of it.
abbrev pub Somewhere : (Place → Type 0) → PlaceSet → Bool → Type 0
Somewhere P s answer = (p : Place) × (P p × (s p ≡ answer))

-- Of the places with P, `held` tells whether some place is in the set, and `free` whether some place is out of it.
pub record Shows (P : Place → Type 0) (s : PlaceSet) (held free : Bool) : Type 0 where
  pub held_tells : Decides held (Somewhere P s true)
  pub free_tells : Decides free (Somewhere P s false)

-- The cell has a column at the needle and the course.
pub record HasColumn (c : Cell) (needle course : ℕ) : Type 0 where
  pub needle_low : lo c Needle ≤ needle
  pub needle_high : needle ≤ hi c Needle
  pub course_low : lo c Course ≤ course
  pub course_high : course ≤ hi c Course

-- The place lies in the cell's column at the needle and the course.
abbrev pub OnColumn : Cell → ℕ → ℕ → Place → Type 0
OnColumn c needle course p = In p c × ((at p Needle ≡ needle) × (at p Course ≡ course))

-- The place lies in one of the cell's columns that come before the needle and the course, where the columns go course by
-- course, and needle by needle in a course.
abbrev pub Before : Cell → ℕ → ℕ → Place → Type 0
Before c needle course p = In p c × ((at p Course < course) ⊎ ((at p Course ≡ course) × (at p Needle < needle)))

-- Whether the byte of a column names one of the tracks from low to high.
abbrev pub held_by : Option ℕ → ℕ → ℕ → Bool
held_by (Some byte) low high = nat_le low byte && nat_le byte high
held_by None low high = false

-- Whether one of the tracks from low to high is not named by the byte of a column: always, unless there is one track only
-- and the byte names it.
abbrev pub free_by : Option ℕ → ℕ → ℕ → Bool
free_by (Some byte) low high = nat_lt low high || not (byte == low)
free_by None low high = true

-- The relation that follows from what was seen of all places of a cell.
abbrev pub seen_relation : Bool → Bool → Relation
seen_relation held free = cond held (cond free Mixed Inside) Outside

-- Whether some place was seen to be in the set, by the relation of the places seen so far, if there are any.
abbrev pub seen_held : Option Relation → Bool
seen_held (Some Inside) = true
seen_held (Some Mixed) = true
seen_held (Some Outside) = false
seen_held None = false

-- Whether some place was seen to be out of the set.
abbrev pub seen_free : Option Relation → Bool
seen_free (Some Inside) = false
seen_free (Some Mixed) = true
seen_free (Some Outside) = true
seen_free None = false

-- The relation tells of the places with P which of them are in the set: all, none, or some and some not. There is none
-- if there are no such places.
abbrev pub Tells : (Place → Type 0) → PlaceSet → Option Relation → Type 0
Tells P s seen = Shows P s (seen_held seen) (seen_free seen)
