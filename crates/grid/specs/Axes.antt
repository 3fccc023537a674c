-- The axes of the grid: how far each goes, and what holds or adds up over all of them.
use Rattle.std.specs.Prelude.{ℕ, ◌+◌, ◌*◌, ◌≤◌, Bool, cond, ◌&&◌, ◌==◌, nat_le}
use Rattle.grid.specs.declared.axis.Axis.{Axis}
use Rattle.grid.specs.declared.axis.Axis.TheVariants.{Needle, Course, Track}

-- The greatest number on each axis; the least is 0.
abbrev pub top : Axis → ℕ
top Needle = 4095
top Course = 65535
top Track = 7

-- The order in which the axes come.
abbrev pub rank : Axis → ℕ
rank Needle = 0
rank Course = 1
rank Track = 2

-- The numbers of a place, each along its axis.
abbrev pub along : ℕ → ℕ → ℕ → Axis → ℕ
along n c t Needle = n
along n c t Course = c
along n c t Track = t

-- The numbers f are nowhere above the numbers g.
abbrev pub Below : (Axis → ℕ) → (Axis → ℕ) → Type 0
Below f g = (x : Axis) → f x ≤ g x

-- The same as a test.
abbrev pub below : (Axis → ℕ) → (Axis → ℕ) → Bool
below f g = nat_le (f Needle) (g Needle) && (nat_le (f Course) (g Course) && nat_le (f Track) (g Track))

-- The sum over the axes.
abbrev pub total : (Axis → ℕ) → ℕ
total f = f Needle + f Course + f Track

-- The product over the axes.
abbrev pub product : (Axis → ℕ) → ℕ
product f = f Needle * f Course * f Track

-- The numbers f with v in the place of that on the axis a.
abbrev pub put : Axis → ℕ → (Axis → ℕ) → Axis → ℕ
put a v f x = cond (rank a == rank x) v (f x)
