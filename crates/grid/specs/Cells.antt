-- Cells: the places they hold, cutting, hulls, halving, and their sizes.
use Rattle.std.specs.Prelude.{◌≡◌, ℕ, zero, suc, ◌+◌, ◌-◌, ◌/◌, ◌^◌, min, max, Bool, true, false, cond, ◌&&◌, Some, None, Option, nat_le, refl}
use Rattle.std.proofs.Common.{arith}
use Rattle.std.proofs.lemmas.Bool.{and_parts}
use Rattle.grid.specs.declared.axis.Axis.{Axis}
use Rattle.grid.specs.declared.axis.Axis.TheVariants.{Needle, Course, Track}
use Rattle.grid.specs.declared.place.Place.{Place}
use Rattle.grid.specs.declared.cell.Cell.{Cell}
use Rattle.grid.specs.Axes.{top, Below, below, total, product, put}
use Rattle.grid.specs.Places.{at, below_true, below_along, place_at}

-- The low and the high end of a cell on each axis.
abbrev pub lo : Cell → Axis → ℕ
lo c = at c.low

abbrev pub hi : Cell → Axis → ℕ
hi c = at c.high

-- A place lies in a cell if on every axis it is neither below the low nor above the high end.
abbrev pub In : Place → Cell → Type 0
In p c = Below (lo c) (at p) × Below (at p) (hi c)

-- The same as a test.
abbrev pub inside : Place → Cell → Bool
inside p c = below (lo c) (at p) && below (at p) (hi c)

-- A cell lies in another if none of its ends passes the other's.
abbrev pub within : Cell → Cell → Bool
within c d = below (lo d) (lo c) && below (hi c) (hi d)

-- Two cells meet if neither begins above the other's end.
abbrev pub meet : Cell → Cell → Bool
meet c d = below (lo c) (hi d) && below (lo d) (hi c)

-- A cell has one place if its high ends are not above its low ends.
abbrev pub single : Cell → Bool
single c = below (hi c) (lo c)

-- The ends make a cell: no low end is above its high end, and that is on the grid.
abbrev pub ends_fit : (Axis → ℕ) → (Axis → ℕ) → Bool
ends_fit low high = below low high && below high top

-- What the passed test tells, for the proof that a cell carries.

pub fit_low : (low high : Axis → ℕ) → ends_fit low high ≡ true → Below low high
fit_low low high e = below_true low high (and_parts (below low high) (below high top) e).0

pub fit_high : (low high : Axis → ℕ) → ends_fit low high ≡ true → Below high top
fit_high low high e = below_true high top (and_parts (below low high) (below high top) e).1

-- The cell with the ends low and high, which make one.
abbrev pub cell_at : (low high : Axis → ℕ) → Below low high → Below high top → Cell
cell_at low high le on = record { low = place_at low (λ x. omega (arith, le x, on x)); high = place_at high on; ordered = below_along low high le }

-- The same by the test of the ends: the cell if it passes, none if it fails.
abbrev pub cell_if : (low high : Axis → ℕ) (b : Bool) → ends_fit low high ≡ b → Option Cell
cell_if low high true e = Some (cell_at low high (fit_low low high e) (fit_high low high e))
cell_if low high false e = None

-- The cell with the ends low and high, or none if they make no cell.
abbrev pub cell_from : (Axis → ℕ) → (Axis → ℕ) → Option Cell
cell_from low high = cell_if low high (ends_fit low high) refl

-- The whole grid.
abbrev pub grid_cell : Cell
grid_cell = cell_at (λ x. 0) top (λ x. omega arith) (λ x. omega arith)

-- The box from the ends low to the ends high, cut by the grid: a cell, or none if the grid has no place there.
abbrev pub box_of : (Axis → ℕ) → (Axis → ℕ) → Option Cell
box_of low high = cell_from low (λ x. min (high x) (top x))

-- The cut of two cells goes from the greater of the low ends to the lesser of the high ends, if that is a cell.
abbrev pub cut_of : Cell → Cell → Option Cell
cut_of a b = cell_from (λ x. max (lo a x) (lo b x)) (λ x. min (hi a x) (hi b x))

-- The hull of two cells goes from the lesser of the low ends to the greater of the high ends; where one is missing it is
-- the other.
abbrev pub hull_of : Option Cell → Option Cell → Option Cell
hull_of None b = b
hull_of (Some a) None = Some a
hull_of (Some a) (Some b) = cell_from (λ x. min (lo a x) (lo b x)) (λ x. max (hi a x) (hi b x))

-- How many places a cell has on one axis.
abbrev pub side : Cell → Axis → ℕ
side c x = suc (hi c x) - lo c x

-- How many places a cell has.
abbrev pub places_of : Cell → ℕ
places_of c = product (side c)

-- Of two axes the one with the longer side, the first if they are equal.
abbrev pub longer : Cell → Axis → Axis → Axis
longer c a b = cond (nat_le (side c b) (side c a)) a b

-- The axis of the longest side; of equal ones the first in the order of the axes.
abbrev pub longest_of : Cell → Axis
longest_of c = longer c (longer c Needle Course) Track

-- Two possible values together, if both are there.
abbrev pub both : {A B : Type 0} → Option A → Option B → Option (A × B)
both (Some a) (Some b) = Some (a, b)
both (Some a) None = None
both None b = None

-- Where the upper half of a cell begins, on the axis of the longest side: half of the side, rounded down, lies below.
abbrev pub middle_of : Cell → ℕ
middle_of c = lo c (longest_of c) + side c (longest_of c) / 2

-- The lower half ends below the middle, and the upper half begins there; on the other axes both are as the cell.
abbrev pub lower_half : Cell → Option Cell
lower_half c = cell_from (lo c) (put (longest_of c) (middle_of c - 1) (hi c))

abbrev pub upper_half : Cell → Option Cell
upper_half c = cell_from (put (longest_of c) (middle_of c) (lo c)) (hi c)

-- The two halves of a cell; none for a single place.
abbrev pub halves_of : Cell → Option (Cell × Cell)
halves_of c = cond (single c) None (both (lower_half c) (upper_half c))

-- The first number from k on whose power of two is at least s, of the next `tries`, or else the one after them.
abbrev pub reach : ℕ → ℕ → ℕ → ℕ
reach zero s k = k
reach (suc tries) s k = cond (nat_le s (2 ^ k)) k (reach tries s (suc k))

-- The least k with s ≤ 2 ^ k, for s up to 2 ^ 16: so often can a side of s places be halved at most.
unfoldable pub halvings : ℕ → ℕ
halvings s = reach 16 s 0

-- How often a cell can be halved at most.
abbrev pub halvings_of : Cell → ℕ
halvings_of c = total (λ x. halvings (side c x))
