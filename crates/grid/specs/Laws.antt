-- What holds of cutting, hulls, halving and counting, in terms of places.
use Rattle.std.specs.Prelude.{◌≡◌, ℕ, ◌+◌, ◌^◌, ◌<◌, ◌≤◌, Bool, true, ◌⊎◌, ◌↔◌, Some, None, Decides, Option}
use Rattle.grid.specs.declared.axis.Axis.{Axis}
use Rattle.grid.specs.declared.place.Place.{Place}
use Rattle.grid.specs.declared.cell.Cell.{Cell}
use Rattle.grid.specs.Axes.{Below}
use Rattle.grid.specs.Places.{at}
use Rattle.grid.specs.Cells.{In, side, places_of, longest_of, halvings_of}

-- The possible cell holds the place; none holds no place.
abbrev pub Holds : Option Cell → Place → Type 0
Holds (Some c) p = In p c
Holds None p = ⊥

-- Every place of the first possible cell lies in the second.
abbrev pub Part : Option Cell → Option Cell → Type 0
Part a b = (p : Place) → Holds a p → Holds b p

-- A box has just the places that are nowhere below its low and nowhere above its high ends.
abbrev pub BoxLaw : (Axis → ℕ) → (Axis → ℕ) → Option Cell → Type 0
BoxLaw low high r = (p : Place) → Holds r p ↔ (Below low (at p) × Below (at p) high)

-- A cut has just the places that lie in both cells; there is none exactly if no place lies in both.
pub record CutLaw (a b : Cell) (r : Option Cell) : Type 0 where
  pub shared : (p : Place) → Holds r p ↔ (In p a × In p b)
  pub apart : r ≡ None ↔ ((p : Place) → In p a → In p b → ⊥)

-- A hull holds both, and whatever holds both holds the hull.
pub record HullLaw (a b r : Option Cell) : Type 0 where
  pub first : Part a r
  pub second : Part b r
  pub least : (c : Option Cell) → Part a c → Part b c → Part r c

-- Two halves: each place of the cell lies in just one of them, and they have no others; the places add up; each half
-- can be halved fewer times; and no side of the cell is longer than the one that was cut.
pub record Halved (c lower upper : Cell) : Type 0 where
  pub whole : (p : Place) → In p c → In p lower ⊎ In p upper
  pub apart : (p : Place) → In p lower → In p upper → ⊥
  pub lower_part : (p : Place) → In p lower → In p c
  pub upper_part : (p : Place) → In p upper → In p c
  pub places : places_of lower + places_of upper ≡ places_of c
  pub lower_fewer : halvings_of lower < halvings_of c
  pub upper_fewer : halvings_of upper < halvings_of c
  pub longest : (x : Axis) → side c x ≤ side c (longest_of c)

-- A cell of one place: its low place is the only one.
pub record Lone (c : Cell) : Type 0 where
  pub places : places_of c ≡ 1
  pub only : (p : Place) → In p c → p ≡ c.low

-- Halving a cell of one place gives none, and of any other its halves.
abbrev pub HalvesLaw : Cell → Option (Cell × Cell) → Type 0
HalvesLaw c None = Lone c
HalvesLaw c (Some h) = Halved c h.0 h.1

-- The number k is the least whose power of two is at least s.
pub record Least (s k : ℕ) : Type 0 where
  pub enough : s ≤ 2 ^ k
  pub needed : (j : ℕ) → s ≤ 2 ^ j → k ≤ j

-- The test tells whether each place of the first cell lies in the second; then that has no fewer places and halvings.
pub record WithinLaw (c d : Cell) (r : Bool) : Type 0 where
  pub tells : Decides r ((p : Place) → In p c → In p d)
  pub places : r ≡ true → places_of c ≤ places_of d
  pub halvings : r ≡ true → halvings_of c ≤ halvings_of d
