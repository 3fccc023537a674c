-- How a set of places lies to a cell: what a relation says, and the relation that is exact.
use Rattle.std.specs.Prelude.{◌≡◌, ℕ, zero, suc, ◌+◌, Bool, true, false, cond, ◌&&◌, ◌↔◌, Some, None, Option}
use Rattle.grid.specs.declared.axis.Axis.TheVariants.{Needle, Course, Track}
use Rattle.grid.specs.declared.cell.Cell.{Cell}
use Rattle.grid.specs.declared.place.Place.{Place}
use Rattle.grid.specs.Axes.{along}
use Rattle.grid.specs.Places.{place_from}
use Rattle.grid.specs.Cells.{lo, side, In, inside, within, meet, single}
use Rattle.pattern.specs.declared.relation.Relation.{Relation}
use Rattle.pattern.specs.declared.relation.Relation.TheVariants.{Inside, Outside, Mixed}
use Rattle.pattern.specs.Sets.{PlaceSet, without}

-- The set has every place of the cell.
abbrev pub AllIn : PlaceSet → Cell → Type 0
AllIn s c = (p : Place) → In p c → s p ≡ true

-- The set has no place of the cell.
abbrev pub NoneIn : PlaceSet → Cell → Type 0
NoneIn s c = (p : Place) → In p c → s p ≡ false

-- What a relation says of a set and a cell. Mixed says only that the cell has several places.
abbrev pub Says : Relation → PlaceSet → Cell → Type 0
Says Inside s c = AllIn s c
Says Outside s c = NoneIn s c
Says Mixed s c = single c ≡ false

-- A relation is exact if it is Inside exactly if all places are in, and Outside exactly if none is.
pub record Exact (r : Relation) (s : PlaceSet) (c : Cell) : Type 0 where
  pub inside : r ≡ Inside ↔ AllIn s c
  pub outside : r ≡ Outside ↔ NoneIn s c

-- The test passes at each of the n numbers from k on.
abbrev pub every : ℕ → ℕ → (ℕ → Bool) → Bool
every k zero test = true
every k (suc n) test = test (k + n) && every k n test

-- The place is in the set, if there is a place.
abbrev pub if_there : Option Place → PlaceSet → Bool
if_there (Some p) s = s p
if_there None s = true

-- Whether the set has every place of the cell: its needles, courses and tracks are gone through one by one.
unfoldable pub all_in : PlaceSet → Cell → Bool
all_in s c =
    every (lo c Needle) (side c Needle)
    (λ n. every (lo c Course) (side c Course) (λ k. every (lo c Track) (side c Track) (λ t. if_there (place_from (along n k t)) s)))

-- The exact relation of a set to a cell: Inside if all places are in, Outside if none is, else Mixed.
unfoldable pub exactly : PlaceSet → Cell → Relation
unfolding all_in
exactly s c = cond (all_in s c) Inside (cond (all_in (without s) c) Outside Mixed)

-- The places of a possible cell.
abbrev pub box_set : Option Cell → PlaceSet
box_set (Some b) p = inside p b
box_set None p = false

-- The possible cell holds all of the other.
abbrev pub box_holds : Option Cell → Cell → Bool
box_holds (Some b) c = within c b
box_holds None c = false

-- The possible cell has a place in common with the other.
abbrev pub box_meets : Option Cell → Cell → Bool
box_meets (Some b) c = meet c b
box_meets None c = false

-- The relation of boxes to a cell, by whether one holds all of it and whether one meets it.
abbrev pub boxed : Bool → Bool → Relation
boxed holds meets = cond holds Inside (cond meets Mixed Outside)

-- How a possible cell lies to a cell: Inside if it holds all of it, Outside if the two do not meet, else Mixed.
abbrev pub box_relation : Option Cell → Cell → Relation
box_relation o c = boxed (box_holds o c) (box_meets o c)
