-- The relation of a slope is exact. Assumes nothing.
use Rattle.std.proofs.Common.{◌≡◌, ℕ, Bool, true, false, cond, pos, ◌*ℤ◌, ◌≤ℤ◌, refl, sym, subst, ◌∙◌, arith}
use Rattle.std.proofs.lemmas.Int.{ints}
use Rattle.std.proofs.lemmas.Bool.{both_ways}
use Rattle.grid.specs.declared.axis.Axis.{Axis}
use Rattle.grid.specs.declared.axis.Axis.TheVariants.{Needle, Course, Track}
use Rattle.grid.specs.declared.cell.Cell.{Cell}
use Rattle.grid.specs.declared.place.Place.{Place}
use Rattle.grid.specs.Axes.{top, Below}
use Rattle.grid.specs.Places.{at, place_at}
use Rattle.grid.specs.Cells.{lo, hi, In}
use Rattle.grid.proofs.PlaceLaws.{along_is}
use Rattle.pattern.specs.declared.relation.Relation.{Relation}
use Rattle.pattern.specs.declared.relation.Relation.TheVariants.{Inside, Outside, Mixed}
use Rattle.pattern.specs.Relations.{Exact}
use Rattle.pattern.proofs.ExactLaws.{inside_exact, outside_exact, mixed_exact}
use Rattle.shapes.specs.declared.slope.Slope.{Slope}
use Rattle.shapes.specs.Slopes.{factor, weighed, under, slope_set, corner, slope_relation}
use Rattle.shapes.proofs.Products.{toward_above, toward_below, greatest, least}

-- where no product is greater, the sum is not greater
module _ (s : Slope) (f g : Axis → ℕ) (no-greater : (x : Axis) → (factor s x *ℤ pos (f x)) ≤ℤ (factor s x *ℤ pos (g x))) where
  weighed_mono : weighed s f ≤ℤ weighed s g
  weighed_mono = omega (arith, ints, no-greater Needle, no-greater Course, no-greater Track)

  under_mono : under s g ≡ true → under s f ≡ true
  under_mono t = let le = weighed_mono in grind (arith, ints)

  above_mono : under s f ≡ false → under s g ≡ false
  above_mono t = let le = weighed_mono in grind (arith, ints)

module _ (s : Slope) (c : Cell) where
  -- the slope holds a place of the cell with the numbers f exactly if they are under its limit

  place_in : (f : Axis → ℕ) (low : Below (lo c) f) (high : Below f (hi c)) → (p : Place) × (In p c × (slope_set s p ≡ under s f))
  place_in f low high =
      let on : Below f top = λ x. omega (arith, high x, c.high.on_grid x) in
      (place_at f on, ((λ x. omega (arith, along_is f x, low x), λ x. omega (arith, along_is f x, high x)), refl))

  most_in : (p : Place) × (In p c × (slope_set s p ≡ under s (corner s (lo c) (hi c))))
  most_in =
      place_in (corner s (lo c) (hi c)) (λ x. toward_above (factor s x) (lo c x) (hi c x) (lo c x) (omega arith) (c.ordered x))
      (λ x. toward_below (factor s x) (lo c x) (hi c x) (hi c x) (c.ordered x) (omega arith))

  least_in : (p : Place) × (In p c × (slope_set s p ≡ under s (corner s (hi c) (lo c))))
  least_in =
      place_in (corner s (hi c) (lo c)) (λ x. toward_above (factor s x) (hi c x) (lo c x) (lo c x) (c.ordered x) (omega arith))
      (λ x. toward_below (factor s x) (hi c x) (lo c x) (hi c x) (omega arith) (c.ordered x))

  by_corners : (m l : Bool) → under s (corner s (lo c) (hi c)) ≡ m → under s (corner s (hi c) (lo c)) ≡ l → Exact (cond m Inside (cond l Mixed Outside)) (slope_set s) c
  by_corners true l m-is l-is =
      inside_exact (slope_set s) c (λ p i. under_mono s (at p) (corner s (lo c) (hi c)) (λ x. greatest (factor s x) (lo c x) (at p x) (hi c x) (i.0 x) (i.1 x)) m-is)
  by_corners false true m-is l-is =
      mixed_exact (slope_set s) c (λ all. both_ways _ (most_in.1.1 ∙ m-is) (all most_in.0 most_in.1.0))
      (λ none. both_ways _ (none least_in.0 least_in.1.0) (least_in.1.1 ∙ l-is))
  by_corners false false m-is l-is =
      outside_exact (slope_set s) c (λ p i. above_mono s (corner s (hi c) (lo c)) (at p) (λ x. least (factor s x) (lo c x) (at p x) (hi c x) (i.0 x) (i.1 x)) l-is)

  pub slope_exact : Exact (slope_relation s c) (slope_set s) c
  slope_exact = by_corners (under s (corner s (lo c) (hi c))) (under s (corner s (hi c) (lo c))) refl refl

pub slope_told : (s : Slope) (c : Cell) (r : Relation) → r ≡ slope_relation s c → Exact r (slope_set s) c
slope_told s c r e = subst (λ r. Exact r (slope_set s) c) (sym e) (slope_exact s c)
