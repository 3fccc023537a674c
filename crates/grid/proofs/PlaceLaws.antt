-- Places are known by their numbers. Assumes nothing.
use Rattle.std.proofs.Common.{◌≡◌, ℕ, ◌<◌, Bool, true, false, ◌&&◌, leb, Some, Decides, sym, refl, ap, ◌∙◌, ⊎_elim, arith}
use mathlib.Core.HLevel.{is_prop→PathP, Π_prop}
use native.Mathlib.Bridge.{le_prop}
use Rattle.std.proofs.lemmas.Bool.{and_from, and_cases, le-leb, leb-false, true≢false}
use Rattle.std.proofs.lemmas.Bool.Decides.{nat_tests}
use Rattle.grid.specs.declared.axis.Axis.{Axis}
use Rattle.grid.specs.declared.axis.Axis.TheVariants.{Needle, Course, Track}
use Rattle.grid.specs.declared.place.Place.{Place}
use Rattle.grid.specs.Axes.{top, along, Below, below}
use Rattle.grid.specs.Places.{below_true, at, place_if, place_from}

pub below_from : (f g : Axis → ℕ) → Below f g → below f g ≡ true
below_from f g h =
    and_from (leb (f Needle) (g Needle)) (leb (f Course) (g Course) && leb (f Track) (g Track)) (le-leb (f Needle) (g Needle) (h Needle))
    (and_from (leb (f Course) (g Course)) (leb (f Track) (g Track)) (le-leb (f Course) (g Course) (h Course)) (le-leb (f Track) (g Track) (h Track)))

pub decides_below : (f g : Axis → ℕ) → Decides (below f g) (Below f g)
decides_below f g = (below_true f g, below_from f g)

-- where the test fails, an axis shows it
pub below_false : (f g : Axis → ℕ) → below f g ≡ false → (x : Axis) × (g x < f x)
below_false f g e =
    ⊎_elim (λ n. (Needle, leb-false (f Needle) (g Needle) n))
    (λ r. ⊎_elim (λ c. (Course, leb-false (f Course) (g Course) c)) (λ t. (Track, leb-false (f Track) (g Track) t)) (and_cases (leb (f Course) (g Course)) (leb (f Track) (g Track)) r))
    (and_cases (leb (f Needle) (g Needle)) (leb (f Course) (g Course) && leb (f Track) (g Track)) e)

pub below_fails : (f g : Axis → ℕ) (x : Axis) → g x < f x → below f g ≡ false
below_fails f g Needle h = grind (arith, nat_tests)
below_fails f g Course h = grind (arith, nat_tests)
below_fails f g Track h = grind (arith, nat_tests)

pub along_is : (f : Axis → ℕ) (x : Axis) → along (f Needle) (f Course) (f Track) x ≡ f x
along_is f Needle = refl
along_is f Course = refl
along_is f Track = refl

-- two places with the same numbers are one
pub place_ext : (p q : Place) → ((x : Axis) → at p x ≡ at q x) → p ≡ q
place_ext p q same = λ i. record {
  needle = same Needle i;
  course = same Course i;
  track = same Track i;
  on_grid = is_prop→PathP (λ i. Below (along (same Needle i) (same Course i) (same Track i)) top) (λ i. Π_prop (λ x. le_prop)) p.on_grid q.on_grid i;
}

place_if_is : (f : Axis → ℕ) (p : Place) → ((x : Axis) → at p x ≡ f x) → (b : Bool) (e : below f top ≡ b) → b ≡ true → Some p ≡ place_if f b e
place_if_is f p same true e t = ap Some (place_ext p _ (λ x. same x ∙ sym (along_is f x)))
place_if_is f p same false e t = absurd (true≢false (sym t))

pub place_from_is : (f : Axis → ℕ) (p : Place) → ((x : Axis) → at p x ≡ f x) → Some p ≡ place_from f
place_from_is f p same = place_if_is f p same (below f top) refl (below_from f top (λ x. omega (arith, same x, p.on_grid x)))
