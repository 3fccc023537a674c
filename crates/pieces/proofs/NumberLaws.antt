-- A comparison with what is not a number fails. Assumes nothing.
use Rattle.std.proofs.Common.{◌≡◌, Bool, true, sym, ◌∙◌, subst}
use Rattle.std.specs.Float.{Float, nan, NotNan, ◌≤ᶠ◌}
use Rattle.std.specs.Float.Ieee.{is_nan, le, lt}
use Rattle.std.proofs.lemmas.Float.{T_from_true, le_left, le_right, le_of_lt}
use Rattle.pieces.specs.declared.edge.Edge.{Edge}
use Rattle.pieces.specs.declared.edge.Edge.TheVariants.{Open, Closed, Free}
use Rattle.pieces.specs.Pieces.{from_low, to_high, Numbers}

numbers : (x y : Float) → x ≤ᶠ y → (x ≡ nan → ⊥) × (y ≡ nan → ⊥)
unfolding is_nan
numbers x y h = (λ e. subst NotNan e (le_left x y h), λ e. subst NotNan e (le_right x y h))

pub lt_numbers : (x y : Float) → lt x y ≡ true → (x ≡ nan → ⊥) × (y ≡ nan → ⊥)
lt_numbers x y t = numbers x y (le_of_lt x y (T_from_true (lt x y) t))

pub le_numbers : (x y : Float) → le x y ≡ true → (x ≡ nan → ⊥) × (y ≡ nan → ⊥)
le_numbers x y t = numbers x y (T_from_true (le x y) t)

pub low_numbers : (edge : Edge) (m : Float) (r : Bool) → r ≡ from_low edge m → r ≡ true → Numbers edge m
low_numbers (Open e) m r is t = lt_numbers e m (sym is ∙ t)
low_numbers (Closed e) m r is t = le_numbers e m (sym is ∙ t)
low_numbers Free m r is t = tt

pub high_numbers : (edge : Edge) (m : Float) (r : Bool) → r ≡ to_high edge m → r ≡ true → Numbers edge m
high_numbers (Open e) m r is t = let n = lt_numbers m e (sym is ∙ t) in (n.1, n.0)
high_numbers (Closed e) m r is t = let n = le_numbers m e (sym is ∙ t) in (n.1, n.0)
high_numbers Free m r is t = tt
