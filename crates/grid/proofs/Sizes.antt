-- Sums and products over the axes, and how often a number can be halved. Assumes nothing.
use Rattle.std.proofs.Common.{◌≡◌, ℕ, zero, suc, ◌+◌, ◌-◌, ◌*◌, ◌/◌, ◌^◌, ◌<◌, ◌≤◌, leb, sym, refl, ap, ◌∙◌, subst, ⊎_elim, add-mul, mul-le-mul, pow-suc, mul-add, arith, pow_mono}
use Rattle.std.proofs.lemmas.Bool.{cases_lt, cond-true, cond-false, le-leb, lt-leb}
use Rattle.grid.specs.declared.axis.Axis.{Axis}
use Rattle.grid.specs.declared.axis.Axis.TheVariants.{Needle, Course, Track}
use Rattle.grid.specs.Axes.{Below, total, product, put}
use Rattle.grid.specs.Cells.{reach, halvings}
use Rattle.grid.specs.Laws.{Least}

pub total_mono : (f g : Axis → ℕ) → Below f g → total f ≤ total g
total_mono f g h = omega (arith, h Needle, h Course, h Track)

pub product_mono : (f g : Axis → ℕ) → Below f g → product f ≤ product g
product_mono f g h = mul-le-mul (mul-le-mul (h Needle) (h Course)) (h Track)

pub total_less : (a : Axis) (f : Axis → ℕ) (v : ℕ) → v < f a → total (put a v f) < total f
total_less Needle f v h = omega arith
total_less Course f v h = omega arith
total_less Track f v h = omega arith

-- one factor in two parts
pub product_split : (a : Axis) (f : Axis → ℕ) (u v : ℕ) → u + v ≡ f a → product (put a u f) + product (put a v f) ≡ product f
product_split Needle f u v e = sym (add-mul (u * f Course) (v * f Course) (f Track)) ∙ ap (λ n. n * f Track) (sym (add-mul u v (f Course)) ∙ ap (λ n. n * f Course) e)
product_split Course f u v e = sym (add-mul (f Needle * u) (f Needle * v) (f Track)) ∙ ap (λ n. n * f Track) (sym (mul-add (f Needle) u v) ∙ ap (λ n. f Needle * n) e)
product_split Track f u v e = sym (mul-add (f Needle * f Course) u v) ∙ ap (λ n. f Needle * f Course * n) e

-- a power of two that is enough ends the search for one, and any other leads on to the next

pub reach_here : (tries s k : ℕ) → s ≤ 2 ^ k → reach tries s k ≡ k
reach_here zero s k h = refl
reach_here (suc tries) s k h = cond-true (leb s (2 ^ k)) k (reach tries s (suc k)) (le-leb s (2 ^ k) h)

pub reach_on : (tries s k : ℕ) → 2 ^ k < s → reach (suc tries) s k ≡ reach tries s (suc k)
reach_on tries s k h = cond-false (leb s (2 ^ k)) k (reach tries s (suc k)) (lt-leb s (2 ^ k) h)

-- the search ends at the least

further : (s k : ℕ) → 2 ^ k < s → (j : ℕ) → s ≤ 2 ^ j → suc k ≤ j
further s k short j h = ⊎_elim (λ more. more) (λ less. omega (arith, pow_mono less)) (cases_lt k j)

pub reach_least : (tries s k : ℕ) → s ≤ 2 ^ (k + tries) → ((j : ℕ) → s ≤ 2 ^ j → k ≤ j) → Least s (reach tries s k)
reach_least zero s k far near = record { enough = rw native.Mathlib.Nat.add-zero at far; needed = near }
reach_least (suc tries) s k far near =
    ⊎_elim
    (λ short. rw (reach_on tries s k short) (reach_least tries s (suc k) (subst (λ (n : ℕ). s ≤ 2 ^ n) (omega arith) far) (further s k short)))
    (λ long. rw (reach_here (suc tries) s k long) (record { enough = long; needed = near }))
    (cases_lt (2 ^ k) s)

pub halvings_least : (s : ℕ) → s ≤ 2 ^ 16 → Least s (halvings s)
unfolding halvings
halvings_least s h = reach_least 16 s 0 h (λ j _. omega arith)

-- the library's logarithm finds it
pub halvings_above : (s r : ℕ) → s ≤ 2 ^ 16 → 2 ^ r < s → s ≤ 2 * 2 ^ r → halvings s ≡ r + 1
halvings_above s r small above below =
    let l = halvings_least s small in
    let p = pow-suc 2 r in
    omega (arith, l.needed (suc r) (omega (arith, p)), further s r above (halvings s) l.enough)

pub halvings_one : halvings 1 ≡ 0
halvings_one = omega (arith, (halvings_least 1 (omega arith)).needed 0 (omega arith))

pub halvings_16 : (s : ℕ) → s ≤ 2 ^ 16 → halvings s ≤ 16
halvings_16 s small = (halvings_least s small).needed 16 small

pub halvings_mono : (s t : ℕ) → s ≤ t → t ≤ 2 ^ 16 → halvings s ≤ halvings t
halvings_mono s t h k = (halvings_least s (omega arith)).needed (halvings t) (omega (arith, (halvings_least t k).enough))

-- a half of two places or more, rounded up, takes one halving fewer
half_less : (s k : ℕ) → 2 ≤ s → s ≤ 2 ^ k → Least (s - s / 2) (halvings (s - s / 2)) → halvings (s - s / 2) < k
half_less s zero two far l = omega arith
half_less s (suc k) two far l = let p = pow-suc 2 k in omega (arith, l.needed k (omega (arith, p)))

pub halvings_upper : (s : ℕ) → 2 ≤ s → s ≤ 2 ^ 16 → halvings (s - s / 2) < halvings s
halvings_upper s two far = half_less s (halvings s) two (halvings_least s far).enough (halvings_least (s - s / 2) (omega arith))

pub halvings_lower : (s : ℕ) → 2 ≤ s → s ≤ 2 ^ 16 → halvings (s / 2) < halvings s
halvings_lower s two far = omega (arith, halvings_upper s two far, halvings_mono (s / 2) (s - s / 2) (omega arith) (omega arith))
