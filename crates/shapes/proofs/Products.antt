-- Products of a signed factor and a number, on one axis. Assumes nothing.
use Rattle.std.proofs.Common.{◌≡◌, ℕ, suc, ◌*◌, ◌^◌, ◌<◌, ◌≤◌, ltb, ℤ, pos, negsuc, ◌*ℤ◌, neg_ℤ, ◌≤ℤ◌, mul-le-mul, mul-le-mul_left, arith, w16, SFits}
use lib.Signed.{lt_z}
use Rattle.std.proofs.lemmas.Int.{ints}
use Rattle.std.proofs.lemmas.Bool.{cond_both, cond-false, le-ltb}
use Rattle.shapes.specs.Slopes.{toward}

-- a factor of 16 bits and a number of 16 bits make a product of at most 2 ^ 31

pub product_not_above : (f : ℤ) (n : ℕ) → SFits w16 f → n < 2 ^ 16 → (f *ℤ pos n) ≤ℤ pos (2 ^ 31)
product_not_above (pos a) n h k =
    let le : a * n ≤ 2 ^ 15 * 2 ^ 16 = mul-le-mul {n₁ = a} {m₁ = n} {n₂ = 2 ^ 15} {m₂ = 2 ^ 16} (omega arith) (omega arith) in
    omega (arith, ints)
product_not_above (negsuc a) n h k = omega (arith, ints)

pub product_not_below : (f : ℤ) (n : ℕ) → SFits w16 f → n < 2 ^ 16 → neg_ℤ (pos (2 ^ 31)) ≤ℤ (f *ℤ pos n)
product_not_below (pos a) n h k = omega (arith, ints)
product_not_below (negsuc a) n h k =
    let le : suc a * n ≤ 2 ^ 15 * 2 ^ 16 = mul-le-mul {n₁ = suc a} {m₁ = n} {n₂ = 2 ^ 15} {m₂ = 2 ^ 16} (omega arith) (omega arith) in
    omega (arith, ints)

-- the number that the sign of the factor chooses is one of the two, and gives the greatest or the least product

pub toward_above : (f : ℤ) (from to m : ℕ) → m ≤ from → m ≤ to → m ≤ toward f from to
toward_above f from to m h k = cond_both (lt_z f (pos 0)) from to (λ n. m ≤ n) (λ _. h) (λ _. k)

pub toward_below : (f : ℤ) (from to m : ℕ) → from ≤ m → to ≤ m → toward f from to ≤ m
toward_below f from to m h k = cond_both (lt_z f (pos 0)) from to (λ n. n ≤ m) (λ _. h) (λ _. k)

toward_pos : (a from to : ℕ) → toward (pos a) from to ≡ to
toward_pos a from to = cond-false (ltb a 0) from to (le-ltb a 0 (omega arith))

pub greatest : (f : ℤ) (low v high : ℕ) → low ≤ v → v ≤ high → (f *ℤ pos v) ≤ℤ (f *ℤ pos (toward f low high))
greatest (pos a) low v high h k = let le : a * v ≤ a * high = mul-le-mul_left a k in rw toward_pos (omega (arith, ints))
greatest (negsuc a) low v high h k = let le : suc a * low ≤ suc a * v = mul-le-mul_left (suc a) h in omega (arith, ints)

pub least : (f : ℤ) (low v high : ℕ) → low ≤ v → v ≤ high → (f *ℤ pos (toward f high low)) ≤ℤ (f *ℤ pos v)
least (pos a) low v high h k = let le : a * low ≤ a * v = mul-le-mul_left a h in rw toward_pos (omega (arith, ints))
least (negsuc a) low v high h k = let le : suc a * v ≤ suc a * high = mul-le-mul_left (suc a) k in omega (arith, ints)
