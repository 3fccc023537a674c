-- The numbers that pass a test. Assumes nothing.
use Rattle.std.proofs.Common.{◌≡◌, ℕ, zero, suc, ◌+◌, ◌<◌, Bool, true, false, cond, ◌⊎◌, ◌↔◌, List, [], ◌∷◌, ◌++◌, length, sym, refl, ap, ◌∙◌, subst, inl, inr, ⊎_elim, add-one, arith}
use Rattle.std.proofs.lemmas.List.{append-nil, length_push}
use Rattle.std.proofs.lemmas.Bool.{cases_lt, both_ways}
use Rattle.bounds.specs.Tightening.{passing, Among}

pub passing_none : (test : ℕ → Bool) → passing test 0 ≡ []
unfolding passing
passing_none test = refl

-- One number more, that passes or fails.
pub passing_one : (test : ℕ → Bool) (n : ℕ) → test n ≡ true → passing test (n + 1) ≡ passing test n ++ (n ∷ [])
unfolding passing
passing_one test n t = ap (passing test) (add-one n) ∙ ap (λ b. passing test n ++ cond b (n ∷ []) []) t

pub passing_same : (test : ℕ → Bool) (n : ℕ) → test n ≡ false → passing test (n + 1) ≡ passing test n
unfolding passing
passing_same test n f = ap (passing test) (add-one n) ∙ ap (λ b. passing test n ++ cond b (n ∷ []) []) f ∙ append-nil (passing test n)

-- What stands in a list with one number more.
among_push : (xs : List ℕ) (n k : ℕ) → Among k (xs ++ (n ∷ [])) ↔ (Among k xs ⊎ (k ≡ n))
among_push [] n k = (λ h. ⊎_elim (λ e. inr e) (λ z. absurd z) h, λ h. ⊎_elim (λ z. absurd z) (λ e. inl e) h)
among_push (x ∷ xs) n k = (
  λ h. ⊎_elim (λ e. inl (inl e)) (λ r. ⊎_elim (λ m. inl (inr m)) (λ e. inr e) ((among_push xs n k).0 r)) h,
  λ h. ⊎_elim (λ m. ⊎_elim (λ e. inl e) (λ r. inr ((among_push xs n k).1 (inl r))) m) (λ e. inr ((among_push xs n k).1 (inr e))) h,
)

-- Just the numbers below n that pass stand in the list.
one_just : (test : ℕ → Bool) (n k : ℕ) (xs : List ℕ) → Among k xs ↔ ((k < n) × (test k ≡ true)) → (b : Bool) → test n ≡ b → Among k (xs ++ cond b (n ∷ []) []) ↔ ((k < suc n) × (test k ≡ true))
one_just test n k xs just true t = (
  λ h. ⊎_elim (λ m. let g = just.0 m in (omega (arith, g.0), g.1)) (λ e. (omega arith, ap test e ∙ t)) ((among_push xs n k).0 h),
  λ h. (among_push xs n k).1 (⊎_elim (λ l. inl (just.1 (l, h.1))) (λ l. inr (omega (arith, h.0))) (cases_lt k n)),
)
one_just test n k xs just false f = (
  λ h. let g = just.0 (subst (Among k) (append-nil xs) h) in (omega (arith, g.0), g.1),
  λ h. subst (Among k) (sym (append-nil xs)) (⊎_elim (λ l. just.1 (l, h.1)) (λ l. let e : k ≡ n = omega (arith, h.0) in absurd (both_ways (test n) f (ap test (sym e) ∙ h.1))) (cases_lt k n)),
)

pub passing_just : (test : ℕ → Bool) (n k : ℕ) → Among k (passing test n) ↔ ((k < n) × (test k ≡ true))
unfolding passing
passing_just test zero k = (λ h. absurd h, λ h. absurd (omega (arith, h.0)))
passing_just test (suc n) k = one_just test n k (passing test n) (passing_just test n k) (test n) refl

-- Tests that agree on the numbers below n pass the same of them.
pub passing_like : (f g : ℕ → Bool) (n : ℕ) → ((j : ℕ) → j < n → f j ≡ g j) → passing f n ≡ passing g n
unfolding passing
passing_like f g zero same = refl
passing_like f g (suc n) same =
    ap (λ xs. xs ++ cond (f n) (n ∷ []) []) (passing_like f g n (λ j h. same j (omega arith)))
    ∙ ap (λ b. passing g n ++ cond b (n ∷ []) []) (same n (omega arith))

-- How many numbers pass: one number more at the end, and at the front.
count_more : (test : ℕ → Bool) (n : ℕ) → length (passing test (suc n)) ≡ length (passing test n) + cond (test n) 1 0
unfolding passing
count_more test n =
    elim (test n) as (λ b. length (passing test n ++ cond b (n ∷ []) []) ≡ length (passing test n) + cond b 1 0) [
      | true ↦ omega (arith, length_push (passing test n) n)
      | false ↦ omega (arith, ap length (append-nil (passing test n)))
    ]

pub count_front : (test : ℕ → Bool) (n : ℕ) → length (passing test (suc n)) ≡ cond (test 0) 1 0 + length (passing (λ i. test (suc i)) n)
count_front test zero = omega (arith, count_more test 0, ap length (passing_none test), ap length (passing_none (λ i. test (suc i))))
count_front test (suc n) = omega (arith, count_more test (suc n), count_front test n, count_more (λ i. test (suc i)) n)
