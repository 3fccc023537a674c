-- The sum of three products fits 64 bits, so what is computed is the sum.
use Rattle.std.proofs.Common.{◌≡◌, ℕ, ℤ, pos, ◌+ℤ◌, ◌*ℤ◌, ap, ◌∙◌, arith, w16, w64, SFits, to_z, of_z, rules}
use lib.Signed.{le_z}
use Rattle.std.proofs.lemmas.Int.{ints, to_z-of_z}
use Rattle.grid.specs.declared.axis.Axis.TheVariants.{Needle, Course, Track}
use Rattle.shapes.proofs.slope.Slope.is_under.Goals as goal

pub overflow_add-result-2 : goal.overflow_add-result-2
overflow_add-result-2 g c =
    let n = c.product-needle.result in
    let k = c.product-course.result in
    let t = c.product-track.result in
    let nk : SFits w64 (n +ℤ k) = omega (arith, ints) in
    simp (to_z-of_z w64 n (search rules), to_z-of_z w64 k (search rules), to_z-of_z w64 t (search rules), to_z-of_z w64 (n +ℤ k) nk) (omega (arith, ints))

-- the sum and the limit, each as it is computed and read back
computed : (n k t d n' k' t' : ℤ) → SFits w64 n → SFits w64 k → SFits w64 t → SFits w64 (n +ℤ k) → SFits w64 (n +ℤ k +ℤ t) → SFits w64 d → n ≡ n' → k ≡ k' → t ≡ t' → le_z (to_z w64 (of_z w64 (to_z w64 (of_z w64 (to_z w64 (of_z w64 n) +ℤ to_z w64 (of_z w64 k))) +ℤ to_z w64 (of_z w64 t)))) (to_z w64 (of_z w64 d)) ≡ le_z (n' +ℤ k' +ℤ t') d
computed n k t d n' k' t' h₁ h₂ h₃ h₄ h₅ h₆ e₁ e₂ e₃ =
    let a = to_z-of_z w64 n h₁ in
    let b = to_z-of_z w64 k h₂ in
    let f = to_z-of_z w64 t h₃ in
    let g = to_z-of_z w64 (n +ℤ k) h₄ in
    let h = to_z-of_z w64 (n +ℤ k +ℤ t) h₅ in
    let i = to_z-of_z w64 d h₆ in
    cc

pub returns : goal.returns
returns g c =
    let s = c.args.self.now in
    let f = g.N.Coordinates.along c.args.numbers.now in
    let of = λ (f : ℤ) (v w : ℕ) (fits : SFits w16 f) (is : v ≡ w). ap (λ g. g *ℤ pos v) (to_z-of_z w16 f fits) ∙ ap (λ n. f *ℤ pos n) is in
    computed c.product-needle.result c.product-course.result c.product-track.result s.limit (s.needle *ℤ pos (f Needle)) (s.course *ℤ pos (f Course)) (s.track *ℤ pos (f Track))
    (search rules) (search rules) (search rules) (omega (arith, ints)) (omega (arith, ints)) (search rules)
    (c.product-needle.ensures.is ∙ of s.needle _ _ (search rules) c.on.ensures)
    (c.product-course.ensures.is ∙ of s.course _ _ (search rules) c.on-2.ensures)
    (c.product-track.ensures.is ∙ of s.track _ _ (search rules) c.on-3.ensures)
