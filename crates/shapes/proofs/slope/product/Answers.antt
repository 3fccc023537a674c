-- The product of 16 bits and 16 bits fits 64 bits, so what is computed is the product.
use Rattle.std.proofs.Common.{◌≡◌, ◌^◌, ◌<◌, pos, ◌*ℤ◌, refl, arith, w16, w64, SFits, to_z, of_z}
use Rattle.std.proofs.lemmas.Int.{ints, to_z-of_z, to_z_pos}
use Rattle.shapes.proofs.Products.{product_not_above, product_not_below}
use Rattle.shapes.proofs.slope.product.Goals as goal

pub returns : goal.returns
returns c =
    let f = c.args.factor in
    let n = c.args.number in
    let fits = c.ranges.factor in
    let small : n < 2 ^ 16 = omega arith in
    let above = product_not_above f n fits small in
    let below = product_not_below f n fits small in
    let narrow : to_z w16 (of_z w16 f) ≡ f = to_z-of_z w16 f fits in
    let wide : SFits w64 f = omega (arith, ints) in
    let whole : SFits w64 (f *ℤ pos n) = omega (arith, ints) in
    let plain : to_z w64 n ≡ pos n = to_z_pos w64 n (omega arith) in
    simp (narrow, to_z-of_z w64 f wide, plain, to_z-of_z w64 (f *ℤ pos n) whole) (record { is = refl; not_above = above; not_below = below })
