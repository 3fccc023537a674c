-- The marks of a picture, one stitch after the other. Assumes nothing.
use Rattle.std.proofs.Common.{◌≡◌, ℕ, Bool, cond, not, eqb, List, [], ◌∷◌, ◌++◌, map, filter, true, false, refl, ap}
use Rattle.std.specs.List.{flat_map}
use Rattle.agree.specs.Panel.{yarn_of, stitch_of}

-- a picture's stitches are the yarns of all marks but line feeds
pub stitches_are : (marks : List ℕ) → flat_map stitch_of marks ≡ map yarn_of (filter (λ m. not (eqb m 10)) marks)
stitches_are [] = refl
stitches_are (mark ∷ rest) = by_mark (stitches_are rest) (eqb mark 10)
  where
    by_mark : flat_map stitch_of rest ≡ map yarn_of (filter (λ m. not (eqb m 10)) rest) → (feed : Bool) → cond feed [] (yarn_of mark ∷ []) ++ flat_map stitch_of rest ≡ map yarn_of (cond (not feed) (mark ∷ filter (λ m. not (eqb m 10)) rest) (filter (λ m. not (eqb m 10)) rest))
    by_mark more true = more
    by_mark more false = ap (λ l. yarn_of mark ∷ l) more
