-- Two sets are the same in a cell if neither has a place there that the other lacks. Assumes nothing.
use Rattle.std.proofs.Common.{◌≡◌, ℕ, Bool, true, false, not, ◌&&◌, sym, refl, subst}
use Rattle.grid.specs.declared.cell.Cell.{Cell}
use Rattle.grid.specs.Counts.{Counted}
use Rattle.grid.proofs.CountLaws.{none_counted, some_counted}
use Rattle.pattern.specs.Sets.{PlaceSet}
use Rattle.compare.specs.Compare.{held_by, Same}
use Rattle.compare.specs.declared.Holder.TheVariants.{OnlyFirst, OnlySecond}

lacks : (a b : Bool) → (a && not b) ≡ false → (not a && b) ≡ false → a ≡ b
lacks true true e f = refl
lacks true false e f = e
lacks false true e f = sym f
lacks false false e f = refl

lacks_first : (a b : Bool) → a ≡ b → (a && not b) ≡ false
lacks_first true true e = refl
lacks_first true false e = e
lacks_first false b e = refl

lacks_second : (a b : Bool) → a ≡ b → (not a && b) ≡ false
lacks_second true b e = refl
lacks_second false true e = sym e
lacks_second false false e = refl

module _ (first second : PlaceSet) (c : Cell) where
  pub same_from_none : (m n : ℕ) → Counted (held_by OnlyFirst first second) c m → Counted (held_by OnlySecond first second) c n → m ≡ 0 → n ≡ 0 → Same first second c
  same_from_none m n a b e f p i =
      lacks (first p) (second p)
      (none_counted (held_by OnlyFirst first second) c (subst (Counted (held_by OnlyFirst first second) c) e a) p i)
      (none_counted (held_by OnlySecond first second) c (subst (Counted (held_by OnlySecond first second) c) f b) p i)

  pub none_in_first : (m : ℕ) → Counted (held_by OnlyFirst first second) c m → Same first second c → m ≡ 0
  none_in_first m a same = some_counted (held_by OnlyFirst first second) c m a (λ p i. lacks_first (first p) (second p) (same p i))

  pub none_in_second : (n : ℕ) → Counted (held_by OnlySecond first second) c n → Same first second c → n ≡ 0
  none_in_second n b same = some_counted (held_by OnlySecond first second) c n b (λ p i. lacks_second (first p) (second p) (same p i))
