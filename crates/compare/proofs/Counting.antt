-- What halving a cell says of a count, in the words of the calls. Assumes nothing.
use Rattle.std.proofs.Common.{◌≡◌, ℕ, Bool, sym, ap, ◌∙◌, subst}
use mir.Val.{bool_byte}
use Rattle.grid.specs.declared.cell.Cell.{Cell}
use Rattle.grid.specs.declared.place.Place.{Place}
use Rattle.grid.specs.Counts.{Counted}
use Rattle.grid.specs.Laws.{Lone}
use Rattle.grid.proofs.CountLaws.{count_single}
use Rattle.pattern.specs.Sets.{PlaceSet}

-- A cell of one place counts that place, if it is in the set.
pub single_counted : (set : PlaceSet) (c : Cell) (p : Place) (b : Bool) (n : ℕ) → Lone c → p ≡ c.low → b ≡ set p → n ≡ bool_byte b → Counted set c n
single_counted set c p b n lone low is number = subst (Counted set c) (sym number) (count_single set c b lone (is ∙ ap set low))
