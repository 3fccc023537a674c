use Rattle.std.proofs.Common.{refl}
use Rattle.grid.specs.Places.{at}
use Rattle.grid.proofs.CellLaws.{cell_from_is}
use Rattle.grid.proofs.cell.Cell.between.Goals as goal

pub returns-then-is_below : goal.returns-then-is_below
returns-then-is_below c = cell_from_is (at c.args.low) (at c.args.high) _ (λ x. refl) (λ x. refl)
