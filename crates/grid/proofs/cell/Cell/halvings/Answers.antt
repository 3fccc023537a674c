use Rattle.std.proofs.Common.{rules}
use Rattle.grid.specs.Cells.{side}
use Rattle.grid.proofs.Meanings.{side_small, halvings_told}
use Rattle.grid.proofs.Sizes.{halvings_least}
use Rattle.grid.proofs.cell.Cell.halvings.Goals as goal

pub returns-clause-most : goal.returns-clause-most
returns-clause-most c = search (rules, halvings_told)

pub returns-clause-least : goal.returns-clause-least
returns-clause-least c = λ x. halvings_least (side c.args.self.now x) (side_small c.args.self.now x)
