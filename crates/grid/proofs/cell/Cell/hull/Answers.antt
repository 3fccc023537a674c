use Rattle.std.proofs.Common.{rules}
use Rattle.grid.proofs.Meanings.{hull_as, hull_told}
use Rattle.grid.proofs.cell.Cell.hull.Goals as goal

pub returns-clause-is : goal.returns-clause-is
returns-clause-is c = search (rules, hull_as)

pub returns-clause-law : goal.returns-clause-law
returns-clause-law c = search (rules, hull_told, hull_as)
