use Rattle.std.proofs.Common.{rules}
use Rattle.grid.proofs.Meanings.{meet_told}
use Rattle.grid.proofs.cell.Cell.meets.Goals as goal

pub returns-clause-law : goal.returns-clause-law
returns-clause-law c = search (rules, meet_told)
