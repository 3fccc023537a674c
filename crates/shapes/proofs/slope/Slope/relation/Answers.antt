use Rattle.std.proofs.Common.{rules}
use Rattle.pattern.proofs.ExactLaws.{is_exactly}
use Rattle.shapes.proofs.SlopeLaws.{slope_told}
use Rattle.shapes.proofs.slope.Slope.relation.Goals as goal

pub returns-clause-is : goal.returns-clause-is
returns-clause-is c = search (rules, is_exactly, slope_told)

pub returns-clause-exact : goal.returns-clause-exact
returns-clause-exact c = search (rules, slope_told)
