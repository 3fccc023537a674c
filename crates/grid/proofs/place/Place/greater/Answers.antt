use Rattle.std.proofs.Common.{rules}
use Rattle.grid.proofs.place.Place.greater.Goals as goal

pub returns : goal.returns
returns c = λ x. let told = c.from_fn.ensures x in search rules
