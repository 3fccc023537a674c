use Rattle.std.proofs.Common.{rules}
use Rattle.grid.proofs.HalfLaws.{put_told}
use Rattle.grid.proofs.halves.moved.Goals as goal

pub returns : goal.returns
returns c = λ x. let told = c.from_fn.ensures x in search (rules, put_told)
