use Rattle.passes.proofs.SearchLaws.{more_mixed, more_outside}
use Rattle.std.proofs.Common.{rules}
use Rattle.passes.proofs.relation.Goals as goal
use Rattle.passes.proofs.relation.Goals.{in-Mixed, in-Outside}

pub loop-pass-preserved : goal.loop-pass-preserved
loop-pass-preserved c = elim c.match-of_box.branch [ in-Mixed w ↦ search (rules, more_mixed) | in-Outside w ↦ search (rules, more_outside) ]
