use Rattle.charts.specs.Charts.{stitch_set}
use Rattle.charts.specs.Judging.{Tells, Before}
use Rattle.charts.proofs.judging.Judging.row.Given as goal

-- the columns before the needle have shown what is seen
abbrev pub invariant-loop-needle : goal.invariant-loop-needle
invariant-loop-needle l = Tells (Before l.self.cell l.needle l.course) (stitch_set l.self.frame l.self.bytes.now) l.seen
