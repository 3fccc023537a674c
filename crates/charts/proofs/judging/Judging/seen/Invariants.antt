use Rattle.grid.specs.declared.axis.Axis.TheVariants.{Needle}
use Rattle.grid.specs.Cells.{lo}
use Rattle.charts.specs.Charts.{stitch_set}
use Rattle.charts.specs.Judging.{Tells, Before}
use Rattle.charts.proofs.judging.Judging.seen.Given as goal

-- the rows before the course have shown what is seen
abbrev pub invariant-loop-course : goal.invariant-loop-course
invariant-loop-course l = Tells (Before l.self.cell (lo l.self.cell Needle) l.course) (stitch_set l.self.frame l.self.bytes.now) l.seen
