use Rattle.std.proofs.Common.{◌≡◌, ◌+◌, ◌≤◌, arith}
use Rattle.std.proofs.lemmas.Bool.{ltb-false}
use Rattle.grid.specs.declared.axis.Axis.TheVariants.{Needle, Course}
use Rattle.grid.specs.Cells.{lo, hi}
use Rattle.charts.specs.Charts.{stitch_set}
use Rattle.charts.proofs.SeenLaws.{start_shown, cell_shown, cell_settled}
use Rattle.charts.proofs.judging.Judging.seen.Goals as goal

pub loop-course-init : goal.loop-course-init
loop-course-init c =
    let j = c.args.self.now in
    start_shown (stitch_set j.frame j.bytes.now) j.cell c.course-course.result (cc)

pub returns-then-is_settled : goal.returns-then-is_settled
returns-then-is_settled c =
    let j = c.args.self.now in
    cell_settled (stitch_set j.frame j.bytes.now) j.cell (lo j.cell Needle) c.loop-course.course _ _ c.if-is_settled.ensures c.loop-course.invariant

pub returns-else-is_settled : goal.returns-else-is_settled
returns-else-is_settled c =
    let j = c.args.self.now in
    let k = c.loop-course.course in
    let last : c.course-course-end.result ≡ hi j.cell Course = cc in
    let past : hi j.cell Course + 1 ≤ k + 1 = omega (arith, ltb-false) in
    cell_shown (stitch_set j.frame j.bytes.now) j.cell (lo j.cell Needle) (k + 1) _ _ past c.row-seen.ensures

pub returns : goal.returns
returns c =
    let j = c.args.self.now in
    let first : c.course-course.result ≡ lo j.cell Course = cc in
    let last : c.course-course-end.result ≡ hi j.cell Course = cc in
    let past : hi j.cell Course + 1 ≤ c.loop-course.course = omega (arith, j.cell.ordered Course) in
    cell_shown (stitch_set j.frame j.bytes.now) j.cell (lo j.cell Needle) c.loop-course.course _ _ past c.loop-course.invariant
