use Rattle.std.proofs.Common.{◌≡◌, ◌+◌, ◌≤◌, arith}
use Rattle.std.proofs.lemmas.Bool.{ltb-false}
use Rattle.grid.specs.declared.axis.Axis.TheVariants.{Needle}
use Rattle.grid.specs.Cells.{lo, hi}
use Rattle.charts.specs.Charts.{stitch_set}
use Rattle.charts.proofs.SeenLaws.{column_joined, row_shown, row_settled}
use Rattle.charts.proofs.judging.Judging.row.Goals as goal

pub returns-then-is_settled : goal.returns-then-is_settled
returns-then-is_settled c =
    let j = c.args.self.now in
    row_settled (stitch_set j.frame j.bytes.now) j.cell c.loop-needle.needle c.args.course _ _ c.if-is_settled.ensures c.loop-needle.invariant

pub loop-needle-preserved : goal.loop-needle-preserved
loop-needle-preserved c =
    let j = c.args.self.now in
    column_joined (stitch_set j.frame j.bytes.now) j.cell c.loop-needle.needle c.args.course _ _ _ _ _ _ c.joined.ensures.held c.joined.ensures.free c.loop-needle.invariant
    c.column.ensures

pub returns-else-is_settled : goal.returns-else-is_settled
returns-else-is_settled c =
    let j = c.args.self.now in
    let n = c.loop-needle.needle in
    let last : c.needle-needle-end.result ≡ hi j.cell Needle = cc in
    let past : hi j.cell Needle + 1 ≤ n + 1 = omega (arith, ltb-false) in
    row_shown (stitch_set j.frame j.bytes.now) j.cell (n + 1) c.args.course _ _ past
    (column_joined (stitch_set j.frame j.bytes.now) j.cell n c.args.course _ _ _ _ _ _ c.joined.ensures.held c.joined.ensures.free c.loop-needle.invariant c.column.ensures)

pub returns : goal.returns
returns c =
    let j = c.args.self.now in
    let first : c.needle-needle.result ≡ lo j.cell Needle = cc in
    let last : c.needle-needle-end.result ≡ hi j.cell Needle = cc in
    let past : hi j.cell Needle + 1 ≤ c.loop-needle.needle = omega (arith, j.cell.ordered Needle) in
    row_shown (stitch_set j.frame j.bytes.now) j.cell c.loop-needle.needle c.args.course _ _ past c.loop-needle.invariant
