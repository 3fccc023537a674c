use Rattle.std.proofs.Common.{◌≡◌, ap}
use Rattle.grid.specs.declared.axis.Axis.TheVariants.{Needle, Course, Track}
use Rattle.grid.specs.Places.{at}
use Rattle.grid.specs.Cells.{lo, hi}
use Rattle.charts.specs.Charts.{byte_at, names, stitch_set}
use Rattle.charts.specs.Judging.{held_by, free_by, seen_relation}
use Rattle.charts.proofs.ColumnLaws.{column_tells}
use Rattle.charts.proofs.judging.Judging.column.Goals as goal

pub returns : goal.returns
returns c =
    let j = c.args.self.now in
    let n = c.args.needle in
    let k = c.args.course in
    let byte = byte_at j.frame j.bytes.now n k in
    let told : c.by_byte.result ≡ seen_relation (held_by byte (lo j.cell Track) (hi j.cell Track)) (free_by byte (lo j.cell Track) (hi j.cell Track)) = cc in
    column_tells (stitch_set j.frame j.bytes.now) j.cell n k byte c.requires
    (λ p needle course. let same : byte_at j.frame j.bytes.now (at p Needle) (at p Course) ≡ byte = cc in ap (λ b. names b (at p Track)) same)
    c.by_byte.result told
