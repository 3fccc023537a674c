use Rattle.pattern.proofs.ExactLaws.{is_exactly}
use Rattle.charts.specs.Charts.{stitch_set}
use Rattle.charts.proofs.SeenLaws.{told_exact}
use Rattle.charts.proofs.judging.Judging.relation.Goals as goal

pub returns : goal.returns
returns c =
    let j = c.args.self.now in
    let s = stitch_set j.frame j.bytes.now in
    is_exactly s j.cell c.unwrap_or.result (told_exact s j.cell c.seen.result c.unwrap_or.result c.unwrap_or.ensures c.seen.ensures)
