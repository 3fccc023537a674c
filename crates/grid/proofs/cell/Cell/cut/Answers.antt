use Rattle.std.proofs.Common.{rules}
use Rattle.grid.specs.Cells.{cut_of}
use Rattle.std.proofs.Common.{◌≡◌}
use Rattle.grid.proofs.CellLaws.{cell_from_as}
use Rattle.grid.proofs.Meanings.{cut_told}
use Rattle.grid.proofs.cell.Cell.cut.Goals as goal

pub returns : goal.returns
returns c =
    let is : c.between.result ≡ cut_of c.args.self.now c.args.other = rw c.between.ensures (search (rules, cell_from_as)) in
    record { is = is; law = cut_told _ _ _ is }
