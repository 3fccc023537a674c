use Rattle.grid.specs.Cells.{halvings_of}
use Rattle.compare.proofs.Comparison.+count.Given as goal

abbrev pub decreases-count : goal.decreases-count
decreases-count g l = halvings_of l.cell
