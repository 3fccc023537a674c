use Rattle.std.proofs.Common.{◌≡◌, length, take}
use Rattle.bounds.specs.First.{first_bounds}
use Rattle.bounds.proofs.first.FirstBounds.table.Given as goal

abbrev pub invariant-loop-number : goal.invariant-loop-number
invariant-loop-number g l =
    (take l.number l.table.nodes ≡ take l.number (first_bounds (g.B.Bank.meaning l.self.bank.now) l.self.workspace l.nodes)) × (l.table.count ≡ length l.nodes) × (length l.table.nodes ≡ 127)
