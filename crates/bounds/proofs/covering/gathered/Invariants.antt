use Rattle.std.proofs.Common.{◌≡◌, ◌≤◌, false, length, get_or}
use Rattle.bounds.specs.Tightening.{passing}
use Rattle.bounds.specs.Trees.{numbers_of}
use Rattle.bounds.proofs.covering.gathered.Given as goal

abbrev pub invariant-loop-number : goal.invariant-loop-number
invariant-loop-number l = (numbers_of l.leaves ≡ passing (λ j. get_or l.marks j false) l.number) × (length (numbers_of l.leaves) ≤ l.number)
