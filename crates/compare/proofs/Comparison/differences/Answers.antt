use Rattle.std.proofs.Common.{arith}
use Rattle.grid.proofs.Meanings.{places_most}
use Rattle.compare.specs.Compare.{first_leaf}
use Rattle.compare.proofs.Sameness.{same_from_none, none_in_first, none_in_second}
use Rattle.compare.proofs.Comparison.differences.Goals as goal

pub overflow_add-result : goal.overflow_add-result
overflow_add-result g c = record { fits = omega (arith, places_most c.args.cell, c.count.ensures.few, c.count-2.ensures.few) }

pub returns : goal.returns
returns g c =
    let first = first_leaf (g.A.Pattern.sets c.args.self.now.first.now) in
    let second = first_leaf (g.B.Pattern.sets c.args.self.now.second.now) in
    let cell = c.args.cell in
    let m = c.count.result in
    let n = c.count-2.result in (
      λ e. same_from_none first second cell m n c.count.ensures.counted c.count-2.ensures.counted (omega arith) (omega arith),
      λ same. omega (arith, none_in_first first second cell m c.count.ensures.counted same, none_in_second first second cell n c.count-2.ensures.counted same),
    )
