use Rattle.std.proofs.Common.{arith}
use Rattle.grid.proofs.Meanings.{places_most}
use Rattle.grid.proofs.CountLaws.{count_halves}
use Rattle.compare.proofs.Comparison.+count.Goals as goal

pub overflow_add-result : goal.overflow_add-result
overflow_add-result g t c =
    let whole = c.in-Some.ensures.law.places in
    record { fits = omega (arith, whole, places_most c.args.cell, c.count.ensures.few, c.count-in-Some.ensures.few) }

pub returns-in-Some-clause-counted : goal.returns-in-Some-clause-counted
returns-in-Some-clause-counted g t c = count_halves _ c.args.cell c.in-Some.ensures.law c.count.ensures.counted c.count-in-Some.ensures.counted
