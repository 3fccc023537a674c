use Rattle.std.proofs.Common.{sym, refl}
use Rattle.grid.proofs.HalfLaws.{new_high, new_low, lower_ordered, upper_ordered, halves_are, lone}
use Rattle.grid.proofs.cell.Cell.halve.Goals as goal

pub returns-then-is_one_place-clause-law : goal.returns-then-is_one_place-clause-law
returns-then-is_one_place-clause-law c = lone c.args.self.now (sym c.if-is_one_place.ensures.is)

pub invariant_of-lower : goal.invariant_of-lower
invariant_of-lower c =
    record { ordered = lower_ordered c.args.self.now _ _ c.moved.result c.longest-axis.ensures c.middle-middle.ensures (sym c.if-is_one_place.ensures.is) c.moved.ensures }

pub invariant_of-upper : goal.invariant_of-upper
invariant_of-upper c =
    record { ordered = upper_ordered c.args.self.now _ _ c.moved-2.result c.longest-axis.ensures c.middle-middle.ensures (sym c.if-is_one_place.ensures.is) c.moved-2.ensures }

pub returns : goal.returns
returns c =
    let s = c.args.self.now in
    let high = new_high s _ _ c.moved.result c.longest-axis.ensures c.middle-middle.ensures c.moved.ensures in
    let low = new_low s _ _ c.moved-2.result c.longest-axis.ensures c.middle-middle.ensures c.moved-2.ensures in
    let told = halves_are s _ _ (sym c.if-is_one_place.ensures.is) (λ x. refl) high low (λ x. refl) in
    record { is = told.0; law = told.1 }
