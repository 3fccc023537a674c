use Rattle.std.proofs.Common.{◌≡◌, ◌+◌, ◌∙◌, sym, ap, arith}
use Rattle.grid.specs.Cells.{side, halvings}
use Rattle.grid.proofs.Meanings.{side_small}
use Rattle.grid.proofs.Sizes.{halvings_16, halvings_above, halvings_one}
use Rattle.grid.proofs.cell.Cell.side_halvings.Goals as goal

pub returns-then-places-eq1 : goal.returns-then-places-eq1
returns-then-places-eq1 c = record { is = sym (ap halvings (sym c.side-places.ensures ∙ c.if-places-eq1.true) ∙ halvings_one); most = omega arith }

pub returns-else-places-eq1 : goal.returns-else-places-eq1
returns-else-places-eq1 c =
    let s = side c.args.self.now c.args.axis in
    let e = c.ilog2.ensures in
    let small = side_small c.args.self.now c.args.axis in
    let is : c.ilog2.result + 1 ≡ halvings s = sym (halvings_above s c.ilog2.result small (omega arith) (omega arith)) in
    record { is = is; most = omega (arith, is, halvings_16 s small) }
