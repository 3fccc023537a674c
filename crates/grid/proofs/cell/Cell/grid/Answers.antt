use Rattle.std.proofs.Common.{◌≡◌, sym, ◌∙◌, subst, arith, rules}
use Rattle.grid.specs.declared.axis.Axis.{Axis}
use Rattle.grid.specs.Axes.{top}
use Rattle.grid.specs.Places.{at}
use Rattle.grid.specs.Cells.{In, grid_cell}
use Rattle.grid.proofs.PlaceLaws.{along_is}
use Rattle.grid.proofs.CellLaws.{cell_ext}
use Rattle.grid.proofs.Meanings.{in_grid}
use Rattle.grid.proofs.cell.Cell.grid.Goals as goal

pub invariant_of-result : goal.invariant_of-result
invariant_of-result c =
    let zeros : (x : Axis) → at c.from_fn.result x ≡ 0 = λ x. let told = c.from_fn.ensures x in search rules in
    record { ordered = λ x. omega (arith, zeros x) }

pub returns : goal.returns
returns c =
    let zeros : (x : Axis) → at c.from_fn.result x ≡ 0 = λ x. let told = c.from_fn.ensures x in search rules in
    let tops : (x : Axis) → at c.from_fn-2.result x ≡ top x = λ x. let told = c.from_fn-2.ensures x in search rules in
    let is = cell_ext _ grid_cell (λ x. zeros x ∙ sym (along_is (λ x. 0) x)) (λ x. tops x ∙ sym (along_is top x)) in
    record { is = is; law = λ p. subst (In p) (sym is) (in_grid p) }
