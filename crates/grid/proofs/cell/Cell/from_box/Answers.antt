use Rattle.std.proofs.Common.{◌≡◌, ◌∙◌, rules}
use Rattle.grid.specs.Cells.{box_of}
use Rattle.grid.specs.Refusals.{numbers}
use Rattle.grid.proofs.RefusalLaws.{box_between, ok_taken}
use Rattle.grid.proofs.Meanings.{box_told}
use Rattle.grid.proofs.cell.Cell.from_box.Goals as goal

pub returns-in_err-low-clause-law : goal.returns-in_err-low-clause-law
returns-in_err-low-clause-law c = box_told (numbers c.args.low) (numbers c.args.high) c.from_residual.result (search rules)

pub returns : goal.returns
returns c =
    let is : c.between.result ≡ box_of (numbers c.args.low) (numbers c.args.high) = c.between.ensures ∙ search (rules, box_between, ok_taken) in
    record { is = is; law = box_told _ _ _ is }
