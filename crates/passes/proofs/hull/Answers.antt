use Rattle.std.proofs.Common.{rules}
use Rattle.std.proofs.lemmas.Iterator.{YieldsList-from_slice}
use Rattle.std.proofs.lemmas.Iterator.Consumers.{fold_from_yields_List}
use Rattle.grid.specs.Cells.{hull_of}
use Rattle.passes.specs.Passes.{pass_box}
use Rattle.passes.proofs.PassLaws.{hull_told}
use Rattle.passes.proofs.hull.Goals as goal

pub returns-clause-law : goal.returns-clause-law
returns-clause-law c =
    hull_told c.args.passes.now _
    (fold_from_yields_List _ (λ hull s. hull_of hull (pass_box s)) _ _ c.fold.ensures.ran (YieldsList-from_slice c.args.passes.now (search rules)) (λ a x b q k. search rules))
