use Rattle.std.proofs.Common.{rules}
use Rattle.shapes.specs.Blocks.{block_set}
use Rattle.pattern.proofs.ExactLaws.{is_exactly}
use Rattle.shapes.proofs.BlockLaws.{block_told}
use Rattle.shapes.proofs.block.Block.relation.Goals as goal

pub returns-clause-is : goal.returns-clause-is
returns-clause-is c =
    is_exactly (block_set c.args.self.now) c.args.cell c.of_box.result
    (block_told c.args.self.now c.bound.result c.args.cell c.of_box.result (search rules) c.of_box.ensures.is)

pub returns-clause-exact : goal.returns-clause-exact
returns-clause-exact c = block_told c.args.self.now c.bound.result c.args.cell c.of_box.result (search rules) c.of_box.ensures.is
