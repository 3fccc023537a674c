use Rattle.std.proofs.Common.{length, Err, rules}
use Rattle.std.proofs.lemmas.Grind.{common_steps}
use Rattle.trees.specs.Faults.{told}
use Rattle.trees.specs.Checks.{fault}
use Rattle.trees.proofs.CheckLaws.{answer_law}
use Rattle.trees.proofs.checks.check.Goals as goal

pub returns-then-is_empty-clause-law : goal.returns-then-is_empty-clause-law
returns-then-is_empty-clause-law g c =
    let leaves = length (g.P.Pattern.sets c.args.pattern.now) in
    answer_law leaves c.args.nodes.now (tt {0}) (Err (fault 5 0)) (search (rules, common_steps))

pub returns-in_err-check_nodes-clause-law : goal.returns-in_err-check_nodes-clause-law
returns-in_err-check_nodes-clause-law g c =
    let leaves = length (g.P.Pattern.sets c.args.pattern.now) in
    answer_law leaves c.args.nodes.now (tt {0}) (told c.from_residual.result) (search (rules, common_steps))

pub returns-clause-law : goal.returns-clause-law
returns-clause-law g c =
    let leaves = length (g.P.Pattern.sets c.args.pattern.now) in
    answer_law leaves c.args.nodes.now (tt {0}) (told c.check_parents.result) (search (rules, common_steps))
