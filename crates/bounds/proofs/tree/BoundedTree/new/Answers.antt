use Rattle.std.proofs.Common.{length, rules}
use Rattle.trees.specs.Checks.{Sound}
use Rattle.bounds.specs.Tables.{Good}
use Rattle.bounds.proofs.FirstLaws.{first_told, good_first}
use Rattle.bounds.proofs.tree.BoundedTree.new.Goals as goal

pub invariant_of-result : goal.invariant_of-result
invariant_of-result g c =
    let sound : Sound (length (g.B.Pattern.sets c.args.bank.now)) c.args.nodes.now = c.in_ok-check.ensures.law in
    let good : Good c.table-table.result = search (rules, good_first) in
    record { some = good.some; few = good.few; whole = good.whole; below = good.below; parents = good.parents }

pub returns-clause-law : goal.returns-clause-law
returns-clause-law g c =
    let sound : Sound (length (g.B.Pattern.sets c.args.bank.now)) c.args.nodes.now = c.in_ok-check.ensures.law in
    search (rules, first_told _ (g.met.B.Bank.facts c.args.bank.now))
