use Rattle.std.proofs.Common.{◌≡◌, true, ◌∙◌, rules}
use Rattle.std.proofs.lemmas.Bool.{both_ways}
use Rattle.bounds.specs.Judgement.{judged_at}
use Rattle.bounds.specs.Trees.{nodes_of}
use Rattle.bounds.proofs.TableLaws.{tree_of}
use Rattle.bounds.proofs.JudgeLaws.{judged_missed, judged_leaf, judged_asked}
use Rattle.bounds.proofs.tree.BoundedTree.+judge_at.Goals as goal
use Rattle.bounds.proofs.tree.BoundedTree.+judge_at.Goals.{then-asks_right, else-asks_right}

pub returns-then-eq : goal.returns-then-eq
returns-then-eq g t c = judged_missed (g.B.Bank.meaning c.args.bank.now) (nodes_of c.args.self.now) (tree_of c.args.self.now) c.args.cell c.args.number c.requires c.entry-entry.result c.entry-entry.ensures.is c.of_box-bound.result c.of_box-bound.ensures.is (search rules)

pub returns-in-Leaf : goal.returns-in-Leaf
returns-in-Leaf g t c = search (rules, judged_leaf, tree_of)

pub returns-after-asks_right : goal.returns-after-asks_right
returns-after-asks_right g t c =
    let m = g.B.Bank.meaning c.args.bank.now in
    let tree = c.args.self.now in
    let right : c.asks_right.result ≡ true → c.if-asks_right.right ≡ judged_at m (nodes_of tree) c.args.cell c.in-Inner.right =
    (elim c.if-asks_right.branch [
      | then-asks_right w ↦ λ _. w.right-is ∙ w.judge_at-right.ensures
      | else-asks_right w ↦ λ asked. absurd (both_ways c.asks_right.result w.if-asks_right.false asked)
    ])
    in
    let node = judged_asked m (nodes_of tree) (tree_of tree) c.args.cell c.args.number c.requires c.entry-entry.result c.entry-entry.ensures.is c.of_box-bound.result c.of_box-bound.ensures.is _ _ _ c.in-Inner.is c.judge_at-left.result c.judge_at-left.ensures c.if-asks_right.right c.asks_right.result c.asks_right.ensures right in
    cc
