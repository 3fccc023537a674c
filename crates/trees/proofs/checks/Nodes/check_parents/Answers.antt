use Rattle.std.proofs.Common.{◌≡◌, ◌-◌, length, Some, None, Err, sym, ap, ◌∙◌, rules}
use Rattle.trees.specs.Nodes.{nodes_from}
use Rattle.trees.specs.Faults.{told, told_of}
use Rattle.trees.specs.Checks.{answered}
use Rattle.trees.proofs.SearchLaws.{refused, passed, parent_next}
use Rattle.trees.proofs.checks.Nodes.check_parents.Goals as goal

pub returns-in_err-check_parent : goal.returns-in_err-check_parent
returns-in_err-check_parent c =
    let t = told_of c.in_err-check_parent.field-0.0 in
    let nodes = c.args.self.now.nodes.now in
    let is : told c.from_residual.result ≡ Err t = search rules in
    let next = parent_next (nodes_from nodes) c.loop-child.child (length nodes - 1) c.loop-child-test.true (Some t) (refused _ t c.in_err-check_parent.ensures) in
    is ∙ ap (λ o. answered o (tt {0})) (sym next ∙ c.loop-child.invariant)

pub loop-child-preserved : goal.loop-child-preserved
loop-child-preserved c =
    let nodes = c.args.self.now.nodes.now in
    sym (parent_next (nodes_from nodes) c.loop-child.child (length nodes - 1) c.loop-child-test.true None (passed _ c.in_ok-check_parent.ensures))
    ∙ c.loop-child.invariant
