use Rattle.std.proofs.Common.{◌≡◌, Some, None, Err, sym, ap, ◌∙◌, rules}
use Rattle.std.proofs.lemmas.List.{at_drop_all}
use Rattle.trees.specs.Faults.{told, told_of}
use Rattle.trees.specs.Checks.{node_faults, answered}
use Rattle.trees.proofs.SearchLaws.{refused, passed, fault_next}
use Rattle.trees.proofs.checks.Nodes.check_nodes.Goals as goal

pub returns-in_err-check_node : goal.returns-in_err-check_node
returns-in_err-check_node c =
    let t = told_of c.in_err-check_node.field-0.0 in
    let is : told c.from_residual.result ≡ Err t = search rules in
    let next = fault_next c.args.self.now.nodes.now c.loop-number.number _ c.loop-number-test.true c.args.leaves c.loop-number.number (Some t) (refused _ t c.in_err-check_node.ensures) in
    is ∙ ap (λ o. answered o (tt {0})) (sym next ∙ c.loop-number.invariant)

pub loop-number-preserved : goal.loop-number-preserved
loop-number-preserved c =
    sym (fault_next c.args.self.now.nodes.now c.loop-number.number _ c.loop-number-test.true c.args.leaves c.loop-number.number None (passed _ c.in_ok-check_node.ensures))
    ∙ c.loop-number.invariant

pub returns : goal.returns
returns c =
    ap (λ o. answered o (tt {0}))
    (sym (at_drop_all (node_faults c.args.leaves c.loop-number.number) c.args.self.now.nodes.now c.loop-number.number c.loop-number-test.false)
    ∙ c.loop-number.invariant)
