use Rattle.std.proofs.Common.{get_or, ap, ◌∙◌}
use Rattle.std.proofs.lemmas.List.{get_or_default}
use Rattle.bounds.specs.Tables.{blank}
use Rattle.bounds.specs.Trees.{nodes_of}
use Rattle.bounds.proofs.TableLaws.{seen_below}
use Rattle.bounds.proofs.tree.BoundedTree.entry.Goals as goal

pub returns-clause-below : goal.returns-clause-below
returns-clause-below c =
    let e = c.index-nodes-number.result in
    seen_below c.args.self.now c.args.number c.requires e
    (c.index-nodes-number.is ∙ ap (λ xs. get_or xs c.args.number e) c.nodes.ensures ∙ get_or_default (nodes_of c.args.self.now) c.args.number e blank c.requires)
