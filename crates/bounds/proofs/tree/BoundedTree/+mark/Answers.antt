use Rattle.std.proofs.Common.{arith}
use Rattle.bounds.specs.Tables.{nodes_in}
use Rattle.bounds.specs.Trees.{nodes_of}
use Rattle.bounds.proofs.TableLaws.{tree_of, seen_here, seen_node}
use Rattle.bounds.proofs.MarkLaws.{marked_leaf, marked_union, marked_less, marked_both}
use Rattle.bounds.proofs.tree.BoundedTree.+mark.Goals as goal

pub returns-in-Leaf : goal.returns-in-Leaf
returns-in-Leaf t c =
    let tree = c.args.self.now in
    let table = nodes_of tree in
    marked_leaf (nodes_in table) c.args.number (seen_here table _ c.requires) _ (seen_node table _ c.requires _ _ c.entry.ensures.is c.in-Leaf.is) c.args.marks.now (omega (arith, tree.few, tree.whole, c.requires))

pub returns-in-Union : goal.returns-in-Union
returns-in-Union t c =
    let table = nodes_of c.args.self.now in
    marked_union (nodes_in table) c.args.number (seen_here table _ c.requires) (tree_of c.args.self.now) _ _ _ (seen_node table _ c.requires _ _ c.entry.ensures.is c.in-Inner.is) _ _ c.in-Union.is _ c.mark.ensures c.mark-in-Union.ensures

pub returns-in-Both : goal.returns-in-Both
returns-in-Both t c =
    let table = nodes_of c.args.self.now in
    marked_both (nodes_in table) c.args.number (seen_here table _ c.requires) (tree_of c.args.self.now) _ _ _ (seen_node table _ c.requires _ _ c.entry.ensures.is c.in-Inner.is) _ _ c.in-Both.is _ c.fewer.ensures c.mark-in-Both.ensures

pub returns-in-Less : goal.returns-in-Less
returns-in-Less t c =
    let table = nodes_of c.args.self.now in
    marked_less (nodes_in table) c.args.number (seen_here table _ c.requires) (tree_of c.args.self.now) _ _ _ (seen_node table _ c.requires _ _ c.entry.ensures.is c.in-Inner.is) _ _ c.in-Less.is c.mark-in-Less.ensures
