use Rattle.std.proofs.Common.{arith}
use Rattle.trees.proofs.TreeLaws.{bare_below, bare_leaf, bare_joined}
use Rattle.trees.proofs.test.+is_in.Goals as goal

pub is_in-requires : goal.is_in-requires
is_in-requires g t c κs inside =
    let test = c.args.self.now in
    let below = bare_below test.nodes.now test.tree c.args.number c.requires _ _ _ c.in-Inner.ensures in
    (omega (arith, c.decreases, below.0), (inside, omega (arith, below.0)))

pub joins-requires : goal.joins-requires
joins-requires g t c asked =
    let test = c.args.self.now in
    let below = bare_below test.nodes.now test.tree c.args.number c.requires _ _ _ c.in-Inner.ensures in
    (omega (arith, c.decreases, below.1), ((λ a m. m), omega (arith, below.1)))

pub returns-in-Leaf : goal.returns-in-Leaf
returns-in-Leaf g t c =
    let test = c.args.self.now in
    let sets = g.P.Pattern.sets test.pattern.now in
    let leaf = bare_leaf test.nodes.now test.tree c.args.number c.requires sets test.place _ c.in-Leaf.ensures in
    cc

pub returns-in-Inner : goal.returns-in-Inner
returns-in-Inner g t c =
    let test = c.args.self.now in
    let sets = g.P.Pattern.sets test.pattern.now in
    bare_joined test.nodes.now test.tree c.args.number c.requires sets test.place _ _ _ c.in-Inner.ensures _ c.is_in.ensures c.joins.result c.joins.ensures.unasked c.joins.ensures.asked
