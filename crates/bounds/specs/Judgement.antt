-- The judgement of a cell by a tree, from the relations of its leaves.
use Rattle.std.specs.Prelude.{ℕ, Bool, true, false, List}
use Rattle.grid.specs.declared.cell.Cell.{Cell}
use Rattle.pattern.specs.declared.relation.Relation.{Relation}
use Rattle.pattern.specs.declared.relation.Relation.TheVariants.{Inside, Outside, Mixed}
use Rattle.pattern.specs.Relations.{box_relation}
use Rattle.pattern.specs.Banks.{Meaning}
use Rattle.trees.specs.declared.node.Operation.{Operation}
use Rattle.trees.specs.declared.node.Operation.TheVariants.{Union, Both, Less, Differ}
use Rattle.trees.specs.Sets.{root_of}
use Rattle.trees.specs.Values.{Rule, value_at}
use Rattle.bounds.specs.declared.bounded_node.BoundedNode.{BoundedNode}

-- Inside and Outside swapped.
abbrev pub opposite : Relation → Relation
opposite Inside = Outside
opposite Outside = Inside
opposite Mixed = Mixed

-- Of a union: Inside as soon as one of the two is, Outside only where neither has a place, and Mixed in between.
abbrev pub union_of : Relation → Relation → Relation
union_of Inside r = Inside
union_of Outside r = r
union_of Mixed Inside = Inside
union_of Mixed Outside = Mixed
union_of Mixed Mixed = Mixed

-- Of a both: what it leaves out is the union of what the two leave out.
abbrev pub both_of : Relation → Relation → Relation
both_of q r = opposite (union_of (opposite q) (opposite r))

-- Of a less: both the first and what the second leaves out.
abbrev pub less_of : Relation → Relation → Relation
less_of q r = both_of q (opposite r)

-- Of a differ: once both are settled, Inside where they are unlike and Outside where they are alike; Mixed before that.
abbrev pub differ_of : Relation → Relation → Relation
differ_of Inside r = opposite r
differ_of Outside r = r
differ_of Mixed r = Mixed

-- The relation that an operation makes of two.
abbrev pub join_relations : Operation → Relation → Relation → Relation
join_relations Union q r = union_of q r
join_relations Both q r = both_of q r
join_relations Less q r = less_of q r
join_relations Differ q r = differ_of q r

-- The bound of a node is one more set that its places lie in, so the relation of the bound and that of the node's set are
-- joined as those of a both. A bound that misses the cell makes Outside of anything, and one that holds a part of it makes
-- Mixed of Inside.
abbrev pub judge_rule : Meaning → Cell → Rule BoundedNode Relation
judge_rule m c = record {
  node = λ e. e.node;
  leaf = λ i e k. both_of (box_relation e.bound c) (m.relation k c);
  inner = λ e o q r. both_of (box_relation e.bound c) (join_relations o q r);
  none = Outside;
}

-- The judgement of a cell by the node at a number.
abbrev pub judged_at : Meaning → List BoundedNode → Cell → ℕ → Relation
judged_at m table c i = value_at (judge_rule m c) table i

-- The judgement of a cell by the root.
abbrev pub judged : Meaning → List BoundedNode → Cell → Relation
judged m table c = judged_at m table c (root_of table)

-- Whether the relation of the second child can still change that of the node, once the relation of the bound and that of
-- the first child are known.
abbrev pub asks_right : Operation → Relation → Relation → Bool
asks_right Union b Inside = false
asks_right Union Inside Mixed = true
asks_right Union Outside Mixed = false
asks_right Union Mixed Mixed = false
asks_right Union b Outside = true
asks_right Both b Inside = true
asks_right Both b Outside = false
asks_right Both b Mixed = true
asks_right Less b Inside = true
asks_right Less b Outside = false
asks_right Less b Mixed = true
asks_right Differ b Inside = true
asks_right Differ b Outside = true
asks_right Differ b Mixed = false
