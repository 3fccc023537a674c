-- Tightening leaves the nodes as they are, but for their bounds. Assumes nothing.
use Rattle.std.proofs.Common.{◌≡◌, ℕ, zero, suc, ◌+◌, List, get_or, Option, sym, refl, ap, ◌∙◌, add-one}
use lib.Seq.{map-set_same}
use Rattle.grid.specs.declared.cell.Cell.{Cell}
use Rattle.trees.specs.declared.node.Node.{Node}
use Rattle.trees.specs.declared.node.Node.TheVariants.{Leaf, Inner}
use Rattle.bounds.specs.declared.bounded_node.BoundedNode.{BoundedNode}
use Rattle.bounds.specs.Tables.{nodes_in, blank, bound_at, cut_node, narrowed}
use Rattle.bounds.specs.Tightening.{reach, cut_by_children, cut_children, upward, downward}

pub nodes_narrowed : (table : List BoundedNode) (i : ℕ) (b : Option Cell) → nodes_in (narrowed table i b) ≡ nodes_in table
nodes_narrowed table i b = map-set_same (λ e. e.node) table i (cut_node (get_or table i blank) b) blank refl

pub nodes_by_children : (n : Node) (i : ℕ) (table : List BoundedNode) → nodes_in (cut_by_children n i table) ≡ nodes_in table
nodes_by_children (Leaf k) i table = refl
nodes_by_children (Inner o l r) i table = nodes_narrowed table i (reach o (bound_at table l) (bound_at table r))

pub nodes_children : (n : Node) (i : ℕ) (table : List BoundedNode) → nodes_in (cut_children n i table) ≡ nodes_in table
nodes_children (Leaf k) i table = refl
nodes_children (Inner o l r) i table = nodes_narrowed (narrowed table l (bound_at table i)) r (bound_at table i) ∙ nodes_narrowed table l (bound_at table i)

pub nodes_upward : (n : ℕ) (table : List BoundedNode) → nodes_in (upward n table) ≡ nodes_in table
unfolding upward
nodes_upward zero table = refl
nodes_upward (suc n) table = nodes_by_children (get_or (upward n table) n blank).node n (upward n table) ∙ nodes_upward n table

pub nodes_downward : (n : ℕ) (table : List BoundedNode) → nodes_in (downward n table) ≡ nodes_in table
unfolding downward
nodes_downward zero table = refl
nodes_downward (suc n) table = nodes_downward n (cut_children (get_or table n blank).node n table) ∙ nodes_children (get_or table n blank).node n table

-- No node yet upward, and one more.
pub upward_none : (table : List BoundedNode) → table ≡ upward 0 table
unfolding upward
upward_none table = refl

pub upward_more : (n : ℕ) (start table next : List BoundedNode) → table ≡ upward n start → next ≡ cut_by_children (get_or table n blank).node n table → next ≡ upward (n + 1) start
unfolding upward
upward_more n start table next so_far is = is ∙ ap (λ t. cut_by_children (get_or t n blank).node n t) so_far ∙ ap (λ m. upward m start) (sym (add-one n))

-- No node left downward, and one more.
pub downward_none : (table : List BoundedNode) → downward 0 table ≡ table
unfolding downward
downward_none table = refl

pub downward_more : (m n : ℕ) (table next : List BoundedNode) → n ≡ suc m → next ≡ cut_children (get_or table m blank).node m table → downward m next ≡ downward n table
unfolding downward
downward_more m n table next one is = ap (downward m) is ∙ ap (λ k. downward k table) (sym one)
