-- A rib owes what every bank owes. Assumes nothing.
use Rattle.std.specs.Prelude.{◌≡◌, ◌%◌, false, cond, Some, ◌==◌, nat_eq, nat_lt}
use Rattle.std.proofs.Common.{ap, ◌∙◌, arith}
use Rattle.std.proofs.lemmas.Bool.{cond_both, ltb-true, ltb-false}
use Rattle.grid.specs.declared.axis.Axis.TheVariants.{Needle}
use Rattle.grid.specs.declared.cell.Cell.{Cell}
use Rattle.grid.specs.declared.place.Place.{Place}
use Rattle.grid.specs.Places.{at}
use Rattle.grid.specs.Cells.{lo, hi, In, grid_cell}
use Rattle.grid.proofs.PlaceLaws.{below_fails}
use Rattle.grid.proofs.Meanings.{in_grid}
use Rattle.pattern.specs.declared.relation.Relation.TheVariants.{Inside, Outside, Mixed}
use Rattle.pattern.specs.Relations.{Says}
use Rattle.pattern.specs.Banks.{Facts}
use Rattle.pattern.proofs.BankLaws.{one_leaf_facts}
use Rattle.rib.specs.declared.Rib.{Rib}
use Rattle.rib.specs.Rib.{rib_set, rib_relation, meaning_of}

-- of a cell with one needle every place is on it
on_needle : (c : Cell) → nat_lt (lo c Needle) (hi c Needle) ≡ false → (p : Place) → In p c → rib_set p ≡ (lo c Needle % 2 == 0)
on_needle c one p i =
    let same : at p Needle ≡ lo c Needle = omega (arith, ltb-false (lo c Needle) (hi c Needle) one, i.0 Needle, i.1 Needle) in
    ap (λ n. nat_eq (n % 2) 0) same

rib_says : (c : Cell) → Says (rib_relation c) rib_set c
rib_says c =
    cond_both (nat_lt (lo c Needle) (hi c Needle)) Mixed (cond (lo c Needle % 2 == 0) Inside Outside) (λ r. Says r rib_set c)
    (λ several. below_fails (hi c) (lo c) Needle (ltb-true (lo c Needle) (hi c Needle) several))
    (λ one. cond_both (lo c Needle % 2 == 0) Inside Outside (λ r. Says r rib_set c) (λ even p i. on_needle c one p i ∙ even) (λ odd p i. on_needle c one p i ∙ odd))

pub rib_facts : (r : Rib) → Facts (meaning_of r)
rib_facts r = one_leaf_facts rib_set (Some grid_cell) rib_relation (λ p _. in_grid p) rib_says
