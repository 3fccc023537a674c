-- A lifted pattern owes what every bank owes. Assumes nothing.
use Rattle.std.specs.Prelude.{◌≡◌, ℕ, ◌≤◌, true, cond, List, length, Some, None, ◌≢◌, nat_lt, refl}
use Rattle.std.proofs.Common.{sym, subst}
use Rattle.std.proofs.lemmas.List.{get_or_past}
use Rattle.std.proofs.lemmas.Bool.{cond_both, cond-false, ltb-false, le-ltb, false≢true}
use Rattle.grid.specs.declared.cell.Cell.{Cell}
use Rattle.grid.specs.declared.place.Place.{Place}
use Rattle.grid.specs.Cells.{single, grid_cell}
use Rattle.grid.specs.Laws.{Holds}
use Rattle.grid.proofs.Meanings.{in_grid}
use Rattle.pattern.specs.declared.relation.Relation.TheVariants.{Inside, Outside, Mixed}
use Rattle.pattern.specs.Sets.{PlaceSet, nowhere, leaf_set}
use Rattle.pattern.specs.Relations.{Says}
use Rattle.pattern.specs.Banks.{Facts}
use Rattle.pattern.proofs.ExactLaws.{exact_says, single_exact}
use Rattle.adapters.specs.Lifted.{lifted_relation, lifted_meaning}

lifted_says : (s : PlaceSet) (c : Cell) → Says (lifted_relation s c) s c
lifted_says s c =
    cond_both (single c) (cond (s c.low) Inside Outside) Mixed (λ r. Says r s c)
    (λ one. exact_says s c (cond (s c.low) Inside Outside) (single_exact s c one)) (λ many. many)

-- a leaf that is not there holds nothing
missing_set : (sets : List PlaceSet) (leaf : ℕ) → length sets ≤ leaf → (p : Place) → leaf_set sets leaf p ≢ true
missing_set sets leaf past p t = false≢true (subst (λ (s : PlaceSet). s p ≡ true) (get_or_past sets leaf nowhere past) t)

missing_says : (sets : List PlaceSet) (leaf : ℕ) (c : Cell) → length sets ≤ leaf → Says Outside (leaf_set sets leaf) c
missing_says sets leaf c past = subst (λ s. Says Outside s c) (sym (get_or_past sets leaf nowhere past)) (λ p i. refl)

pub lifted_facts : (sets : List PlaceSet) → Facts (lifted_meaning sets)
lifted_facts sets = record {
  bounds = λ leaf p t. cond_both (nat_lt leaf (length sets)) (Some grid_cell) None (λ o. Holds o p) (λ _. in_grid p) (λ past. missing_set sets leaf (ltb-false leaf (length sets) past) p t);
  relates = λ leaf c. cond_both (nat_lt leaf (length sets)) (lifted_relation (leaf_set sets leaf) c) Outside (λ r. Says r (leaf_set sets leaf) c) (λ _. lifted_says (leaf_set sets leaf) c) (λ past. missing_says sets leaf c (ltb-false leaf (length sets) past));
  missing_bound = λ leaf past. cond-false (nat_lt leaf (length sets)) (Some grid_cell) None (le-ltb leaf (length sets) past);
  missing_relation = λ leaf c past. cond-false (nat_lt leaf (length sets)) (lifted_relation (leaf_set sets leaf) c) Outside (le-ltb leaf (length sets) past);
}
