-- The relation of a box is exact. Assumes nothing.
use Rattle.std.proofs.Common.{◌≡◌, Bool, true, false, cond, Some, None, Decides, Option, sym, refl, subst}
use Rattle.std.proofs.lemmas.Bool.{both_ways, false_from_ne_true}
use Rattle.std.proofs.lemmas.Bool.Decides.{not_from_Decides}
use Rattle.grid.specs.declared.cell.Cell.{Cell}
use Rattle.grid.specs.declared.place.Place.{Place}
use Rattle.grid.specs.Cells.{In, within, meet}
use Rattle.grid.specs.Laws.{Holds}
use Rattle.grid.proofs.Meanings.{decides_within, decides_meet, decides_inside}
use Rattle.pattern.specs.declared.relation.Relation.{Relation}
use Rattle.pattern.specs.declared.relation.Relation.TheVariants.{Inside, Outside, Mixed}
use Rattle.pattern.specs.Sets.{PlaceSet}
use Rattle.pattern.specs.Relations.{Exact, box_set, box_relation}
use Rattle.pattern.proofs.ExactLaws.{inside_exact, outside_exact, mixed_exact}

-- s is a set that has, of the cell, just the places of the box
module _ (s : PlaceSet) (c : Cell) where
  some_exact : (b : Cell) → ((p : Place) → Decides (s p) (In p b)) → (w m : Bool) → Decides w ((p : Place) → In p c → In p b) → Decides m ((p : Place) × (In p c × In p b)) → Exact (cond w Inside (cond m Mixed Outside)) s c
  some_exact b is true m dw dm = inside_exact s c (λ p i. (is p).1 (dw.0 refl p i))
  some_exact b is false true dw dm =
      mixed_exact s c (λ all. not_from_Decides false dw refl (λ p i. (is p).0 (all p i)))
      (λ none. let h = dm.0 refl in both_ways (s h.0) (none h.0 h.1.0) ((is h.0).1 h.1.1))
  some_exact b is false false dw dm =
      outside_exact s c (λ p i. false_from_ne_true (s p) (λ t. not_from_Decides false dm refl (p, (i, (is p).0 t))))

  pub box_exact : (o : Option Cell) → ((p : Place) → Decides (s p) (Holds o p)) → Exact (box_relation o c) s c
  box_exact (Some b) is = some_exact b is (within c b) (meet c b) (decides_within c b) (decides_meet c b)
  box_exact None is = outside_exact s c (λ p i. false_from_ne_true (s p) (is p).0)

pub box_set_exact : (o : Option Cell) (c : Cell) → Exact (box_relation o c) (box_set o) c
box_set_exact (Some b) c = box_exact (box_set (Some b)) c (Some b) (λ p. decides_inside p b)
box_set_exact None c = outside_exact (box_set None) c (λ p i. refl)

-- the same of a relation that was worked out
pub box_told : (o : Option Cell) (c : Cell) (r : Relation) → r ≡ box_relation o c → Exact r (box_set o) c
box_told o c r is = subst (λ q. Exact q (box_set o) c) (sym is) (box_set_exact o c)
