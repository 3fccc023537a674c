-- Possible cells and the places that they hold. Assumes nothing.
use Rattle.std.proofs.Common.{◌≡◌, Bool, true, false, ◌&&◌, ◌↔◌, Some, None, Decides, Option, refl, ⊎_elim}
use Rattle.std.proofs.lemmas.Bool.{false≢true, or_cases, and_parts}
use Rattle.std.proofs.lemmas.Bool.Decides.{Decides-and, Decides-like, same_from_decides}
use Rattle.grid.specs.declared.cell.Cell.{Cell}
use Rattle.grid.specs.declared.place.Place.{Place}
use Rattle.grid.specs.Laws.{Holds, Part}
use Rattle.grid.proofs.Meanings.{decides_inside, cut_law, hull_law}
use Rattle.pattern.specs.Relations.{box_set}
use Rattle.trees.specs.declared.node.Operation.{Operation}
use Rattle.trees.specs.declared.node.Operation.TheVariants.{Union, Both, Less, Differ}
use Rattle.trees.specs.Sets.{joins}
use Rattle.bounds.specs.Tables.{cut_both}
use Rattle.bounds.specs.Tightening.{reach}

pub decides_box : (o : Option Cell) (p : Place) → Decides (box_set o p) (Holds o p)
decides_box (Some c) p = decides_inside p c
decides_box None p = (λ t. absurd (false≢true t), λ h. absurd h)

-- What two possible cells have in common lies in both.
pub cut_both_is : (a b : Option Cell) (p : Place) → Holds (cut_both a b) p ↔ (Holds a p × Holds b p)
cut_both_is (Some a) (Some b) p = (cut_law a b).shared p
cut_both_is (Some a) None p = (λ h. absurd h, λ h. absurd h.1)
cut_both_is None b p = (λ h. absurd h, λ h. absurd h.0)

pub cut_part : (a b : Option Cell) → Part (cut_both a b) a
cut_part a b p h = ((cut_both_is a b p).0 h).0

pub box_cut : (a b : Option Cell) (p : Place) → box_set (cut_both a b) p ≡ (box_set a p && box_set b p)
box_cut a b p =
    same_from_decides (box_set (cut_both a b) p) (box_set a p && box_set b p) (decides_box (cut_both a b) p)
    (Decides-like (box_set a p && box_set b p) (cut_both_is a b p).1 (cut_both_is a b p).0 (Decides-and (box_set a p) (box_set b p) (decides_box a p) (decides_box b p)))

-- A place of an inner node's set lies within reach, if those of its children lie in their bounds.
pub reach_holds : (o : Operation) (a b : Option Cell) (p : Place) (s t : Bool) → (s ≡ true → Holds a p) → (t ≡ true → Holds b p) → joins o s t ≡ true → Holds (reach o a b) p
reach_holds Union a b p s t in-a in_b j = ⊎_elim (λ h. (hull_law a b).first p (in-a h)) (λ h. (hull_law a b).second p (in_b h)) (or_cases s t j)
reach_holds Both a b p s t in-a in_b j = let h = and_parts s t j in (cut_both_is a b p).1 (in-a h.0, in_b h.1)
reach_holds Less a b p true t in-a in_b j = in-a refl
reach_holds Less a b p false t in-a in_b j = absurd (false≢true j)
reach_holds Differ a b p true t in-a in_b j = (hull_law a b).first p (in-a refl)
reach_holds Differ a b p false t in-a in_b j = (hull_law a b).second p (in_b j)
