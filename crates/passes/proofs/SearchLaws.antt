-- What the first passes of a list say of a cell, with one more pass. Assumes nothing.
use Rattle.std.proofs.Common.{◌≡◌, ℕ, ◌+◌, ◌<◌, Bool, true, false, ◌||◌, List, Option, length, get_or, take, refl, ap, sym, ◌∙◌}
use Rattle.std.proofs.lemmas.List.Folds.{list_any_more}
use Rattle.grid.specs.declared.cell.Cell.{Cell}
use Rattle.pattern.specs.declared.relation.Relation.{Relation}
use Rattle.pattern.specs.declared.relation.Relation.TheVariants.{Outside, Mixed}
use Rattle.pattern.specs.Relations.{box_holds, box_meets, boxed, box_relation}
use Rattle.passes.specs.declared.pass.Pass.{Pass}
use Rattle.passes.specs.Passes.{some, pass_box, passes_relation}

-- none of the first i passes holds the cell, and this is how they lie to it
pub record SoFar (c : Cell) (xs : List Pass) (i : ℕ) (seen : Relation) : Type 0 where
  pub unsettled : some (λ s. box_holds (pass_box s) c) (take i xs) ≡ false
  pub seen_is : seen ≡ passes_relation (take i xs) c

-- a pass beside others of which none holds the cell, by whether they meet it (M), and whether it holds (h) and meets it (m)

mixed_next : (M h m : Bool) → boxed h m ≡ Mixed → (h ≡ false) × (Mixed ≡ boxed false (M || m))
mixed_next M true m e = absurd (cc)
mixed_next M false false e = absurd (cc)
mixed_next true false true e = (refl, refl)
mixed_next false false true e = (refl, refl)

outside_next : (M h m : Bool) → boxed h m ≡ Outside → (h ≡ false) × (boxed false M ≡ boxed false (M || m))
outside_next M true m e = absurd (cc)
outside_next M false true e = absurd (cc)
outside_next true false false e = (refl, refl)
outside_next false false false e = (refl, refl)

-- one more pass
module _ (c : Cell) (xs : List Pass) (i : ℕ) (d : Pass) (seen next r : Relation) (box : Option Cell) where
  Met : List Pass → Bool
  Met = some (λ s. box_meets (pass_box s) c)

  more : i < length xs → SoFar c xs i seen → box_holds (pass_box (get_or xs i d)) c ≡ false → next ≡ boxed false (Met (take i xs) || box_meets (pass_box (get_or xs i d)) c) → SoFar c xs (i + 1) next
  unfolding Met
  more within so free is =
      let held = list_any_more (λ s. box_holds (pass_box s) c) xs i d within in
      let met = list_any_more (λ s. box_meets (pass_box s) c) xs i d within in
      let none = held ∙ ap (λ b. b || box_holds (pass_box (get_or xs i d)) c) so.unsettled ∙ free in
      record { unsettled = none; seen_is = rw (none, met) is }

  pub more_mixed : i < length xs → box ≡ pass_box (get_or xs i d) → r ≡ box_relation box c → r ≡ Mixed → next ≡ Mixed → SoFar c xs i seen → SoFar c xs (i + 1) next
  unfolding Met
  more_mixed within box-is told is next-is so =
      let at = mixed_next (Met (take i xs)) (box_holds (pass_box (get_or xs i d)) c) (box_meets (pass_box (get_or xs i d)) c) (ap (λ b. box_relation b c) (sym box-is) ∙ sym told ∙ is) in
      more within so at.0 (next-is ∙ at.1)

  pub more_outside : i < length xs → box ≡ pass_box (get_or xs i d) → r ≡ box_relation box c → r ≡ Outside → next ≡ seen → SoFar c xs i seen → SoFar c xs (i + 1) next
  unfolding Met
  more_outside within box-is told is next-is so =
      let at = outside_next (Met (take i xs)) (box_holds (pass_box (get_or xs i d)) c) (box_meets (pass_box (get_or xs i d)) c) (ap (λ b. box_relation b c) (sym box-is) ∙ sym told ∙ is) in
      more within so at.0 (next-is ∙ so.seen_is ∙ ap (λ b. boxed b (Met (take i xs))) so.unsettled ∙ at.1)
