-- What is known of bare numbers once they were taken or refused. Assumes nothing.
use Rattle.std.proofs.Common.{◌≡◌, ℕ, min, Bool, true, false, cond, ◌&&◌, Some, None, Ok, Err, Option, Result, sym, refl, ap, ◌∙◌, subst, ap₂, arith}
use mathlib.Core.Path.{fun_ext}
use Rattle.std.proofs.lemmas.Bool.{and_from, cond-true}
use Rattle.grid.specs.declared.axis.Axis.{Axis}
use Rattle.grid.specs.declared.bare.BarePlace.{BarePlace}
use Rattle.grid.specs.declared.place.Place.{Place}
use Rattle.grid.specs.declared.cell.Cell.{Cell}
use Rattle.grid.specs.declared.refusal.Refusal.{Refusal}
use Rattle.grid.specs.declared.refusal.Refusal.TheVariants.{UpsideDown}
use Rattle.grid.specs.Axes.{top, below}
use Rattle.grid.specs.Places.{at, place_if}
use Rattle.grid.specs.Cells.{lo, hi, cell_from, box_of}
use Rattle.grid.specs.Refusals.{numbered, or_refuse, numbers, place_of, workspace_of}
use Rattle.std.specs.Option.{ok_or}
use Rattle.std.specs.Result.{result_ok}
use Rattle.grid.proofs.PlaceLaws.{below_false, below_fails, along_is}
use Rattle.grid.proofs.CellLaws.{Found, cell_from_none, cell_from_found}

-- The numbers as they were taken for a place, or refused.
abbrev pub Taken : (Axis → ℕ) → Result Place ℕ → Type 0
Taken f (Ok p) = (below f top ≡ true) × ((x : Axis) → at p x ≡ f x)
Taken f (Err n) = (below f top ≡ false) × (n ≡ 3)

place_if_taken : (f : Axis → ℕ) (b : Bool) (e : below f top ≡ b) → Taken f (or_refuse (place_if f b e) 3)
place_if_taken f true e = (e, along_is f)
place_if_taken f false e = (e, refl)

pub place_of_taken : (b : BarePlace) → Taken (numbers b) (place_of b)
place_of_taken b = place_if_taken (numbers b) (below (numbers b) top) refl

-- the low end was taken, the high one brought back to the grid: what is between them is the box
pub box_between : (low high : BarePlace) (p q : Place) → Ok p ≡ place_of low → ((x : Axis) → at q x ≡ min (numbers high x) (top x)) → cell_from (at p) (at q) ≡ box_of (numbers low) (numbers high)
box_between low high p q e clipped =
    let l : Taken (numbers low) (Ok p) = subst (Taken (numbers low)) (sym e) (place_of_taken low) in
    ap₂ cell_from (fun_ext l.1) (fun_ext clipped)

-- the low end was refused: the box is empty
pub box_none : (low high : BarePlace) (n : ℕ) → Err n ≡ place_of low → None ≡ box_of (numbers low) (numbers high)
box_none low high n e =
    let l : Taken (numbers low) (Err n) = subst (Taken (numbers low)) (sym e) (place_of_taken low) in
    let x = below_false (numbers low) top l.0 in
    cell_from_none (numbers low) (λ x. min (numbers high x) (top x)) (below_fails (numbers low) (λ x. min (numbers high x) (top x)) x.0 (omega (arith, x.1)))

-- both ends were taken: what is between them is the workspace, or 4
pub workspace_between : (low high : BarePlace) (p q : Place) → Ok p ≡ place_of low → Ok q ≡ place_of high → or_refuse (cell_from (at p) (at q)) 4 ≡ workspace_of low high
workspace_between low high p q e f =
    let l : Taken (numbers low) (Ok p) = subst (Taken (numbers low)) (sym e) (place_of_taken low) in
    let h : Taken (numbers high) (Ok q) = subst (Taken (numbers high)) (sym f) (place_of_taken high) in
    ap (λ o. or_refuse o 4) (ap₂ cell_from (fun_ext l.1) (fun_ext h.1))
    ∙ sym (cond-true (below (numbers low) top && below (numbers high) top) (or_refuse (cell_from (numbers low) (numbers high)) 4) (Err 3) (and_from (below (numbers low) top) (below (numbers high) top) l.0 h.0))

-- A workspace has the ends that were asked for.
abbrev pub Ended : (Axis → ℕ) → (Axis → ℕ) → Result Cell ℕ → Type 0
Ended low high (Ok c) = ((x : Axis) → lo c x ≡ low x) × ((x : Axis) → hi c x ≡ high x)
Ended low high (Err n) = Unit {0}

found_ended : (low high : Axis → ℕ) (o : Option Cell) → Found low high o → Ended low high (or_refuse o 4)
found_ended low high (Some c) f = f
found_ended low high None f = tt

checked_ended : (low high : Axis → ℕ) (b : Bool) (r : Result Cell ℕ) → Ended low high r → Ended low high (cond b r (Err 3))
checked_ended low high true r e = e
checked_ended low high false r e = tt

pub workspace_ended : (low high : BarePlace) → Ended (numbers low) (numbers high) (workspace_of low high)
workspace_ended low high =
    checked_ended (numbers low) (numbers high) (below (numbers low) top && below (numbers high) top) (or_refuse (cell_from (numbers low) (numbers high)) 4)
    (found_ended (numbers low) (numbers high) (cell_from (numbers low) (numbers high)) (cell_from_found (numbers low) (numbers high)))

-- what was not refused is what the numbers are taken for
pub ok_taken : {A : Type 0} (r : Result A Refusal) (a : A) (known : Result A ℕ) → result_ok r ≡ Some a → numbered r ≡ known → Ok a ≡ known
ok_taken {A} (Ok b) a known is told =
    let same : ◌≡◌ {A = Option A} (Some b) (Some a) = is in
    let told : Ok b ≡ known = told in
    cc
ok_taken {A} (Err e) a known is told =
    let none : ◌≡◌ {A = Option A} None (Some a) = is in
    cc

-- what is missing is refused with 4
pub upside_down : (o : Option Cell) → numbered (ok_or o UpsideDown) ≡ or_refuse o 4
upside_down (Some c) = refl
upside_down None = refl
