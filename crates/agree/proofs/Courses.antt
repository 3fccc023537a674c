-- The cell of a whole course. Assumes nothing.
use Rattle.std.proofs.Common.{◌≡◌, ℕ, ◌≤◌, ◌↔◌, Some, Ok, Result, sym, subst, arith}
use Rattle.std.specs.Result.{result_ok}
use Rattle.grid.specs.declared.bare.BarePlace.{BarePlace}
use Rattle.grid.specs.declared.refusal.Refusal.{Refusal}
use Rattle.grid.specs.Refusals.{numbered, numbers, workspace_of}
use Rattle.grid.proofs.RefusalLaws.{Ended, ok_taken, workspace_ended}
use Rattle.grid.specs.declared.axis.Axis.{Axis}
use Rattle.grid.specs.declared.axis.Axis.TheVariants.{Needle, Course, Track}
use Rattle.grid.specs.declared.cell.Cell.{Cell}
use Rattle.grid.specs.declared.place.Place.{Place}
use Rattle.grid.specs.Axes.{along}
use Rattle.grid.specs.Places.{at}
use Rattle.grid.specs.Cells.{lo, hi, In}

least : (p : Place) (course : ℕ) → at p Course ≡ course → (x : Axis) → along 0 course 0 x ≤ at p x
least p course e Needle = omega arith
least p course e Course = omega arith
least p course e Track = omega arith

most : (p : Place) (course : ℕ) → at p Course ≡ course → (x : Axis) → at p x ≤ along 4095 course 7 x
most p course e Needle = p.on_grid Needle
most p course e Course = omega arith
most p course e Track = p.on_grid Track

pub whole_course : (c : Cell) (course : ℕ) → ((x : Axis) → lo c x ≡ along 0 course 0 x) → ((x : Axis) → hi c x ≡ along 4095 course 7 x) → (p : Place) → In p c ↔ (at p Course ≡ course)
whole_course c course lows highs p = (
  λ i. omega (arith, i.0 Course, i.1 Course, lows Course, highs Course),
  λ e. (λ x. omega (arith, lows x, least p course e x), λ x. omega (arith, highs x, most p course e x)),
)

-- a workspace that was not refused has the ends that were asked for
pub ends_of : (low high : BarePlace) (r : Result Cell Refusal) (c : Cell) → result_ok r ≡ Some c → numbered r ≡ workspace_of low high → Ended (numbers low) (numbers high) (Ok c)
ends_of low high r c is told = subst (Ended (numbers low) (numbers high)) (sym (ok_taken r c (workspace_of low high) is told)) (workspace_ended low high)
