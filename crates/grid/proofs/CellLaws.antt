-- Cells are known by their ends. Assumes nothing.
use Rattle.std.proofs.Common.{◌≡◌, ℕ, ◌<◌, Bool, true, false, ◌⊎◌, Some, None, Option, sym, refl, ap, ap₂, ◌∙◌, inl, inr, ⊎_elim, arith}
use mathlib.Core.Path.{fun_ext}
use mathlib.Core.HLevel.{is_prop→PathP, Π_prop}
use native.Mathlib.Bridge.{le_prop}
use Rattle.std.proofs.lemmas.Bool.{and_from, and_cases, and_left, true≢false}
use Rattle.grid.specs.declared.axis.Axis.{Axis}
use Rattle.grid.specs.declared.cell.Cell.{Cell}
use Rattle.grid.specs.Axes.{top, Below, below}
use Rattle.grid.specs.Places.{at}
use Rattle.grid.specs.Cells.{lo, hi, ends_fit, cell_if, cell_from}
use Rattle.grid.proofs.PlaceLaws.{below_from, below_false, along_is, place_ext}

-- Two cells with the same ends are one.
pub cell_ext : (c d : Cell) → ((x : Axis) → lo c x ≡ lo d x) → ((x : Axis) → hi c x ≡ hi d x) → c ≡ d
cell_ext c d lows highs =
    let low : c.low ≡ d.low = place_ext c.low d.low lows in
    let high : c.high ≡ d.high = place_ext c.high d.high highs in
    λ i. record {
      low = low i;
      high = high i;
      ordered = is_prop→PathP (λ i. Below (at (low i)) (at (high i))) (λ i. Π_prop (λ x. le_prop)) c.ordered d.ordered i;
    }

cell_if_is : (low high : Axis → ℕ) (c : Cell) → ((x : Axis) → lo c x ≡ low x) → ((x : Axis) → hi c x ≡ high x) → (b : Bool) (e : ends_fit low high ≡ b) → b ≡ true → Some c ≡ cell_if low high b e
cell_if_is low high c lows highs true e t = ap Some (cell_ext c _ (λ x. lows x ∙ sym (along_is low x)) (λ x. highs x ∙ sym (along_is high x)))
cell_if_is low high c lows highs false e t = absurd (true≢false (sym t))

-- the cell with these ends is the one that `cell_from` finds
pub cell_from_is : (low high : Axis → ℕ) (c : Cell) → ((x : Axis) → lo c x ≡ low x) → ((x : Axis) → hi c x ≡ high x) → Some c ≡ cell_from low high
cell_from_is low high c lows highs =
    cell_if_is low high c lows highs (ends_fit low high) refl
    (and_from (below low high) (below high top) (below_from low high (λ x. omega (arith, lows x, highs x, c.ordered x))) (below_from high top (λ x. omega (arith, highs x, c.high.on_grid x))))

cell_if_none : (low high : Axis → ℕ) (b : Bool) (e : ends_fit low high ≡ b) → b ≡ false → None ≡ cell_if low high b e
cell_if_none low high true e t = absurd (true≢false t)
cell_if_none low high false e t = refl

-- a low above its high end makes no cell
pub cell_from_none : (low high : Axis → ℕ) → below low high ≡ false → None ≡ cell_from low high
cell_from_none low high above = cell_if_none low high (ends_fit low high) refl (and_left (below low high) (below high top) above)

-- What `cell_from` finds: a cell with the ends asked for, or none and an axis that shows why.
abbrev pub Found : (Axis → ℕ) → (Axis → ℕ) → Option Cell → Type 0
Found low high (Some c) = ((x : Axis) → lo c x ≡ low x) × ((x : Axis) → hi c x ≡ high x)
Found low high None = (x : Axis) × ((high x < low x) ⊎ (top x < high x))

cell_if_found : (low high : Axis → ℕ) (b : Bool) (e : ends_fit low high ≡ b) → Found low high (cell_if low high b e)
cell_if_found low high true e = (along_is low, along_is high)
cell_if_found low high false e =
    ⊎_elim (λ h. let g = below_false low high h in (g.0, inl g.1)) (λ h. let g = below_false high top h in (g.0, inr g.1))
    (and_cases (below low high) (below high top) e)

pub cell_from_found : (low high : Axis → ℕ) → Found low high (cell_from low high)
cell_from_found low high = cell_if_found low high (ends_fit low high) refl

-- what is found goes by the ends alone
pub cell_from_as : (f g h k : Axis → ℕ) → ((x : Axis) → f x ≡ h x) → ((x : Axis) → g x ≡ k x) → cell_from f g ≡ cell_from h k
cell_from_as f g h k lows highs = ap₂ cell_from (fun_ext lows) (fun_ext highs)
