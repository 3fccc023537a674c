-- The bound of a chart is the box that its frame makes, and it holds every stitch. Assumes nothing.
use Rattle.std.proofs.Common.{◌≡◌, ℕ, ◌+◌, ◌-◌, ◌*◌, ◌/◌, ◌%◌, ◌<◌, ◌≤◌, min, true, ◌&&◌, ◌||◌, eqb, ltb, leb, List, length, get_or, Some, None, Option, sym, refl, ap, ◌∙◌, subst, ⊎_elim, arith}
use Rattle.std.proofs.lemmas.Nat.{div-add-mod', le-div}
use Rattle.std.proofs.lemmas.Bool.{and_parts, cases_eq, cond_both, cond-false, false≢true, leb-true, ltb-true, ne_eqb, or_from}
use Rattle.grid.specs.declared.axis.Axis.{Axis}
use Rattle.grid.specs.declared.axis.Axis.TheVariants.{Needle, Course, Track}
use Rattle.grid.specs.declared.cell.Cell.{Cell}
use Rattle.grid.specs.declared.place.Place.{Place}
use Rattle.grid.specs.Axes.{top, along}
use Rattle.grid.specs.Places.{at}
use Rattle.grid.specs.Cells.{cell_from, box_of}
use Rattle.grid.specs.Laws.{Holds}
use Rattle.grid.proofs.Meanings.{box_law}
use Rattle.charts.specs.declared.frame.Frame.{Frame}
use Rattle.charts.specs.Charts.{framed, index_in, names, stitch_set}
use Rattle.charts.specs.Relations.{rows_of, chart_bound}

-- a box does not depend on how far its high ends are past the grid
box_clipped : (low high other : Axis → ℕ) → ((x : Axis) → min (other x) (top x) ≡ min (high x) (top x)) → box_of low other ≡ box_of low high
box_clipped low high other same = ap (cell_from low) (λ i x. same x i)

-- the frame of the rows
frame_box : Frame → ℕ → Option Cell
frame_box f count = box_of (along f.left f.first 0) (along (f.left + f.width - 1) (f.first + rows_of f count - 1) 7)

bound_is : (f : Frame) (count : ℕ) → 0 < f.width → 0 < count → chart_bound f count ≡ frame_box f count
unfolding frame_box
bound_is f count wide some =
    cond-false (eqb f.width 0 || eqb count 0) None (frame_box f count) (or_from _ _ (ne_eqb f.width 0 (λ e. omega arith)) (ne_eqb count 0 (λ e. omega arith)))

-- the bound from ends that are brought back to the greatest number of 16 bits
pub bound_from : (f : Frame) (count needle course : ℕ) → 0 < f.width → 0 < count → needle ≡ min (f.left + f.width - 1) 65535 → course ≡ min (f.first + rows_of f count - 1) 65535 → box_of (along f.left f.first 0) (along needle course 7) ≡ chart_bound f count
unfolding frame_box
bound_from f count needle course wide some needle-is course-is =
    box_clipped (along f.left f.first 0) (along (f.left + f.width - 1) (f.first + rows_of f count - 1) 7) (along needle course 7)
    elim [ Needle ↦ omega arith | Course ↦ omega arith | Track ↦ refl ]
    ∙ sym (bound_is f count wide some)

-- the row of a byte is one of the rows
row_below : (f : Frame) (count row column : ℕ) → 0 < f.width → row * f.width + column < count → row < rows_of f count
row_below f count row column wide index =
    let whole : row ≤ count / f.width = le-div row count f.width wide (omega arith) in
    ⊎_elim (λ (e : row ≡ count / f.width). let parts : row * f.width + count % f.width ≡ count = ap (λ n. n * f.width + count % f.width) e ∙ div-add-mod' count f.width in omega arith) (λ less. omega arith) (cases_eq row (count / f.width))

framed_bound : (f : Frame) (count : ℕ) (p : Place) → f.left ≤ at p Needle → f.first ≤ at p Course → at p Needle - f.left < f.width → index_in f (at p Needle) (at p Course) < count → Holds (chart_bound f count) p
unfolding frame_box
framed_bound f count p left first column index =
    let row : at p Course - f.first < rows_of f count = row_below f count (at p Course - f.first) (at p Needle - f.left) (omega arith) index in
    subst (λ b. Holds b p) (sym (bound_is f count (omega arith) (omega arith)))
    ((box_law (along f.left f.first 0) (along (f.left + f.width - 1) (f.first + rows_of f count - 1) 7) p).1 (
      elim [ Needle ↦ left | Course ↦ first | Track ↦ omega arith ],
      elim [ Needle ↦ omega arith | Course ↦ omega arith | Track ↦ p.on_grid Track ],
    ))

-- every stitch lies in the bound
pub stitch_bound : (f : Frame) (bytes : List ℕ) (p : Place) → stitch_set f bytes p ≡ true → Holds (chart_bound f (length bytes)) p
stitch_bound f bytes p =
    let n = at p Needle in
    let k = at p Course in
    cond_both (framed f n k && ltb (index_in f n k) (length bytes)) (Some (get_or bytes (index_in f n k) 0)) None
    (λ byte. names byte (at p Track) ≡ true → Holds (chart_bound f (length bytes)) p)
    (λ there _.
    let a = and_parts (framed f n k) (ltb (index_in f n k) (length bytes)) there in
    let l = and_parts (leb f.left n) (leb f.first k && ltb (n - f.left) f.width) a.0 in
    let r = and_parts (leb f.first k) (ltb (n - f.left) f.width) l.1 in
    framed_bound f (length bytes) p (leb-true f.left n l.0) (leb-true f.first k r.0) (ltb-true (n - f.left) f.width r.1) (ltb-true (index_in f n k) (length bytes) a.1))
    (λ _ t. absurd (false≢true t))
