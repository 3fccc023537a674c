-- The product of the sides is the number of places: halving down to single places counts each once. Assumes nothing.
use Rattle.std.proofs.Common.{◌≡◌, ℕ, zero, suc, ◌-◌, ◌≤◌, true, false, sym, refl, subst, ⊎_elim, arith}
use Rattle.std.proofs.lemmas.Bool.{cases_Bool}
use Rattle.grid.specs.declared.cell.Cell.{Cell}
use Rattle.grid.specs.Axes.{top, put}
use Rattle.grid.specs.Cells.{lo, hi, single, cell_at, longest_of, middle_of, places_of, halvings_of}
use Rattle.grid.specs.Counts.{everywhere, Counted}
use Rattle.grid.specs.Laws.{Halved}
use Rattle.grid.proofs.PlaceLaws.{along_is}
use Rattle.grid.proofs.HalfLaws.{put_both, two_places, halves_are, lone}
use Rattle.grid.proofs.CountLaws.{count_single, count_halves}

-- a cell of several places has halves
split : (c : Cell) → single c ≡ false → (l : Cell) × (u : Cell) × Halved c l u
split c many =
    let a = longest_of c in
    let two = two_places c many in
    let high = put a (middle_of c - 1) (hi c) in
    let low = put a (middle_of c) (lo c) in
    let lower = cell_at (lo c) high (put_both a (middle_of c - 1) (hi c) (λ x n. lo c x ≤ n) (omega (arith, two)) c.ordered) (put_both a (middle_of c - 1) (hi c) (λ x n. n ≤ top x) (omega (arith, two, c.high.on_grid a)) c.high.on_grid) in
    let upper = cell_at low (hi c) (put_both a (middle_of c) (lo c) (λ x n. n ≤ hi c x) (omega (arith, two)) c.ordered) c.high.on_grid in
    (lower, upper, (halves_are c lower upper many (along_is (lo c)) (along_is high) (along_is low) (along_is (hi c))).1)

single_counted : (c : Cell) → single c ≡ true → Counted everywhere c (places_of c)
single_counted c one = subst (Counted everywhere c) (sym (lone c one).places) (count_single everywhere c true (lone c one) refl)

count_within : (n : ℕ) (c : Cell) → halvings_of c ≤ n → Counted everywhere c (places_of c)
count_within zero c h =
    ⊎_elim (single_counted c) (λ many. absurd (omega (arith, (split c many).2.lower_fewer))) (cases_Bool (single c))
count_within (suc n) c h =
    ⊎_elim (single_counted c)
    (λ many.
    let s = split c many in
    let lower = count_within n s.0 (omega (arith, s.2.lower_fewer)) in
    let upper = count_within n s.1 (omega (arith, s.2.upper_fewer)) in
    subst (Counted everywhere c) s.2.places (count_halves everywhere c s.2 lower upper))
    (cases_Bool (single c))

pub places_counted : (c : Cell) → Counted everywhere c (places_of c)
places_counted c = count_within (halvings_of c) c (omega arith)

pub counted_told : (c : Cell) (n : ℕ) → n ≡ places_of c → Counted everywhere c n
counted_told c n e = subst (Counted everywhere c) (sym e) (places_counted c)
