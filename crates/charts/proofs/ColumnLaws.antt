-- What the byte of a column shows of the column's places. Assumes nothing.
use Rattle.std.proofs.Common.{◌≡◌, ℕ, ◌≤◌, Bool, true, false, not, eqb, ltb, leb, Some, None, Decides, Option, sym, refl, ◌∙◌, subst, ⊎_elim, arith}
use Rattle.std.proofs.lemmas.Bool.{and_from, and_parts, and_right, cases_eq, eq-eqb, eqb-false, eqb-true, false≢true, le-leb, leb-true, lt-ltb, ltb-true, ne_eqb, not-true, or_cases}
use Rattle.std.proofs.lemmas.Bool.Decides.{Decides-like, nat_tests}
use Rattle.grid.specs.declared.axis.Axis.TheVariants.{Needle, Course, Track}
use Rattle.grid.specs.declared.cell.Cell.{Cell}
use Rattle.grid.specs.declared.place.Place.{Place}
use Rattle.grid.specs.Axes.{along}
use Rattle.grid.specs.Places.{at, place_at}
use Rattle.grid.specs.Cells.{lo, hi}
use Rattle.pattern.specs.declared.relation.Relation.{Relation}
use Rattle.pattern.specs.Sets.{PlaceSet}
use Rattle.charts.specs.Charts.{names}
use Rattle.charts.specs.Judging.{Somewhere, Shows, HasColumn, OnColumn, held_by, free_by, seen_relation, Tells}

-- some track from low to high is named by the byte, or, if the answer is false, is not
SomeTrack : Option ℕ → ℕ → ℕ → Bool → Type 0
SomeTrack byte low high answer = (track : ℕ) × ((low ≤ track) × (track ≤ high) × (names byte track ≡ answer))

named : (byte : ℕ) → byte ≤ 7 → names (Some byte) byte ≡ true
named byte small = and_from (ltb byte 8) (eqb byte byte) (lt-ltb byte 8 (omega arith)) (eq-eqb byte byte refl)

other : (byte track : ℕ) → (byte ≡ track → ⊥) → names (Some byte) track ≡ false
other byte track differ = and_right (ltb byte 8) (eqb byte track) (ne_eqb byte track differ)

tracks_held : (byte : Option ℕ) (low high : ℕ) → high ≤ 7 → Decides (held_by byte low high) (SomeTrack byte low high true)
unfolding SomeTrack
tracks_held (Some byte) low high top = (
  λ t.
      let parts = and_parts (leb low byte) (leb byte high) t in
      let most = leb-true byte high parts.1 in
      (byte, (leb-true low byte parts.0, most, named byte (omega arith))),
  λ some.
      let same : byte ≡ some.0 = eqb-true byte some.0 (and_parts (ltb byte 8) (eqb byte some.0) some.1.2).1 in
      and_from (leb low byte) (leb byte high) (le-leb low byte (omega (arith, same, some.1.0))) (le-leb byte high (omega (arith, same, some.1.1))),
)
tracks_held None low high top = (λ t. absurd (false≢true t), λ some. absurd (false≢true some.1.2))

tracks_free : (byte : Option ℕ) (low high : ℕ) → low ≤ high → high ≤ 7 → Decides (free_by byte low high) (SomeTrack byte low high false)
unfolding SomeTrack
tracks_free (Some byte) low high ordered top = (
  λ t.
      ⊎_elim
      (λ (same : byte ≡ low). ⊎_elim (λ several. let more = ltb-true low high several in (high, (ordered, omega arith, other byte high (λ e. omega arith)))) (λ differ. absurd (eqb-false byte low (not-true (eqb byte low) differ) same)) (or_cases (ltb low high) (not (eqb byte low)) t))
      (λ differ. (low, (omega arith, ordered, other byte low differ)))
      (cases_eq byte low),
  λ some.
      let least = some.1.0 in
      let most = some.1.1 in
      let out = some.1.2 in
      grind (arith, nat_tests),
)
tracks_free None low high ordered top = (λ _. (low, (omega arith, ordered, refl)), λ _. refl)

-- where no track is named, some track is not
free_unless_held : (byte : Option ℕ) (low high : ℕ) → low ≤ high → held_by byte low high ≡ false → free_by byte low high ≡ true
free_unless_held (Some byte) low high ordered none = grind (arith, nat_tests)
free_unless_held None low high ordered none = refl

-- the relation that follows from what was seen tells it again, if anything was seen
told_again : (P : Place → Type 0) (s : PlaceSet) (held free : Bool) → (held ≡ false → free ≡ true) → Shows P s held free → Tells P s (Some (seen_relation held free))
told_again P s true true some shows = shows
told_again P s true false some shows = shows
told_again P s false true some shows = shows
told_again P s false false some shows = absurd (false≢true (some refl))

-- the cell c has a column at the needle n and the course k, and the byte decides its places
module _ (s : PlaceSet) (c : Cell) (n k : ℕ) (byte : Option ℕ) (has : HasColumn c n k) (decides : (p : Place) → at p Needle ≡ n → at p Course ≡ k → s p ≡ names byte (at p Track)) where
  -- the place of the column on a track
  on_track : (track : ℕ) → lo c Track ≤ track → track ≤ hi c Track → (p : Place) × (OnColumn c n k p × (at p Track ≡ track))
  on_track track least most = (
    place_at (along n k track) elim [ Needle ↦ omega (arith, c.high.on_grid Needle) | Course ↦ omega (arith, c.high.on_grid Course) | Track ↦ omega (arith, c.high.on_grid Track) ],
    (
      (
        (elim [ Needle ↦ has.needle_low | Course ↦ has.course_low | Track ↦ least ], elim [ Needle ↦ has.needle_high | Course ↦ has.course_high | Track ↦ most ]),
        (refl, refl),
      ),
      refl,
    ),
  )

  on_column : (answer r : Bool) → Decides r (SomeTrack byte (lo c Track) (hi c Track) answer) → Decides r (Somewhere (OnColumn c n k) s answer)
  unfolding SomeTrack
  on_column answer r =
      Decides-like r
      (λ some.
      let there = on_track some.0 some.1.0 some.1.1 in
      let p = there.0 in
      let on = there.1.0 in
      (p, (on, decides p on.1.0 on.1.1 ∙ rw there.1.1 some.1.2)))
      (λ some.
      let p = some.0 in
      let on = some.1.0 in
      (at p Track, (on.0.0 Track, on.0.1 Track, sym (decides p on.1.0 on.1.1) ∙ some.1.1)))

  pub column_tells : (r : Relation) → r ≡ seen_relation (held_by byte (lo c Track) (hi c Track)) (free_by byte (lo c Track) (hi c Track)) → Tells (OnColumn c n k) s (Some r)
  column_tells r r-is =
      subst (λ q. Tells (OnColumn c n k) s (Some q)) (sym r-is)
      (told_again (OnColumn c n k) s _ _ (free_unless_held byte (lo c Track) (hi c Track) (c.ordered Track)) record {
        held_tells = on_column true _ (tracks_held byte (lo c Track) (hi c Track) (c.high.on_grid Track));
        free_tells = on_column false _ (tracks_free byte (lo c Track) (hi c Track) (c.ordered Track) (c.high.on_grid Track));
      })
