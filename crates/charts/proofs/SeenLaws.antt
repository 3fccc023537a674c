-- What is seen of parts of a cell joins to what is seen of all of it. Assumes nothing.
use Rattle.std.proofs.Common.{◌≡◌, ℕ, ◌+◌, ◌≤◌, Bool, true, false, ◌&&◌, ◌||◌, ◌⊎◌, Some, None, Option, Decides, subst, sym, refl, inl, inr, ⊎_elim, arith}
use Rattle.std.proofs.lemmas.Bool.{and_parts, both_ways, cases_lt, cases_eq, cases_Bool, false≢true}
use Rattle.std.proofs.lemmas.Bool.Decides.{Decides-at, Decides-like, Decides-or}
use Rattle.std.specs.Option.{unwrap_or}
use Rattle.grid.specs.declared.axis.Axis.TheVariants.{Needle, Course}
use Rattle.grid.specs.declared.cell.Cell.{Cell}
use Rattle.grid.specs.declared.place.Place.{Place}
use Rattle.grid.specs.Places.{at}
use Rattle.grid.specs.Cells.{lo, hi, In}
use Rattle.pattern.specs.declared.relation.Relation.{Relation}
use Rattle.pattern.specs.declared.relation.Relation.TheVariants.{Inside, Outside, Mixed}
use Rattle.pattern.specs.Sets.{PlaceSet}
use Rattle.pattern.specs.Relations.{AllIn, NoneIn, Exact}
use Rattle.pattern.proofs.ExactLaws.{inside_exact, outside_exact, mixed_exact}
use Rattle.charts.specs.Judging.{Somewhere, Shows, OnColumn, Before, seen_relation, Tells}

-- every place with P has Q
Each : (Place → Type 0) → (Place → Type 0) → Type 0
Each P Q = (p : Place) → P p → Q p

module _ (s : PlaceSet) where
  wider : (P Q : Place → Type 0) (answer : Bool) → Each P Q → Somewhere P s answer → Somewhere Q s answer
  unfolding Each
  wider P Q answer each some = (some.0, (each some.0 some.1.0, some.1.1))

  -- what is seen of no place
  none_shown : (P : Place → Type 0) → ((p : Place) → P p → ⊥) → Shows P s false false
  none_shown P never = record {
    held_tells = (λ t. absurd (false≢true t), λ some. absurd (never some.0 some.1.0));
    free_tells = (λ t. absurd (false≢true t), λ some. absurd (never some.0 some.1.0));
  }

  -- the same places in other words
  same_shown : (P Q : Place → Type 0) (held free : Bool) → Each P Q → Each Q P → Shows P s held free → Shows Q s held free
  same_shown P Q held free to from shows = record {
    held_tells = Decides-like held (wider P Q true to) (wider Q P true from) shows.held_tells;
    free_tells = Decides-like free (wider P Q false to) (wider Q P false from) shows.free_tells;
  }

  -- a settled answer lasts
  settled_shown : (P Q : Place → Type 0) (held free : Bool) → true ≡ (held && free) → Each P Q → Shows P s held free → Shows Q s held free
  settled_shown P Q held free settled to shows = record {
    held_tells = (λ t. wider P Q true to (shows.held_tells.0 t), λ _. (and_parts held free (sym settled)).0);
    free_tells = (λ t. wider P Q false to (shows.free_tells.0 t), λ _. (and_parts held free (sym settled)).1);
  }

  part_joined : (P Q R : Place → Type 0) (x y z answer : Bool) → Each P R → Each Q R → ((p : Place) → R p → P p ⊎ Q p) → z ≡ (x || y) → Decides x (Somewhere P s answer) → Decides y (Somewhere Q s answer) → Decides z (Somewhere R s answer)
  part_joined P Q R x y z answer first second split z-is dx dy =
      Decides-at z (x || y) z-is
      (Decides-like (x || y) (⊎_elim (wider P R answer first) (wider Q R answer second))
      (λ some. ⊎_elim (λ h. inl (some.0, (h, some.1.1))) (λ h. inr (some.0, (h, some.1.1))) (split some.0 some.1.0))
      (Decides-or x y dx dy))

  -- the columns of a cell, gone through course by course
  module _ (c : Cell) where
    pub start_shown : (k : ℕ) → k ≡ lo c Course → Shows (Before c (lo c Needle) k) s false false
    start_shown k first =
        none_shown (Before c (lo c Needle) k) (λ p before. ⊎_elim (λ h. omega (arith, before.0.0 Course)) (λ h. omega (arith, h.1, before.0.0 Needle)) before.1)

    -- the columns before one, and that one
    module _ (n k : ℕ) where
      column_part : (x y z answer : Bool) → z ≡ (x || y) → Decides x (Somewhere (Before c n k) s answer) → Decides y (Somewhere (OnColumn c n k) s answer) → Decides z (Somewhere (Before c (n + 1) k) s answer)
      unfolding Each
      column_part x y z answer =
          part_joined (Before c n k) (OnColumn c n k) (Before c (n + 1) k) x y z answer
          (λ p before. (before.0, ⊎_elim (λ h. inl h) (λ h. inr (h.0, omega (arith, h.1))) before.1))
          (λ p on. (on.0, inr (on.1.1, omega (arith, on.1.0))))
          (λ p before.
          ⊎_elim (λ h. inl (before.0, inl h)) (λ h. ⊎_elim (λ same. inr (before.0, (same, h.0))) (λ differ. inl (before.0, inr (h.0, omega (arith, h.1)))) (cases_eq (at p Needle) n))
          before.1)

      pub column_joined : (held free held' free' held'' free'' : Bool) → held'' ≡ (held || held') → free'' ≡ (free || free') → Shows (Before c n k) s held free → Shows (OnColumn c n k) s held' free' → Shows (Before c (n + 1) k) s held'' free''
      column_joined held free held' free' held'' free'' held-is free-is before column = record {
        held_tells = column_part held held' held'' true held-is before.held_tells column.held_tells;
        free_tells = column_part free free' free'' false free-is before.free_tells column.free_tells;
      }

    -- after the last needle comes the next course
    pub row_shown : (n k : ℕ) (held free : Bool) → hi c Needle + 1 ≤ n → Shows (Before c n k) s held free → Shows (Before c (lo c Needle) (k + 1)) s held free
    unfolding Each
    row_shown n k held free past =
        same_shown (Before c n k) (Before c (lo c Needle) (k + 1)) held free
        (λ p before. (before.0, inl (⊎_elim (λ h. omega arith) (λ h. omega (arith, h.0)) before.1)))
        (λ p before.
        (before.0, ⊎_elim (λ h. ⊎_elim (λ less. inl less) (λ least. inr (omega arith, omega (arith, before.0.1 Needle))) (cases_lt (at p Course) k)) (λ h. absurd (omega (arith, h.1, before.0.0 Needle))) before.1))

    pub row_settled : (n k : ℕ) (held free : Bool) → true ≡ (held && free) → Shows (Before c n k) s held free → Shows (Before c (lo c Needle) (k + 1)) s held free
    unfolding Each
    row_settled n k held free settled =
        settled_shown (Before c n k) (Before c (lo c Needle) (k + 1)) held free settled
        (λ p before. (before.0, inl (⊎_elim (λ h. omega arith) (λ h. omega (arith, h.0)) before.1)))

    -- after the last course all is seen
    pub cell_shown : (n k : ℕ) (held free : Bool) → hi c Course + 1 ≤ k → Shows (Before c n k) s held free → Shows (λ p. In p c) s held free
    unfolding Each
    cell_shown n k held free past =
        same_shown (Before c n k) (λ p. In p c) held free (λ p before. before.0) (λ p i. (i, inl (omega (arith, i.1 Course))))

    pub cell_settled : (n k : ℕ) (held free : Bool) → true ≡ (held && free) → Shows (Before c n k) s held free → Shows (λ p. In p c) s held free
    unfolding Each
    cell_settled n k held free settled =
        settled_shown (Before c n k) (λ p. In p c) held free settled (λ p before. before.0)

    -- where no place is out all are in, and where no place is in none is
    all_seen_in : Decides false (Somewhere (λ p. In p c) s false) → AllIn s c
    all_seen_in none_out p i = ⊎_elim (λ t. t) (λ f. absurd (false≢true (none_out.1 (p, (i, f))))) (cases_Bool (s p))

    none_in : Decides false (Somewhere (λ p. In p c) s true) → NoneIn s c
    none_in nobody p i = ⊎_elim (λ t. absurd (false≢true (nobody.1 (p, (i, t))))) (λ f. f) (cases_Bool (s p))

    pub shown_exact : (held free : Bool) → Shows (λ p. In p c) s held free → Exact (seen_relation held free) s c
    shown_exact true true shows =
        let one = shows.held_tells.0 refl in
        let other = shows.free_tells.0 refl in
        mixed_exact s c (λ all. both_ways (s other.0) other.1.1 (all other.0 other.1.0)) (λ none. both_ways (s one.0) (none one.0 one.1.0) one.1.1)
    shown_exact true false shows = inside_exact s c (all_seen_in shows.free_tells)
    shown_exact false free shows = outside_exact s c (none_in shows.held_tells)

    -- the relation of all places is exact; where there is none it is Outside
    pub told_exact : (seen : Option Relation) (r : Relation) → r ≡ unwrap_or seen Outside → Tells (λ p. In p c) s seen → Exact r s c
    told_exact (Some Inside) r is tells = subst (λ q. Exact q s c) (sym is) (shown_exact true false tells)
    told_exact (Some Mixed) r is tells = subst (λ q. Exact q s c) (sym is) (shown_exact true true tells)
    told_exact (Some Outside) r is tells = subst (λ q. Exact q s c) (sym is) (shown_exact false true tells)
    told_exact None r is tells = subst (λ q. Exact q s c) (sym is) (shown_exact false false tells)
