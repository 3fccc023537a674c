-- Counting by halves. Assumes nothing.
use Rattle.std.proofs.Common.{◌≡◌, ℕ, ◌+◌, ◌≤◌, Bool, true, false, ◌⊎◌, List, [], ◌∷◌, ◌++◌, length, sym, refl, ap, ◌∙◌, ap₂, inl, inr, ⊎_elim, arith, lit≤, length-append}
use mir.Val.{bool_byte}
use Rattle.std.proofs.lemmas.Bool.{both_ways, cases_Bool}
use Rattle.grid.specs.declared.cell.Cell.{Cell}
use Rattle.grid.specs.declared.place.Place.{Place}
use Rattle.grid.specs.Cells.{In}
use Rattle.grid.specs.Laws.{Halved, Lone}
use Rattle.grid.proofs.Meanings.{low_in}
use Rattle.grid.specs.Counts.{Among, Once, Lists, Counted}

-- lists put one behind the other

among_left : (p : Place) (xs ys : List Place) → Among p xs → Among p (xs ++ ys)
among_left p [] ys a = absurd a
among_left p (x ∷ xs) ys (inl e) = inl e
among_left p (x ∷ xs) ys (inr a) = inr (among_left p xs ys a)

among_right : (p : Place) (xs ys : List Place) → Among p ys → Among p (xs ++ ys)
among_right p [] ys a = a
among_right p (x ∷ xs) ys a = inr (among_right p xs ys a)

among_either : (p : Place) (xs ys : List Place) → Among p (xs ++ ys) → Among p xs ⊎ Among p ys
among_either p [] ys a = inr a
among_either p (x ∷ xs) ys (inl e) = inl (inl e)
among_either p (x ∷ xs) ys (inr a) = ⊎_elim (λ l. inl (inr l)) (λ r. inr r) (among_either p xs ys a)

once_both : (xs ys : List Place) → Once xs → Once ys → ((p : Place) → Among p xs → Among p ys → ⊥) → Once (xs ++ ys)
once_both [] ys ox oy apart = oy
once_both (x ∷ xs) ys ox oy apart = (
  λ a. ⊎_elim ox.0 (apart x (inl refl)) (among_either x xs ys a),
  once_both xs ys ox.1 oy (λ p a. apart p (inr a)),
)

pub single_few : (b : Bool) → bool_byte b ≤ 1
single_few true = lit≤ tt
single_few false = lit≤ tt

module _ (set : Place → Bool) (c : Cell) where
  -- a single place lies in the set or not

  count_one : Lone c → set c.low ≡ true → Counted set c 1
  count_one one yes' = record {
    places = c.low ∷ [];
    lists = record {
      once = (λ a. a, tt);
      just = λ p. (
        elim [ inl e ↦ (rw e (low_in c), rw e yes') | inr a ↦ absurd a ],
        λ i. inl (one.only p i.0),
      );
    };
    many = refl;
  }

  count_none : Lone c → set c.low ≡ false → Counted set c 0
  count_none one no' = record {
    places = [];
    lists = record { once = tt; just = λ p. (λ a. absurd a, λ i. both_ways (set p) (ap set (one.only p i.0) ∙ no') i.1) };
    many = refl;
  }

  pub count_single : (b : Bool) → Lone c → b ≡ set c.low → Counted set c (bool_byte b)
  count_single true one e = count_one one (sym e)
  count_single false one e = count_none one (sym e)

  -- the places of the two halves together

  pub count_halves : {l u : Cell} {m n : ℕ} → Halved c l u → Counted set l m → Counted set u n → Counted set c (m + n)
  count_halves {l} {u} {m} {n} h a b =
      let xs = a.places in
      let ys = b.places in
      record {
        places = xs ++ ys;
        lists = record {
          once = once_both xs ys a.lists.once b.lists.once (λ p i j. h.apart p ((a.lists.just p).0 i).0 ((b.lists.just p).0 j).0);
          just = λ p. (
            λ i. ⊎_elim (λ k. (h.lower_part p ((a.lists.just p).0 k).0, ((a.lists.just p).0 k).1)) (λ k. (h.upper_part p ((b.lists.just p).0 k).0, ((b.lists.just p).0 k).1)) (among_either p xs ys i),
            λ i. ⊎_elim (λ k. among_left p xs ys ((a.lists.just p).1 (k, i.1))) (λ k. among_right p xs ys ((b.lists.just p).1 (k, i.1))) (h.whole p i.0),
          );
        };
        many = length-append xs ys ∙ ap₂ ◌+◌ a.many b.many;
      }

  -- a count of 0 leaves no place of the cell in the set, and any other leaves one

  pub none_counted : Counted set c 0 → (p : Place) → In p c → set p ≡ false
  none_counted n p i = go n.places n.many n.lists
    where
      go : (ps : List Place) → length ps ≡ 0 → Lists set c ps → set p ≡ false
      go [] e l = ⊎_elim (λ t. absurd ((l.just p).1 (i, t))) (λ f. f) (cases_Bool (set p))
      go (x ∷ ps) e l = absurd (omega arith)

  pub some_counted : (n : ℕ) → Counted set c n → ((p : Place) → In p c → set p ≡ false) → n ≡ 0
  some_counted n k nowhere = go k.places k.many k.lists
    where
      go : (ps : List Place) → length ps ≡ n → Lists set c ps → n ≡ 0
      go [] e l = sym e
      go (x ∷ ps) e l = let i = (l.just x).0 (inl refl) in absurd (both_ways (set x) (nowhere x i.0) i.1)
