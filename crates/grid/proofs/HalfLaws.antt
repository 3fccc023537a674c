-- What halving does to the places, the count and the halvings left. Assumes nothing.
use Rattle.std.proofs.Common.{◌≡◌, ℕ, zero, suc, ◌+◌, ◌-◌, ◌/◌, ◌<◌, ◌≤◌, Bool, true, false, cond, eqb, leb, Some, None, sym, refl, ap, ◌∙◌, subst, ap₂, inl, inr, ⊎_elim, arith}
use mathlib.Core.Path.{fun_ext}
use Rattle.std.proofs.lemmas.Bool.{cases_lt, cond_both, cond-true, cond-false, eqb-false, eqb-true, leb-true, leb-false}
use Rattle.grid.specs.declared.axis.Axis.{Axis}
use Rattle.grid.specs.declared.axis.Axis.TheVariants.{Needle, Course, Track}
use Rattle.grid.specs.declared.place.Place.{Place}
use Rattle.grid.specs.declared.cell.Cell.{Cell}
use Rattle.grid.specs.Axes.{Below, rank, total, product, put}
use Rattle.grid.specs.Places.{below_true, at}
use Rattle.grid.specs.Cells.{lo, hi, In, single, side, longer, longest_of, middle_of, both, lower_half, upper_half, halves_of, halvings, halvings_of}
use Rattle.grid.specs.Laws.{Halved, Lone}
use Rattle.grid.proofs.PlaceLaws.{below_false}
use Rattle.grid.proofs.CellLaws.{cell_from_is}
use Rattle.grid.proofs.Sizes.{total_less, product_split, halvings_upper, halvings_lower}
use Rattle.grid.proofs.Meanings.{side_small, decides_single}

-- the longest side is as long as any

longer_first : (c : Cell) (a b : Axis) → side c a ≤ side c (longer c a b)
longer_first c a b = cond_both (leb (side c b) (side c a)) a b (λ x. side c a ≤ side c x) (λ e. omega arith) (λ e. omega (arith, leb-false (side c b) (side c a) e))

longer_second : (c : Cell) (a b : Axis) → side c b ≤ side c (longer c a b)
longer_second c a b = cond_both (leb (side c b) (side c a)) a b (λ x. side c b ≤ side c x) (λ e. leb-true (side c b) (side c a) e) (λ e. omega arith)

pub longest_most : (c : Cell) (x : Axis) → side c x ≤ side c (longest_of c)
longest_most c Needle = omega (arith, longer_first c Needle Course, longer_first c (longer c Needle Course) Track)
longest_most c Course = omega (arith, longer_second c Needle Course, longer_first c (longer c Needle Course) Track)
longest_most c Track = longer_second c (longer c Needle Course) Track

pub two_places : (c : Cell) → single c ≡ false → 2 ≤ side c (longest_of c)
two_places c many = let x = below_false (hi c) (lo c) many in omega (arith, x.1, longest_most c x.0)

-- one number put in place of another

axis_at : ℕ → Axis
axis_at zero = Needle
axis_at (suc zero) = Course
axis_at (suc (suc n)) = Track

axis_at_rank : (a : Axis) → axis_at (rank a) ≡ a
unfolding axis_at
axis_at_rank Needle = refl
axis_at_rank Course = refl
axis_at_rank Track = refl

same_axis : (a x : Axis) → eqb (rank a) (rank x) ≡ true → a ≡ x
same_axis a x e = sym (axis_at_rank a) ∙ ap axis_at (eqb-true (rank a) (rank x) e) ∙ axis_at_rank x

put_same : (a : Axis) (v : ℕ) (f : Axis → ℕ) → put a v f a ≡ v
put_same Needle v f = refl
put_same Course v f = refl
put_same Track v f = refl

pub put_both : (a : Axis) (v : ℕ) (f : Axis → ℕ) (P : Axis → ℕ → Type 0) → P a v → ((x : Axis) → P x (f x)) → (x : Axis) → P x (put a v f x)
put_both a v f P here rest x =
    cond_both (eqb (rank a) (rank x)) v (f x) (P x) (λ e. subst (λ y. P y v) (same_axis a x e) here) (λ _. rest x)

-- a number that is v on the axis a, and else that of f
pub put_told : (a : Axis) (v : ℕ) (f : Axis → ℕ) (x : Axis) (n : ℕ) → (a ≡ x → n ≡ v) → ((a ≡ x → ⊥) → n ≡ f x) → n ≡ put a v f x
put_told a v f x n here rest = cond_both (eqb (rank a) (rank x)) v (f x) (λ m. n ≡ m) (λ e. here (same_axis a x e)) (λ e. rest (λ same. eqb-false (rank a) (rank x) e (ap rank same)))

-- The ends that the code puts in at the middle. It has the axis as a, the middle as m, and the new place as q; the place
-- is what the definition asks for, and lies on the right side of the cell's other end.
module _ (c : Cell) (a : Axis) (m : ℕ) (q : Place) (axis : a ≡ longest_of c) (middle : m ≡ lo c a + side c a / 2) where
  middle_is : m ≡ middle_of c
  middle_is = middle ∙ ap (λ b. lo c b + side c b / 2) axis

  pub new_high : ((x : Axis) → at q x ≡ put a (m - 1) (hi c) x) → (x : Axis) → at q x ≡ put (longest_of c) (middle_of c - 1) (hi c) x
  new_high told x = told x ∙ ap₂ (λ b n. put b (n - 1) (hi c) x) axis middle_is

  pub new_low : ((x : Axis) → at q x ≡ put a m (lo c) x) → (x : Axis) → at q x ≡ put (longest_of c) (middle_of c) (lo c) x
  new_low told x = told x ∙ ap₂ (λ b n. put b n (lo c) x) axis middle_is

  pub lower_ordered : single c ≡ false → ((x : Axis) → at q x ≡ put a (m - 1) (hi c) x) → Below (lo c) (at q)
  lower_ordered many told x =
      rw (new_high told x) (put_both (longest_of c) (middle_of c - 1) (hi c) (λ x n. lo c x ≤ n) (omega (arith, two_places c many)) c.ordered x)

  pub upper_ordered : single c ≡ false → ((x : Axis) → at q x ≡ put a m (lo c) x) → Below (at q) (hi c)
  upper_ordered many told x =
      rw (new_low told x) (put_both (longest_of c) (middle_of c) (lo c) (λ x n. n ≤ hi c x) (omega (arith, two_places c many)) c.ordered x)

-- a function of each number, with one of them put in

put_map : (a : Axis) (v w : ℕ) (f g : Axis → ℕ) (h : Axis → ℕ → ℕ) → h a v ≡ w → ((x : Axis) → h x (f x) ≡ g x) → (x : Axis) → h x (put a v f x) ≡ put a w g x
put_map a v w f g h here rest x =
    go (eqb (rank a) (rank x)) (λ e. subst (λ y. h y v ≡ w) (same_axis a x e) here)
  where
    go : (b : Bool) → (b ≡ true → h x v ≡ w) → h x (cond b v (f x)) ≡ cond b w (g x)
    go true k = k refl
    go false k = rest x

module _ (c l u : Cell) (a : Axis) (two : 2 ≤ side c a)
    (lows : (x : Axis) → lo l x ≡ lo c x)
    (low_told : (x : Axis) → hi l x ≡ put a (lo c a + side c a / 2 - 1) (hi c) x)
    (high-told : (x : Axis) → lo u x ≡ put a (lo c a + side c a / 2) (lo c) x)
    (highs : (x : Axis) → hi u x ≡ hi c x) where
  low_side : (x : Axis) → side l x ≡ put a (side c a / 2) (side c) x
  low_side x = ap₂ (λ h k. suc h - k) (low_told x) (lows x) ∙ put_map a (lo c a + side c a / 2 - 1) (side c a / 2) (hi c) (side c) (λ x h. suc h - lo c x) (omega arith) (λ x. refl) x

  high_side : (x : Axis) → side u x ≡ put a (side c a - side c a / 2) (side c) x
  high_side x = ap₂ (λ h k. suc h - k) (highs x) (high-told x) ∙ put_map a (lo c a + side c a / 2) (side c a - side c a / 2) (lo c) (side c) (λ x k. suc (hi c x) - k) (omega arith) (λ x. refl) x

  low_end : hi l a ≡ lo c a + side c a / 2 - 1
  low_end = low_told a ∙ put_same a (lo c a + side c a / 2 - 1) (hi c)

  high_end : lo u a ≡ lo c a + side c a / 2
  high_end = high-told a ∙ put_same a (lo c a + side c a / 2) (lo c)

  in_lower : (p : Place) → In p c → at p a ≤ lo c a + side c a / 2 - 1 → In p l
  in_lower p i h = (λ x. omega (arith, lows x, i.0 x), λ x. rw (low_told x) (put_both a (lo c a + side c a / 2 - 1) (hi c) (λ x n. at p x ≤ n) h i.1 x))

  in_upper : (p : Place) → In p c → lo c a + side c a / 2 ≤ at p a → In p u
  in_upper p i h = (λ x. rw (high-told x) (put_both a (lo c a + side c a / 2) (lo c) (λ x n. n ≤ at p x) h i.0 x), λ x. omega (arith, highs x, i.1 x))

  lower_high : (x : Axis) → hi l x ≤ hi c x
  lower_high x = rw (low_told x) (put_both a (lo c a + side c a / 2 - 1) (hi c) (λ x n. n ≤ hi c x) (omega arith) (λ x. omega arith) x)

  upper_low : (x : Axis) → lo c x ≤ lo u x
  upper_low x = rw (high-told x) (put_both a (lo c a + side c a / 2) (lo c) (λ x n. lo c x ≤ n) (omega arith) (λ x. omega arith) x)

  fewer : (d : Cell) (w : ℕ) → ((x : Axis) → side d x ≡ put a w (side c) x) → halvings w < halvings (side c a) → halvings_of d < halvings_of c
  fewer d w sides less =
      let each : (x : Axis) → halvings (side d x) ≡ put a (halvings w) (λ x. halvings (side c x)) x = λ x. ap halvings (sides x) ∙ put_map a w (halvings w) (side c) (λ x. halvings (side c x)) (λ x n. halvings n) refl (λ x. refl) x in
      rw (ap total (fun_ext each)) (total_less a (λ x. halvings (side c x)) (halvings w) less)

  pub halved : ((x : Axis) → side c x ≤ side c (longest_of c)) → Halved c l u
  halved most = record {
    whole = λ p i. ⊎_elim (λ below. inl (in_lower p i (omega arith))) (λ above. inr (in_upper p i above)) (cases_lt (at p a) (lo c a + side c a / 2));
    apart = λ p i j. omega (arith, i.1 a, j.0 a, low_end, high_end);
    lower_part = λ p i. (λ x. omega (arith, lows x, i.0 x), λ x. omega (arith, lower_high x, i.1 x));
    upper_part = λ p i. (λ x. omega (arith, upper_low x, i.0 x), λ x. omega (arith, highs x, i.1 x));
    places = ap₂ ◌+◌ (ap product (fun_ext low_side)) (ap product (fun_ext high_side)) ∙ product_split a (side c) (side c a / 2) (side c a - side c a / 2) (omega arith);
    lower_fewer = fewer l (side c a / 2) low_side (halvings_lower (side c a) two (side_small c a));
    upper_fewer = fewer u (side c a - side c a / 2) high_side (halvings_upper (side c a) two (side_small c a));
    longest = most;
  }

-- the two cells that halving makes are the halves, and keep the law
pub halves_are : (c l u : Cell) → single c ≡ false → ((x : Axis) → lo l x ≡ lo c x) → ((x : Axis) → hi l x ≡ put (longest_of c) (middle_of c - 1) (hi c) x) → ((x : Axis) → lo u x ≡ put (longest_of c) (middle_of c) (lo c) x) → ((x : Axis) → hi u x ≡ hi c x) → (Some (l, u) ≡ halves_of c) × Halved c l u
halves_are c l u many lows low_told high-told highs = (
  ap₂ both (cell_from_is (lo c) (put (longest_of c) (middle_of c - 1) (hi c)) l lows low_told) (cell_from_is (put (longest_of c) (middle_of c) (lo c)) (hi c) u high-told highs)
      ∙ sym (cond-false (single c) None (both (lower_half c) (upper_half c)) many),
  halved c l u (longest_of c) (two_places c many) lows low_told high-told highs (longest_most c),
)

pub no_halves : (c : Cell) → single c ≡ true → None ≡ halves_of c
no_halves c one = sym (cond-true (single c) None (both (lower_half c) (upper_half c)) one)

pub lone : (c : Cell) → single c ≡ true → Lone c
lone c one = record {
  places = ap product (fun_ext (λ x. single_side x (below_true (hi c) (lo c) one)));
  only = (decides_single c).0 one;
}
  where
    single_side : (x : Axis) → Below (hi c) (lo c) → side c x ≡ 1
    single_side x h = omega (arith, h x, c.ordered x)
