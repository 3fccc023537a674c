-- What the tests, cuts and hulls of cells say of places. Assumes nothing.
use Rattle.std.proofs.Common.{◌≡◌, ℕ, suc, ◌^◌, ◌≤◌, min, max, Bool, true, Some, None, Decides, Option, refl, ap, ap₂, sym, ◌∙◌, subst, arith, lit≤}
use Rattle.std.proofs.lemmas.Bool.{and_parts}
use Rattle.std.proofs.lemmas.Bool.Decides.{Decides-and, Decides-at, Decides-like}
use Rattle.grid.specs.declared.axis.Axis.{Axis}
use Rattle.grid.specs.declared.place.Place.{Place}
use Rattle.grid.specs.declared.cell.Cell.{Cell}
use Rattle.grid.specs.declared.axis.Axis.TheVariants.{Needle, Course, Track}
use Rattle.grid.specs.Axes.{top, Below, below}
use Rattle.grid.specs.Places.{below_true, at, place_at}
use Rattle.grid.specs.Cells.{lo, hi, In, inside, within, meet, single, side, grid_cell, box_of, cut_of, hull_of, places_of, halvings, halvings_of}
use Rattle.grid.specs.Laws.{Part, BoxLaw, CutLaw, HullLaw, WithinLaw}
use Rattle.grid.proofs.PlaceLaws.{decides_below, place_ext, along_is}
use Rattle.grid.proofs.CellLaws.{Found, cell_from_is, cell_from_found}
use Rattle.grid.proofs.Sizes.{total_mono, product_mono, halvings_mono}

pub low_in : (c : Cell) → In c.low c
low_in c = (λ x. omega arith, c.ordered)

pub high_in : (c : Cell) → In c.high c
high_in c = (c.ordered, λ x. omega arith)

pub decides_inside : (p : Place) (c : Cell) → Decides (inside p c) (In p c)
decides_inside p c = Decides-and (below (lo c) (at p)) (below (at p) (hi c)) (decides_below (lo c) (at p)) (decides_below (at p) (hi c))

-- any answer that is the test's tells the same
pub inside_told : (p : Place) (c : Cell) (r : Bool) → r ≡ inside p c → Decides r (In p c)
inside_told p c r e = Decides-at r (inside p c) e (decides_inside p c)

pub decides_within : (c d : Cell) → Decides (within c d) ((p : Place) → In p c → In p d)
decides_within c d =
    Decides-like (within c d)
    (λ h p i. (λ x. omega (arith, h.0 x, i.0 x), λ x. omega (arith, h.1 x, i.1 x)))
    (λ f. ((f c.low (low_in c)).0, (f c.high (high_in c)).1))
    (Decides-and (below (lo d) (lo c)) (below (hi c) (hi d)) (decides_below (lo d) (lo c)) (decides_below (hi c) (hi d)))

-- the least place that is in neither cell below its low ends
first : Cell → Cell → Place
first c d = place_at (λ x. max (lo c x) (lo d x)) (λ x. omega (arith, c.low.on_grid x, d.low.on_grid x))

first_in : (c d : Cell) → Below (lo c) (hi d) → Below (lo d) (hi c) → In (first c d) c × In (first c d) d
unfolding first
first_in c d h k =
    let is : (x : Axis) → at (first c d) x ≡ max (lo c x) (lo d x) = along_is (λ x. max (lo c x) (lo d x)) in
    ((λ x. omega (arith, is x), λ x. omega (arith, is x, k x, c.ordered x)), (λ x. omega (arith, is x), λ x. omega (arith, is x, h x, d.ordered x)))

pub decides_meet : (c d : Cell) → Decides (meet c d) ((p : Place) × (In p c × In p d))
decides_meet c d =
    Decides-like (meet c d)
    (λ h. (first c d, first_in c d h.0 h.1))
    (λ s. (λ x. omega (arith, s.1.0.0 x, s.1.1.1 x), λ x. omega (arith, s.1.1.0 x, s.1.0.1 x)))
    (Decides-and (below (lo c) (hi d)) (below (lo d) (hi c)) (decides_below (lo c) (hi d)) (decides_below (lo d) (hi c)))

pub meet_told : (c d : Cell) (r : Bool) → r ≡ meet c d → Decides r ((p : Place) × (In p c × In p d))
meet_told c d r e = Decides-at r (meet c d) e (decides_meet c d)

pub decides_single : (c : Cell) → Decides (single c) ((p : Place) → In p c → p ≡ c.low)
decides_single c =
    Decides-like (single c)
    (λ h p i. place_ext p c.low (λ x. omega (arith, h x, i.0 x, i.1 x)))
    (λ one x. omega (arith, ap (λ p. at p x) (one c.high (high_in c))))
    (decides_below (hi c) (lo c))

pub single_told : (c : Cell) (r : Bool) → r ≡ single c → Decides r ((p : Place) → In p c → p ≡ c.low)
single_told c r e = Decides-at r (single c) e (decides_single c)

pub in_grid : (p : Place) → In p grid_cell
in_grid p = (λ x. omega (arith, along_is (λ x. 0) x), λ x. omega (arith, p.on_grid x, along_is top x))

box_found : (low high : Axis → ℕ) (r : Option Cell) → Found low (λ x. min (high x) (top x)) r → BoxLaw low high r
box_found low high (Some c) f p = (
  λ i. (λ x. omega (arith, f.0 x, i.0 x), λ x. omega (arith, f.1 x, i.1 x)),
  λ i. (λ x. omega (arith, f.0 x, i.0 x), λ x. omega (arith, f.1 x, i.1 x, p.on_grid x)),
)
box_found low high None f p = (λ h. absurd h, λ i. omega (arith, f.1, i.0 f.0, i.1 f.0, p.on_grid f.0))

pub box_law : (low high : Axis → ℕ) → BoxLaw low high (box_of low high)
box_law low high = box_found low high (box_of low high) (cell_from_found low (λ x. min (high x) (top x)))

pub box_told : (low high : Axis → ℕ) (r : Option Cell) → r ≡ box_of low high → BoxLaw low high r
box_told low high r e = subst (BoxLaw low high) (sym e) (box_law low high)

cut_found : (a b : Cell) (r : Option Cell) → Found (λ x. max (lo a x) (lo b x)) (λ x. min (hi a x) (hi b x)) r → CutLaw a b r
cut_found a b (Some c) f = record {
  shared = λ p. (
    λ i. ((λ x. omega (arith, f.0 x, i.0 x), λ x. omega (arith, f.1 x, i.1 x)), (λ x. omega (arith, f.0 x, i.0 x), λ x. omega (arith, f.1 x, i.1 x))),
    λ i. (λ x. omega (arith, f.0 x, i.0.0 x, i.1.0 x), λ x. omega (arith, f.1 x, i.0.1 x, i.1.1 x)),
  );
  apart = (
    λ e. let z : ◌≡◌ {A = ℕ} 0 1 = cc in omega arith,
    λ no_place. absurd (no_place c.low (λ x. omega (arith, f.0 x), λ x. omega (arith, f.1 x, c.ordered x)) (λ x. omega (arith, f.0 x), λ x. omega (arith, f.1 x, c.ordered x))),
  );
}
cut_found a b None f =
    let gap : (p : Place) → In p a → In p b → ⊥ = λ p i j. omega (arith, f.1, i.0 f.0, i.1 f.0, j.0 f.0, j.1 f.0, a.high.on_grid f.0) in
    record { shared = λ p. (λ h. absurd h, λ h. absurd (gap p h.0 h.1)); apart = (λ _. gap, λ _. refl) }

pub cut_law : (a b : Cell) → CutLaw a b (cut_of a b)
cut_law a b = cut_found a b (cut_of a b) (cell_from_found (λ x. max (lo a x) (lo b x)) (λ x. min (hi a x) (hi b x)))

pub cut_told : (a b : Cell) (r : Option Cell) → r ≡ cut_of a b → CutLaw a b r
cut_told a b r e = subst (CutLaw a b) (sym e) (cut_law a b)

hull_least : (a b c h : Cell) → Found (λ x. min (lo a x) (lo b x)) (λ x. max (hi a x) (hi b x)) (Some h) → Part (Some a) (Some c) → Part (Some b) (Some c) → Part (Some h) (Some c)
hull_least a b c h f k l p i =
    let al = (k a.low (low_in a)).0 in
    let ah = (k a.high (high_in a)).1 in
    let bl = (l b.low (low_in b)).0 in
    let bh = (l b.high (high_in b)).1 in
    (λ x. omega (arith, f.0 x, i.0 x, al x, bl x), λ x. omega (arith, f.1 x, i.1 x, ah x, bh x))

hull_found : (a b : Cell) (r : Option Cell) → Found (λ x. min (lo a x) (lo b x)) (λ x. max (hi a x) (hi b x)) r → HullLaw (Some a) (Some b) r
hull_found a b (Some h) f = record {
  first = λ p i. (λ x. omega (arith, f.0 x, i.0 x), λ x. omega (arith, f.1 x, i.1 x));
  second = λ p i. (λ x. omega (arith, f.0 x, i.0 x), λ x. omega (arith, f.1 x, i.1 x));
  least = elim [ Some c ↦ hull_least a b c h f | None ↦ λ k l p i. k a.low (low_in a) ];
}
hull_found a b None f =
    absurd (omega (arith, f.1, a.ordered f.0, a.high.on_grid f.0, b.high.on_grid f.0))

pub hull_law : (a b : Option Cell) → HullLaw a b (hull_of a b)
hull_law None b = record { first = λ p i. absurd i; second = λ p i. i; least = λ c k l. l }
hull_law (Some a) None = record { first = λ p i. i; second = λ p i. absurd i; least = λ c k l. k }
hull_law (Some a) (Some b) = hull_found a b (hull_of (Some a) (Some b)) (cell_from_found (λ x. min (lo a x) (lo b x)) (λ x. max (hi a x) (hi b x)))

pub hull_told : (a b r : Option Cell) → r ≡ hull_of a b → HullLaw a b r
hull_told a b r e = subst (HullLaw a b) (sym e) (hull_law a b)

-- the hull of two cells that are there
pub hull_as : (one other : Option Cell) (a b h : Cell) → one ≡ Some a → other ≡ Some b → ((x : Axis) → lo h x ≡ min (lo a x) (lo b x)) → ((x : Axis) → hi h x ≡ max (hi a x) (hi b x)) → Some h ≡ hull_of one other
hull_as one other a b h i j lows highs = cell_from_is (λ x. min (lo a x) (lo b x)) (λ x. max (hi a x) (hi b x)) h lows highs ∙ sym (ap₂ hull_of i j)

side_mono : (c d : Cell) → Below (lo d) (lo c) → Below (hi c) (hi d) → Below (side c) (side d)
side_mono c d h k x = omega (arith, h x, k x)

side_top : (c : Cell) (x : Axis) → side c x ≤ suc (top x)
side_top c x = omega (arith, c.high.on_grid x)

top_small : (x : Axis) → suc (top x) ≤ 2 ^ 16
top_small Needle = lit≤ tt
top_small Course = lit≤ tt
top_small Track = lit≤ tt

pub side_small : (c : Cell) (x : Axis) → side c x ≤ 2 ^ 16
side_small c x = omega (arith, side_top c x, top_small x)

pub places_most : (c : Cell) → places_of c ≤ 2 ^ 31
places_most c = product_mono (side c) (λ x. suc (top x)) (side_top c)

pub most_told : (c : Cell) (n : ℕ) → n ≡ places_of c → n ≤ 2 ^ 31
most_told c n e = subst (λ m. m ≤ 2 ^ 31) (sym e) (places_most c)

pub halvings_most : (c : Cell) → halvings_of c ≤ 31
unfolding halvings
halvings_most c = total_mono (λ x. halvings (side c x)) (λ x. halvings (suc (top x))) (λ x. halvings_mono (side c x) (suc (top x)) (side_top c x) (top_small x))

pub halvings_told : (c : Cell) (n : ℕ) → n ≡ halvings_of c → n ≤ 31
halvings_told c n e = subst (λ m. m ≤ 31) (sym e) (halvings_most c)

pub within_law : (c d : Cell) → WithinLaw c d (within c d)
within_law c d =
    let lows = λ (t : within c d ≡ true). below_true (lo d) (lo c) (and_parts (below (lo d) (lo c)) (below (hi c) (hi d)) t).0 in
    let highs = λ (t : within c d ≡ true). below_true (hi c) (hi d) (and_parts (below (lo d) (lo c)) (below (hi c) (hi d)) t).1 in
    record {
      tells = decides_within c d;
      places = λ t. product_mono (side c) (side d) (side_mono c d (lows t) (highs t));
      halvings = λ t. total_mono (λ x. halvings (side c x)) (λ x. halvings (side d x)) (λ x. halvings_mono (side c x) (side d x) (side_mono c d (lows t) (highs t) x) (side_small d x));
    }

pub within_told : (c d : Cell) (r : Bool) → r ≡ within c d → WithinLaw c d r
within_told c d r e = subst (WithinLaw c d) (sym e) (within_law c d)
