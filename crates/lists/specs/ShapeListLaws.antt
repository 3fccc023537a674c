-- A shape list owes what every bank owes; and what its calls find is what its meaning says. Assumes nothing.
use Rattle.std.proofs.Common.{◌≡◌, ℕ, zero, suc, ◌<◌, ◌≤◌, min, true, List, [], ◌∷◌, map, length, get_or, take, Some, None, Option, Bor, sym, ap, ◌∙◌, arith}
use Rattle.std.proofs.lemmas.List.{take_min, length-take, length-map, get_or-take, get_or-map, get_or_past}
use Rattle.std.proofs.lemmas.Bool.{false≢true}
use Rattle.std.specs.Option.{option_copied, option_map, unwrap_or}
use Rattle.std.specs.Slice.{IsItemAt}
use Rattle.grid.specs.declared.place.Place.{Place}
use Rattle.grid.specs.Laws.{Holds}
use Rattle.grid.proofs.Meanings.{in_grid}
use Rattle.pattern.specs.Sets.{leaf_set, nowhere}
use Rattle.pattern.specs.Relations.{exactly}
use Rattle.pattern.specs.Banks.{Facts}
use Rattle.pattern.proofs.ExactLaws.{exactly_says, exactly_nowhere}
use Rattle.shapes.specs.declared.shape.Shape.{Shape}
use Rattle.shapes.specs.declared.shape.Shape.TheVariants.{Block, Slope}
use Rattle.shapes.specs.Shapes.{shape_set, shape_bound, possible_set, possible_bound}
use Rattle.lists.specs.ShapeLists.{counting, counted, sets_of, bound_at, meaning_of_shapes}
use Rattle.shapes.proofs.BlockLaws.{decides_block}

-- the values of the first n of a list: how many there are, the one at a number, and what is read past them
module _ {X Y : Type 0} (f : X → Y) (n : ℕ) (xs : List X) where
  pub counted_length : length (take n (map f xs)) ≡ min (length xs) n
  counted_length = let e = length-take n (map f xs) in let g = length-map xs f in omega arith

  pub counted_at : (i : ℕ) (d : X) (e : Y) → i < min (length xs) n → get_or (take n (map f xs)) i e ≡ f (get_or xs i d)
  counted_at i d e h = get_or-take n (map f xs) i e (omega arith) ∙ get_or-map f xs i d e (omega arith)

  pub counted_past : (i : ℕ) (e : Y) → min (length xs) n ≤ i → get_or (take n (map f xs)) i e ≡ e
  counted_past i e h = get_or_past (take n (map f xs)) i e (omega (arith, counted_length))

-- what holds of two values of each element, and of what is read past them, holds at every number
matched : {X Y Z : Type 0} (f : X → Y) (g : X → Z) (d : Y) (e : Z) (P : Y → Z → Type 0) → ((x : X) → P (f x) (g x)) → P d e → (n : ℕ) (xs : List X) (i : ℕ) → P (get_or (take n (map f xs)) i d) (get_or (take n (map g xs)) i e)
matched f g d e P each past zero xs i = past
matched f g d e P each past (suc n) [] i = past
matched f g d e P each past (suc n) (x ∷ xs) zero = each x
matched f g d e P each past (suc n) (x ∷ xs) (suc i) = matched f g d e P each past n xs i

-- the same of the shapes that count
module _ {Y : Type 0} (f : Shape → Y) (shapes : List Shape) where
  pub counting_length : length (counting f shapes) ≡ min (length shapes) 65535
  unfolding counting
  counting_length = counted_length f 65535 shapes

  pub counting_at : (i : ℕ) (d : Shape) (e : Y) → i < min (length shapes) 65535 → get_or (counting f shapes) i e ≡ f (get_or shapes i d)
  unfolding counting
  counting_at = counted_at f 65535 shapes

  pub counting_past : (i : ℕ) (e : Y) → min (length shapes) 65535 ≤ i → get_or (counting f shapes) i e ≡ e
  unfolding counting
  counting_past = counted_past f 65535 shapes

counting_matched : {Y Z : Type 0} (f : Shape → Y) (g : Shape → Z) (d : Y) (e : Z) (P : Y → Z → Type 0) → ((s : Shape) → P (f s) (g s)) → P d e → (shapes : List Shape) (i : ℕ) → P (get_or (counting f shapes) i d) (get_or (counting g shapes) i e)
unfolding counting
counting_matched f g d e P each past shapes i = matched f g d e P each past 65535 shapes i

-- the shapes that count: how many they are, and their values

pub counted_taken : (n : ℕ) (shapes : List Shape) → n ≡ min (length shapes) 65535 → take n shapes ≡ counted shapes
unfolding counted
counted_taken n shapes is = let e : n ≡ min 65535 (length shapes) = omega arith in ap (λ k. take k shapes) e ∙ take_min 65535 shapes

pub length_counted : (shapes : List Shape) → length (counted shapes) ≡ min (length shapes) 65535
unfolding counted
length_counted shapes = omega (arith, length-take 65535 shapes)

-- the value of the shape that is found at a number, or what stands for a missing one
value_told : {Y : Type 0} (f : Shape → Y) (none : Y) (shapes : List Shape) (leaf : ℕ) (r : Option (Bor Shape)) → IsItemAt (counted shapes) leaf r → unwrap_or (option_map f (option_copied r)) none ≡ get_or (counting f shapes) leaf none
unfolding counted
value_told f none shapes leaf None is =
    sym (counting_past f shapes leaf none (omega (arith, length_counted shapes, is)))
value_told f none shapes leaf (Some x) is =
    let counts : leaf < min (length shapes) 65535 = omega (arith, length_counted shapes, is) in
    ap f (is.1 ∙ get_or-take 65535 shapes leaf x.now (omega arith)) ∙ sym (counting_at f shapes leaf x.now none counts)

pub set_told : (shapes : List Shape) (leaf : ℕ) (r : Option (Bor Shape)) → IsItemAt (counted shapes) leaf r → possible_set (option_copied r) ≡ leaf_set (sets_of shapes) leaf
set_told shapes leaf None = value_told shape_set nowhere shapes leaf None
set_told shapes leaf (Some x) = value_told shape_set nowhere shapes leaf (Some x)

pub bound_told : (shapes : List Shape) (leaf : ℕ) (r : Option (Bor Shape)) → IsItemAt (counted shapes) leaf r → possible_bound (option_copied r) ≡ bound_at shapes leaf
bound_told shapes leaf None = value_told shape_bound None shapes leaf None
bound_told shapes leaf (Some x) = value_told shape_bound None shapes leaf (Some x)

shape_bounds : (p : Place) (s : Shape) → shape_set s p ≡ true → Holds (shape_bound s) p
shape_bounds p (Block b) t = (decides_block b p).0 t
shape_bounds p (Slope s) t = in_grid p

pub shapes_facts : (shapes : List Shape) → Facts (meaning_of_shapes shapes)
shapes_facts shapes = record {
  bounds = λ leaf p. counting_matched shape_set shape_bound nowhere None (λ s b. s p ≡ true → Holds b p) (shape_bounds p) (λ t. absurd (false≢true t)) shapes leaf;
  relates = λ leaf c. exactly_says (leaf_set (sets_of shapes) leaf) c;
  missing_bound = λ leaf h. counting_past shape_bound shapes leaf None (omega (arith, counting_length shape_set shapes));
  missing_relation = λ leaf c h. ap (λ s. exactly s c) (get_or_past (sets_of shapes) leaf nowhere h) ∙ exactly_nowhere c;
}
